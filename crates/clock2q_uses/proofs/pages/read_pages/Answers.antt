use Rattle.std.proofs.Common.{rules}
use Rattle.clock2q_uses.proofs.pages.read_pages.Goals as goal

pub returns-clause-pages : goal.returns-clause-pages
returns-clause-pages g c = search rules

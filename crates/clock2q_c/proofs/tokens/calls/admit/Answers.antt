-- The hash of the token is the one that was passed.
use Rattle.clock2q_c.proofs.TokenHash.{token-hash}
use Rattle.clock2q_c.proofs.tokens.calls.admit.Goals as goal

pub returns-clause-hash : goal.returns-clause-hash
returns-clause-hash c = token-hash _ c.args.held.now.cache.hasher c.args.hash c.ranges.hash.fits

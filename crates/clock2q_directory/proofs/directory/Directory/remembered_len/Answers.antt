use Rattle.clock2q_directory.proofs.Names.{length, sym, ap, ◌∙◌, Known}
use Rattle.clock2q_directory.proofs.Histories.{entries_counted}
use Rattle.clock2q_directory.proofs.directory.Directory.remembered_len.Goals as goal

pub returns : goal.returns
returns g c = record { len = c.len.ensures.len ∙ sym (entries_counted c.self.invariant) ∙ ap (λ (z : Known _ _). length z.history.entries) c.self.view_is }

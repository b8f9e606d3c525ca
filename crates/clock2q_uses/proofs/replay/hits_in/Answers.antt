-- No put makes slots.
use Rattle.std.proofs.Common.{rules, sym, subst}
use Rattle.clock2q_text.specs.Commands.{AreSupplied}
use Rattle.clock2q_uses.proofs.Replaying.{puts-supplied}
use Rattle.clock2q_uses.proofs.replay.hits_in.Goals as goal

pub run-requires : goal.run-requires
run-requires c = record { prefills = subst AreSupplied (sym (search rules)) (puts-supplied c.args.trace.now) }

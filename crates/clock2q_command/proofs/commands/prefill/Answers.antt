-- The values were asked for in turn.
use denote.Param.Always.{mut_total}
use Rattle.std.proofs.Common.{rules}
use Rattle.clock2q_cache.proofs.Makers.{made_always}
use Rattle.clock2q_command.proofs.InTurn.{prefilled-given}
use Rattle.clock2q_command.proofs.commands.prefill.Goals as goal

pub prefill-requires : goal.prefill-requires
prefill-requires g c = record { callable = made_always _ _ _ (mut_total _ _ (λ f a. search rules)) }

pub returns : goal.returns
returns g c = record {
  machine = prefilled-given _ (λ f. f.0.now) (λ f. f.1) (λ f v f' called. search rules) _ _ _ c.requires.some c.prefill.ensures.made;
  known = c.prefill.ensures.known;
  hasher = c.prefill.ensures.hasher;
  costs = c.prefill.ensures.costs c.args.values.now;
}

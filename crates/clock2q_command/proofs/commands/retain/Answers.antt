-- The bits were asked for in turn.
use denote.Param.Always.{mut_total}
use Rattle.std.proofs.Common.{rules, ap, ◌∙◌}
use Rattle.clock2q_cache.proofs.Retained.{asked_always}
use Rattle.clock2q_cache.specs.Removals.{known_among}
use Rattle.clock2q_command.proofs.InTurn.{retained-given}
use Rattle.clock2q_command.proofs.commands.retain.Goals as goal

pub retain-requires : goal.retain-requires
retain-requires g c = record { callable = asked_always _ _ _ (mut_total _ _ (λ f a. search rules)) }

pub returns : goal.returns
returns g c =
    let machine = retained-given _ (λ f. f.0.now) (λ f key value b f' called. search rules) _ _ _ c.retain.ensures.retained in
    record {
      machine = machine;
      known = c.retain.ensures.known ∙ ap (λ m. known_among (record { eq = g.K.PartialEq.eq; hash_input = g.K.Hash.hash_input }) g.S.BuildHasher g.S.Hasher.Hasher m c.args.cache.now) machine;
      hasher = c.retain.ensures.hasher;
      costs = c.retain.ensures.costs c.args.bits.now;
    }

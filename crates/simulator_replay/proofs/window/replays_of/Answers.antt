use Rattle.std.proofs.Common.{◌∙◌}
use Rattle.std.specs.NonZero.{non_zero_usize_get}
use Rattle.std.proofs.lemmas.List.{take_all}
use Rattle.simulator_replay.specs.Rows.{IsReplay}
use Rattle.simulator_replay.proofs.Replaying.{kept-more}
use Rattle.simulator_interface.proofs.Zipped.{All-more}
use Rattle.simulator_replay.proofs.window.replays_of.Goals as goal

pub loop-policy-preserved : goal.loop-policy-preserved
loop-policy-preserved g c = record {
  policies = kept-more (λ replay. replay.policy) c.loop-policy.replays.items c.in_ok-replay.replay c.push.new.self.items c.args.policies.now c.loop-policy.policy-index _
      c.loop-policy-test.true c.in-Ok.ensures.items c.loop-policy.invariant.policies c.in_ok-replay.ensures.policy;
  each = All-more (λ replay. IsReplay c.args.shares c.args.trace.now.numbers (non_zero_usize_get c.args.capacity) replay.policy replay.outcomes.items)
      c.loop-policy.replays.items c.in_ok-replay.replay c.push.new.self.items c.in-Ok.ensures.items c.loop-policy.invariant.each c.in_ok-replay.ensures.replay;
}

pub returns-clause-replays : goal.returns-clause-replays
returns-clause-replays g c = record {
  policies = c.loop-policy.invariant.policies ∙ take_all c.loop-policy.policy-index c.args.policies.now c.loop-policy-test.false;
  each = c.loop-policy.invariant.each;
}

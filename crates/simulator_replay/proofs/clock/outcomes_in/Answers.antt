use Rattle.std.proofs.Common.{◌≡◌, ◌++◌, ◌∷◌, [], ap, ◌∙◌, arith, get_or}
use Rattle.std.specs.Option.{is_some}
use Rattle.simulator_policies.proofs.Outcomes.{one_further}
use Rattle.clock2q_machine.specs.MachineHits.{machine_holds, machine_after}
use Rattle.simulator_replay.proofs.clock.outcomes_in.Goals as goal

pub loop-key-preserved : goal.loop-key-preserved
loop-key-preserved g c =
    let hit : c.is_some.result ≡ machine_holds (get_or c.args.trace.now c.loop-key.key-index 0) c.loop-key.cache.machine = c.is_some.ensures ∙ ap is_some c.put.ensures.value in
    record {
      room = omega (arith, c.loop-key.invariant.room, c.push_reserved.ensures.len, c.push_reserved.ensures.capacity, c.loop-key-test.true);
      so_far = rw c.put.ensures.machine
          (one_further machine_holds machine_after c.args.trace.now c.loop-key.key-index
          c.loop-key.outcomes.items c.push_reserved.new.self.items _ c.loop-key.cache.machine
          c.loop-key-test.true c.loop-key.invariant.so_far
          (c.push_reserved.ensures.items ∙ ap (λ is. c.loop-key.outcomes.items ++ is ∷ []) hit));
    }

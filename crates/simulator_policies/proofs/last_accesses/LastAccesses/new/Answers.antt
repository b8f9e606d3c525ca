use Rattle.std.proofs.Common.{◌+◌, ◌*◌, arith, sym, ◌∙◌}
use Rattle.simulator_policies.specs.LastAccesses.{newest}
use Rattle.simulator_policies.proofs.Sums.{sum_none}
use Rattle.simulator_policies.proofs.LastAccesses.{none-yet, none-later}
use Rattle.simulator_policies.proofs.last_accesses.LastAccesses.new.Goals as goal

pub returns : goal.returns
returns g c =
    let stamped = none-yet c.args.trace.now c.in_ok-no_stamps.field-0.items c.in_ok-no_stamps.ensures.none in
    record {
      counting = record {
        known = λ index before. omega (arith, c.requires.below index before, c.in_ok-no_stamps.ensures.long);
        stamped = stamped;
        counts = record {
          tree = c.in_ok-new.ensures.tree;
          covers = omega (arith, c.in_ok-new.ensures.blocks);
          counted = λ block below. c.in_ok-new.ensures.none (c.in_ok-new.field-0.blocks + block)
              ∙ sym (sum_none (newest c.args.trace.now c.in_ok-no_stamps.field-0.items) (16 * block) 16
              (λ i from to. none-later c.args.trace.now c.in_ok-no_stamps.field-0.items 0 i stamped (omega arith)));
          few = λ node. omega (arith, c.in_ok-new.ensures.none node);
        };
      };
    }

use Rattle.std.proofs.Common.{◌≡◌, ◌-◌, ◌≤◌, true, [], map}
use Rattle.std.specs.List.{range_with_len}
use Rattle.tests_queues.proofs.counts.fill_main.Given as goal

abbrev pub invariant-loop-slot : goal.invariant-loop-slot
invariant-loop-slot l =
    (l.queues.slots ≡ 20) × (l.queues.small ≡ []) × (l.queues.main ≡ map (λ slot. (slot, true)) (range_with_len 2 (l.slot - 2)))
    × (l.queues.inspections ≡ l.initial.queues.inspections) × (l.slot ≤ l.queues.made)

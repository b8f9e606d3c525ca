use Rattle.clock2q_cache.proofs.Names.{◌≡◌, ◌+◌, ◌-◌, ◌≤◌, ◌++◌, reverse, vec_len, vec_capacity, range_with_len}
use Rattle.clock2q_cache.proofs.cache.filling.free_down.Given as goal

abbrev pub invariant-loop-slot : goal.invariant-loop-slot
invariant-loop-slot g l = (l.from ≤ l.slot) × (l.slot ≤ l.to)
    × (l.free.items ≡ l.initial.free.items ++ reverse (range_with_len l.slot (l.to - l.slot)))
    × (vec_len l.free + l.slot ≡ vec_len l.initial.free + l.to)
    × (vec_capacity l.free ≡ vec_capacity l.initial.free)

abbrev pub decreases-loop-slot : goal.decreases-loop-slot
decreases-loop-slot g l = l.slot - l.from

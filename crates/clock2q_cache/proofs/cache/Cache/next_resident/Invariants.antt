use Rattle.clock2q_cache.proofs.Names.{◌≡◌, ◌+◌, entries_from}
use Rattle.clock2q_cache.proofs.cache.Cache.next_resident.Given as goal

-- the slots that were passed have no resident, and each was looked at once
abbrev pub invariant-loop-slot : goal.invariant-loop-slot
invariant-loop-slot g l = (entries_from l.self.machine l.from ≡ entries_from l.self.machine l.slot) × (l.looks.total + l.from ≡ l.initial.looks.total + l.slot)

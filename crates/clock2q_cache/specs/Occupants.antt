-- Who had a slot before a key got it.
use Rattle.std.specs.Prelude.{ℕ, Option, Some, None}
use Rattle.clock2q_cache.specs.declared.occupant.Occupant.{Occupant}
use Rattle.clock2q_cache.specs.declared.occupant.Occupant.TheVariants.{Itself, Nobody, Other}

-- the key that was evicted from a slot, with the slot
abbrev pub evicted_from : {K : Type 0} → ℕ → Occupant K → Option (K × ℕ)
evicted_from slot Itself = None
evicted_from slot Nobody = None
evicted_from slot (Other key) = Some (key, slot)

-- Who has a slot until a key enters it.
use Rattle.std.specs.Prelude.{ℕ, eqb, if◌then◌else◌, Option, Some, None, is_some}
use Rattle.std.specs.Option.{option_map}
use Rattle.clock2q_machine.specs.Calls.{Put}
use Rattle.clock2q_machine.specs.Leaving.{leaver}
use Rattle.clock2q_machine.specs.Machine.{Machine, slot_of}
use Rattle.clock2q_cache.specs.declared.occupant.Occupant.{Occupant}
use Rattle.clock2q_cache.specs.declared.occupant.Occupant.TheVariants.{Itself, Nobody, Other}

-- the key itself if it has a slot, otherwise the one that loses its slot to it
abbrev pub holder : ℕ → Machine ℕ (Unit {0}) → Option ℕ
holder key m = if is_some (slot_of (eqb key) m) then Some key else option_map (λ r. r.0) (leaver eqb (Put key tt) m)

-- the same, as an occupant says it
abbrev pub occupied_by : ℕ → Occupant ℕ → Option ℕ
occupied_by key Itself = Some key
occupied_by key Nobody = None
occupied_by key (Other evicted) = Some evicted

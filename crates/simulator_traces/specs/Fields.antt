-- What the bytes of a line of values with a separator do to the fields that are still to come, and to the key.
use Rattle.std.specs.Prelude.{◌≡◌, ℕ, zero, suc, ◌<◌, List, [], ◌++◌, slice_get, Option, Some, None}
use Rattle.std.specs.Option.{option_map, option_and_then}
use Rattle.simulator_traces.specs.declared.csv.Place.TheVariants.{Start}
use Rattle.simulator_traces.specs.declared.csv.Step.{Step}
use Rattle.simulator_traces.specs.declared.csv.Step.TheVariants.{Add, Skip, End}
use Rattle.simulator_traces.specs.Formats.{fields_from, with_byte, with_end}

-- the fields from a byte on, by what the byte is and those of the rest
abbrev pub after_step : ℕ → Option Step → ℕ → List ℕ → Option (List (List ℕ))
after_step separator None byte rest = None
after_step separator (Some (Add next)) byte rest = with_byte byte (fields_from separator next rest)
after_step separator (Some (Skip next)) byte rest = fields_from separator next rest
after_step separator (Some End) byte rest = with_end (fields_from separator Start rest)

-- the key, from what there is of it, if its column is the left-th of these fields; it is before them if none is left
abbrev pub found : ℕ → List ℕ → List (List ℕ) → Option (List ℕ)
found zero key fields = Some key
found (suc zero) key fields = option_map (λ more. key ++ more) (slice_get fields 0)
found (suc (suc n)) key fields = slice_get fields (suc n)

abbrev pub found_in : ℕ → List ℕ → Option (List (List ℕ)) → Option (List ℕ)
found_in left key fields = option_and_then (found left key) fields

-- the key is empty before its field
abbrev pub IsEarly : ℕ → List ℕ → Type 0
IsEarly left key = 1 < left → key ≡ []

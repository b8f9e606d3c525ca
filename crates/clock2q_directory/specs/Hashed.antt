-- Keys by their hashes.
use Rattle.std.specs.Prelude.{ℕ, Bool, false, ◌==◌, List, slice_get, Some, None}
use Rattle.clock2q_directory.specs.declared.keys.Entry.{Entry}

-- whether the key at a place has this hash
abbrev pub has_hash : {K V : Type 0} → List (Entry K V) → ℕ → ℕ → Bool
has_hash entries hash place = elim (slice_get entries place) [ None ↦ false | Some e ↦ e.hash == hash ]

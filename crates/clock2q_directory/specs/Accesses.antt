-- How many slots of a table a change reads and writes at most.
use Rattle.std.specs.Prelude.{ℕ, ◌+◌, ◌*◌, Bool, if◌then◌else◌, List}
use Rattle.clock2q_handles.specs.Layout.{layout, walk, run}

-- the most slots that an insertion, a removal or a replacement under a hash reads and writes: the walk of the hash, and
-- twice its run with the slot of one more entry
abbrev pub most_changed : List (List (ℕ × ℕ)) → ℕ → ℕ
most_changed homes x = walk homes x + 2 * (run (layout homes) x + 1)

-- the most that an insertion does: no walk if a lookup has found the gap of the hash
abbrev pub most_inserted : (is_found : Bool) → List (List (ℕ × ℕ)) → ℕ → ℕ
most_inserted is_found homes x = (if is_found then 0 else walk homes x) + 2 * (run (layout homes) x + 1)

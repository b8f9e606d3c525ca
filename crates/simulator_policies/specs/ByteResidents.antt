-- The residents of a cache for a number of bytes, given by stamps and the sizes of their admissions.
use Rattle.std.specs.Prelude.{◌≡◌, ℕ, ◌≤◌, List, get_or, map}
use Rattle.simulator_policies.specs.declared.byte_caches.ByteResidents.{ByteResidents}
use Rattle.simulator_policies.specs.ByteCaches.{Entry, total}
use Rattle.simulator_policies.specs.Stamps.{held_at, AreStamps, AreStamped}

abbrev pub entry : List ℕ → ℕ → Entry
entry sizes key = record { key = key; size = get_or sizes key 0 }

-- the entries after the first `at` keys of a trace, newest first
abbrev pub entries_at : List ℕ → List ℕ → List ℕ → ℕ → ℕ → List Entry
entries_at trace stamps sizes left at = map (entry sizes) (held_at trace stamps left at)

abbrev pub entries_by : {A : Type 0} → List ℕ → ℕ → ByteResidents A → List Entry
entries_by trace at residents = entries_at trace residents.stamps.items residents.sizes.items residents.left at

-- they are given by stamps, and their sizes are added up
pub record IsByteHolding {A : Type 0} (trace : List ℕ) (at : ℕ) (residents : ByteResidents A) : Type 0 where
  pub known : AreStamped trace residents.stamps.items
  pub sized : AreStamped trace residents.sizes.items
  pub stamped : AreStamps trace residents.stamps.items at
  pub begun : residents.left ≤ at
  pub used : residents.used ≡ total (entries_by trace at residents)

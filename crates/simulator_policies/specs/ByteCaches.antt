-- LRU and FIFO over keys of unequal sizes, in a cache for a number of bytes.
use Rattle.std.specs.Prelude.{ℕ, ◌+◌, ◌-◌, Bool, false, ◌||◌, ◌==◌, nat_le, if◌then◌else◌, List, [], ◌∷◌, ◌++◌}
use Rattle.simulator_policies.specs.declared.plain.PlainPolicy.{PlainPolicy}
use Rattle.simulator_policies.specs.declared.plain.PlainPolicy.TheVariants.{LeastRecentlyUsed, FirstInFirstOut}

-- a cache is a list of keys, each with the size that it had when it was admitted; the last ones are evicted
pub record Entry : Type 0 where
  pub key : ℕ
  pub size : ℕ

abbrev pub total : List Entry → ℕ
total [] = 0
total (first ∷ held) = first.size + total held

abbrev pub holds : ℕ → List Entry → Bool
holds key [] = false
holds key (first ∷ held) = (first.key == key) || holds key held

-- the first entries that fit together
abbrev pub fitting : ℕ → List Entry → List Entry
fitting room [] = []
fitting room (first ∷ held) = if nat_le first.size room then first ∷ fitting (room - first.size) held else []

-- a new key comes to the front, and the last ones are evicted until it fits; one larger than the cache isn't admitted
abbrev pub admitted : ℕ → ℕ → ℕ → List Entry → List Entry
admitted capacity key size held = if nat_le size capacity then record { key = key; size = size } ∷ fitting (capacity - size) held else held

-- the entry of a key, and the others
abbrev pub entry_of : ℕ → List Entry → List Entry
entry_of key [] = []
entry_of key (first ∷ held) = if first.key == key then first ∷ [] else entry_of key held

abbrev pub others : ℕ → List Entry → List Entry
others key [] = []
others key (first ∷ held) = if first.key == key then others key held else first ∷ others key held

-- after a hit: the key moves to the front, or nothing changes
abbrev pub after_byte_hit : PlainPolicy → ℕ → List Entry → List Entry
after_byte_hit LeastRecentlyUsed key held = entry_of key held ++ others key held
after_byte_hit FirstInFirstOut key held = held

abbrev pub byte_after : PlainPolicy → ℕ → ℕ → ℕ → List Entry → List Entry
byte_after policy capacity key size held = if holds key held then after_byte_hit policy key held else admitted capacity key size held

-- whether each access of a trace hits, by the keys and the sizes of the accesses
abbrev pub byte_outcomes_from : PlainPolicy → ℕ → List ℕ → List ℕ → List Entry → List Bool
byte_outcomes_from policy capacity [] sizes held = []
byte_outcomes_from policy capacity (key ∷ trace) [] held = []
byte_outcomes_from policy capacity (key ∷ trace) (size ∷ sizes) held = holds key held ∷ byte_outcomes_from policy capacity trace sizes (byte_after policy capacity key size held)

abbrev pub byte_outcomes : PlainPolicy → ℕ → List ℕ → List ℕ → List Bool
byte_outcomes policy capacity trace sizes = byte_outcomes_from policy capacity trace sizes []

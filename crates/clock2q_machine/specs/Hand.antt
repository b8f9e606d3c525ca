-- The hand's choice in a ring of entries of any kind, each with a hit bit.
use Rattle.std.specs.Prelude.{ℕ, ◌+◌, Bool, List, ◌++◌, map, take, drop}
use Rattle.std.specs.List.{prefix_len}

module _ {E : Type 0} (bit : E → Bool) where
  -- the number of entries that the hand passes: the longest front of set bits
  abbrev pub set_front : List E → ℕ
  set_front ring = prefix_len bit ring

  -- the hand inspects each entry that it passes, and the victim
  abbrev pub inspections : List E → ℕ
  inspections ring = set_front ring + 1

  -- the entries that the hand passed move behind the rest, with clear bits: the victim is then the first entry, and the
  -- entries after it are the new ring
  abbrev pub from_victim : (E → E) → List E → List E
  from_victim clear ring = drop (set_front ring) ring ++ map clear (take (set_front ring) ring)

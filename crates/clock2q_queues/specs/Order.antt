-- The places of the history in the order of their keys, and the chain of the free ones.
use Rattle.std.specs.Prelude.{◌≡◌, ℕ, ◌+◌, ◌^◌, ◌<◌, ◌≤◌, List, [], ◌∷◌, ◌++◌, length, Option, nat_eq}
use Rattle.std.specs.List.{AllByRecursion, IsDistinct}
use Rattle.clock2q_queues.specs.Rings.{around}
use Rattle.clock2q_queues.specs.Links.{Record, IsQueue, slots_from, next_at}
use Rattle.clock2q_queues.specs.Ring.{RingState}
use Rattle.clock2q_queues.specs.declared.order.Chain.{Chain}

-- the places that hold a key, the newest key's first, the free ones that were used before, the number of places in all,
-- and the number of accesses to records
pub record PlaceOrder : Type 0 where
  pub places : List ℕ
  pub free : List ℕ
  pub limit : ℕ
  pub accesses : ℕ

-- no place was used yet
abbrev pub unused : ℕ → PlaceOrder
unused limit = record { places = []; free = []; limit = limit; accesses = 0 }

-- the number of places that were used
abbrev pub used : PlaceOrder → ℕ
used o = length o.places + length o.free

-- the place for the next key, with `len` places in order: the head of the chain, or else the first unused one
abbrev pub place_for : ℕ → List ℕ → ℕ
place_for len [] = len
place_for len (place ∷ free) = place

abbrev pub next_place : PlaceOrder → ℕ
next_place o = place_for (length o.places) o.free

-- the free places, from the head of the chain
abbrev pub free_places : List Record → Chain → List ℕ
free_places rs chain = around (next_at rs) chain.head chain.len

-- the order consists of `places`, and the chain of `free`: together the places that were used, each of them once, and
-- these alone have neighbours
pub record IsOrderOf (rs : RingState) (newest : Option ℕ) (len : ℕ) (chain : Chain) (places free : List ℕ) : Type 0 where
  pub queue : IsQueue rs.cells.items newest len places
  pub chained : free_places rs.cells.items chain ≡ free
  pub apart : IsDistinct nat_eq (places ++ free)
  pub below : AllByRecursion (λ s. s < length places + length free) (places ++ free)
  pub within : length places + length free ≤ length rs.cells.items
  pub made : rs.made ≡ length places + length free

-- the records represent the order and the chain
abbrev pub IsOrder : RingState → Option ℕ → ℕ → Chain → Type 0
IsOrder rs newest len chain = IsOrderOf rs newest len chain (slots_from rs.cells.items newest len) (free_places rs.cells.items chain)

-- the order and the chain, as the records hold them
abbrev pub order_shown : RingState → Option ℕ → ℕ → Chain → PlaceOrder
order_shown rs newest len chain = record { places = slots_from rs.cells.items newest len; free = free_places rs.cells.items chain; limit = length rs.cells.items; accesses = rs.cells.accesses }

-- what callers may rely on: no place occurs twice, each was used, and no more were used than there are
pub record IsWholeOrder (o : PlaceOrder) : Type 0 where
  pub apart : IsDistinct nat_eq (o.places ++ o.free)
  pub below : AllByRecursion (λ s. s < used o) (o.places ++ o.free)
  pub within : used o ≤ o.limit
  pub countable : o.limit < 2 ^ 32

-- The locations of a queue's slots say that they are in a queue.
use Rattle.clock2q_queues.proofs.Names.{◌≡◌, ℕ, true, List, [], ◌∷◌, refl, eqb, list_any, Location, Free, SmallYoung, SmallOld, Main, Small, is_linked, Record, LinkState, location_at, next_at}
use Rattle.clock2q_queues.proofs.Names.{previous_at, IsMainQueue, main_slots, IsInSmall, IsSmallQueue, small_slots, among_first, among_later, arith}
use Rattle.clock2q_queues.specs.declared.entries.Location.TheVariants as at
use Rattle.clock2q_queues.proofs.Joining.{next_in, previous_in}

pub in_small_linked : (location : Location) → IsInSmall location → is_linked location ≡ true
in_small_linked (SmallYoung position) i = refl
in_small_linked SmallOld i = refl
in_small_linked Free i = absurd i
in_small_linked at.Main i = absurd i

-- a slot is in a queue, and so are its neighbours
pub record AreInQueue (l : LinkState) (slot : ℕ) : Type 0 where
  pub own : is_linked (location_at l.records.items slot) ≡ true
  pub next : is_linked (location_at l.records.items (next_at l.records.items slot)) ≡ true
  pub previous : is_linked (location_at l.records.items (previous_at l.records.items slot)) ≡ true

pub small_linked : (l : LinkState) (small : Small) → IsSmallQueue l small → (slot : ℕ) → list_any (eqb slot) (small_slots l small) ≡ true → AreInQueue l slot
small_linked l small m slot there = grind (arith, in_small_linked, next_in, previous_in)

pub main_linked : (l : LinkState) (main : Main) → IsMainQueue l main → (slot : ℕ) → list_any (eqb slot) (main_slots l main) ≡ true → AreInQueue l slot
main_linked l main m slot there = grind (arith, next_in, previous_in)

-- so are all of these slots
abbrev pub AllLinked : List Record → List ℕ → Type 0
AllLinked rs [] = Unit {0}
AllLinked rs (s ∷ ss) = (is_linked (location_at rs s) ≡ true) × AllLinked rs ss

pub all_linked : (rs : List Record) (ss : List ℕ) → ((t : ℕ) → list_any (eqb t) ss ≡ true → is_linked (location_at rs t) ≡ true) → AllLinked rs ss
all_linked rs [] each = tt
all_linked rs (s ∷ ss) each = (each s (among_first s ss), all_linked rs ss (λ t h. each t (among_later t s ss h)))

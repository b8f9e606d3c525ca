-- What the calls that take a closure require of it, and what they do with it.
use Rattle.std.specs.Prelude.{◌≡◌, ℕ, ◌+◌, Bool, List, [], ◌∷◌, ◌++◌, map, length, slice_get, Some}
use Rattle.std.specs.Borrow.{Bor}
use Rattle.std.specs.Fn.{Mut, Called, Takes as IsCallableAt}
use Rattle.std.specs.Option.{UnwrapsOrElse}
use Rattle.std.specs.List.{FoldsTo, AllByRecursion}
use Rattle.std.specs.List.Retain.{ReturnsInTurn}
use Rattle.clock2q_directory.specs.declared.keys.Entry.{Entry}
use Rattle.clock2q_machine.specs.Machine.{Machine, slot_of, value_of, placement, reused, stored, by_slot, prefilled}
use Rattle.clock2q_machine.specs.Steps.{put, fetched, slotted, slotted_at, retained}

module _ {F K V : Type 0} (g : Mut F (Bor K × (Bor V × Unit {0})) Bool) where
  -- a call with the key of a resident and the value of its slot returned b
  pub record AsksResident (values : List V) (f : F) (resident : K × ℕ) (b : Bool) (f' : F) : Type 0 where
    pub key : Bor K
    pub value : Bor V
    pub shows : (key.now ≡ resident.0) × (slice_get values resident.1 ≡ Some value.now)
    pub called : Called g f (key, (value, tt)) b f'

  -- f may be called with the key of the first resident and the value of its slot and, whatever it returns, with the
  -- next
  abbrev pub TakesResidents : List V → F → List (K × ℕ) → Type 0
  TakesResidents values f [] = Unit {0}
  TakesResidents values f (r ∷ rs) = (key : Bor K) (value : Bor V) → key.now ≡ r.0 → slice_get values r.1 ≡ Some value.now
      → IsCallableAt g f (key, (value, tt)) × ((b : Bool) (next : F) → Called g f (key, (value, tt)) b next → TakesResidents values next rs)

  -- f may be called for each resident, by ascending slot
  pub record MayBeAsked (f : F) (m : Machine K V) : Type 0 where
    pub in_turn : TakesResidents m.values f (by_slot m)

  -- there was one call for each resident, by ascending slot, and the residents for which it returned false left
  pub record Retains (f : F) (old new : Machine K V) : Type 0 where
    pub bits : List Bool
    pub last : F
    pub as_many : length bits ≡ length (by_slot old)
    pub asked : ReturnsInTurn (AsksResident old.values) f bits (by_slot old) last
    pub becomes : new ≡ retained bits old

module _ {F K V : Type 0} (g : Mut F Unit V) where
  -- there was one call for each slot that was never made, in order, and each of these slots has the value that it
  -- returned
  pub record Prefills (f : F) (old new : Machine K V) : Type 0 where
    pub made : List V
    pub last : F
    pub as_many : length old.values + length made ≡ old.shares.capacity
    pub called : FoldsTo (λ p value q. Called g p tt value q) f made last
    pub becomes : new ≡ prefilled made old

  -- entries were added up to this number, each with the hash of its key and a value that the closure returned, in order
  pub record FillsUp (f : F) (hash : K → ℕ) (many : ℕ) (old new : List (Entry K V)) (last : F) : Type 0 where
    pub added : List (Entry K V)
    pub is : new ≡ old ++ added
    pub as_many : length old + length added ≡ many
    pub hashed : AllByRecursion (λ e. e.hash ≡ hash e.key) added
    pub called : FoldsTo (λ p value q. Called g p tt value q) f (map (λ e. e.value) added) last

module _ {K V : Type 0} (is : K → Bool) (key : K) (made : V → Type 0) where
  -- the key is hit, or inserted with a value that was made; its value is at this slot, and storing another one there is
  -- like a put
  pub record Fetches (old : Machine K V) (slot : ℕ) (new : Machine K V) : Type 0 where
    pub value : V
    pub had : UnwrapsOrElse (value_of is old) made value
    pub there : slice_get new.values slot ≡ Some value
    pub becomes : new ≡ fetched is key value old
    pub writes : (w : V) → stored slot w new ≡ put is key w old

  -- the key is inserted; a slot that was made before keeps its value, and a new one gets a value that was made
  pub record Reuses (old new : Machine K V) : Type 0 where
    pub value : V
    pub had : UnwrapsOrElse (slice_get old.values (placement is key old).slot) made value
    pub becomes : new ≡ reused is key value old

  -- the key is hit or inserted; a slot that was made before keeps its value, and a new one gets a value that was made;
  -- storing another value there is like a put
  pub record TakesSlot (old : Machine K V) (slot : ℕ) (new : Machine K V) : Type 0 where
    pub value : V
    pub at : slot ≡ slotted_at (slot_of is old) is key old
    pub had : UnwrapsOrElse (slice_get old.values slot) made value
    pub there : slice_get new.values slot ≡ Some value
    pub becomes : new ≡ slotted is key value old
    pub writes : (w : V) → stored slot w new ≡ put is key w old

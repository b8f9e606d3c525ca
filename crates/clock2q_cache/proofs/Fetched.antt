-- A key that is hit, or inserted with a value that was made.
use Rattle.clock2q_cache.proofs.Names.{◌≡◌, ℕ, Bool, Some, None, arith, IsEquivalence, Machine, slot_of, hit, inserted, placement, put, fetched, IsWhole, Fetches, resident_made, stored_again, stored_same, get-within, slot_at_most, inserted_value}

-- so a value that was fetched and is not written to stays as it was fetched
pub unwritten : {K V : Type 0} {is : K → Bool} {key : K} {made : V → Type 0} {old new : Machine K V} {slot : ℕ} (f : Fetches is key made old slot new)
    → put is key f.value old ≡ fetched is key f.value old
unwritten {new = new} {slot} f = grind (arith, f.writes f.value, stored_same new slot f.value f.there, f.becomes)

module _ {K V : Type 0} (eq : K → K → Bool) (laws : IsEquivalence eq) (m : Machine K V) (h : IsWhole eq m) (key : K) (made : V → Type 0) where
  pub hit-fetches : (slot : ℕ) → slot_of (eq key) m ≡ Some slot → Fetches (eq key) key made m slot (hit (eq key) m)
  hit-fetches slot found = grind (arith, get-within m.values slot (resident_made eq laws (eq key) m h slot found))

  pub new-fetches : slot_of (eq key) m ≡ None → (value : V) → made value → Fetches (eq key) key made m (placement (eq key) key m).slot (inserted (eq key) key value m)
  new-fetches absent value gave =
      grind (arith, inserted_value eq laws m h key absent value, stored_again (placement (eq key) key m).machine (placement (eq key) key m).slot value, slot_at_most eq laws m h key absent)

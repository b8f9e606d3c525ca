-- When a key that is placed makes a slot, and when it finds a value in one.
use Rattle.clock2q_cache.proofs.Names.{◌≡◌, ℕ, ◌<◌, ◌==◌, Bool, false, not, ◌&&◌, List, [], ◌∷◌, length, Option, Some, None, refl, arith, HashMembers, CacheState, discarded, unknown_once_forgotten, nat_lt, is_some, IfSome, IfNone, IsEquivalence, slice_get_past, sum_by-cons, Machine, Placement, vacancy, vacant_slot, goes_to_main, placement, forgotten, slot_of, hit, IsWhole, Reuses, TakesSlot, Fills, into_queue, next_is_vacant, makes_slot, one_if, counted_made, victim_made, no_vacancy, all_resident, placed-main, placed-small, length-from_victim, resident_made, get-within, slot_at_most, reused_value, stored_again, stored_same, Found, found_gap, IsAbsent, IsFoundFor, IsAdmitted, IsUnknown}
use Rattle.std.specs.declared.hash.Hasher as hasher
use Rattle.std.specs.declared.hash.BuildHasher as builder
use Rattle.clock2q_cache.proofs.Insertions.{gap-still}

module _ {K V : Type 0} (eq : K → K → Bool) (m : Machine K V) (h : IsWhole eq m) where
  -- the vacancy is a new slot if none is free
  vacant-made : (slot : ℕ) → vacancy m ≡ Some slot → nat_lt slot (length m.values) ≡ not (next_is_vacant m)
  vacant-made slot is = by m.free refl is where
    by : (free : List ℕ) → m.free ≡ free → vacant_slot free (length m.values) m.shares.capacity ≡ Some slot
        → nat_lt slot (length m.values) ≡ not ((length free == 0) && nat_lt (length m.values) m.shares.capacity)
    by [] e v = grind arith
    by (f ∷ fs) e v = grind (arith, counted_made eq m h slot, sum_by-cons (λ s. one_if (s == slot)) f fs)

  module _ (key : K) where
    pub placed-values : (main : Bool) → (main ≡ false → goes_to_main false m ≡ false) → (into_queue main key m).machine.values ≡ m.values
    placed-values main small = grind (arith, placed-main eq m h key, placed-small eq m h key)

    pub placed-makes : (main : Bool) → (main ≡ false → goes_to_main false m ≡ false) → nat_lt (into_queue main key m).slot (length m.values) ≡ not (makes_slot main m)
    placed-makes main small =
        grind (arith, length-from_victim m.main, victim_made eq m h, h.small_below, h.small_within, h.main_within, all_resident eq m h, vacant-made, no_vacancy, placed-small eq m h key)

-- how a key is placed if its history is erased first
module _ {K V : Type 0} (eq : K → K → Bool) (key : K) {m m1 : Machine K V} {main : Bool} (s : IsAdmitted (eq key) m m1 main) where
  pub small-unknown : main ≡ false → goes_to_main false m1 ≡ false
  small-unknown small = grind (arith, s)

  pub placed-there : into_queue main key m1 ≡ placement (eq key) key m
  placed-there = grind (arith, s.erased, s.goes)

  pub fills-there : (value : Option V) (new : Machine K V) → Fills value (into_queue main key m1) m1 new → Fills value (placement (eq key) key m) m new
  fills-there value new f = grind (arith, placed-there)

  -- whether a slot is made for it
  module _ (whole : IsWhole eq m1) (makes : Bool) (is : makes ≡ makes_slot main m1) where
    pub makes-here : nat_lt (into_queue main key m1).slot (length m1.values) ≡ not makes
    makes-here = grind (arith, placed-makes eq m1 whole key main, small-unknown)

    pub makes-there : nat_lt (placement (eq key) key m).slot (length m.values) ≡ not makes
    makes-there = grind (arith, placed-there, s.erased, makes-here)

    pub values-there : (placement (eq key) key m).machine.values ≡ m.values
    values-there = grind (arith, placed-there, s.erased, placed-values eq m1 whole key main small-unknown)

-- a key that is erased from the history is not known then
pub still-unknown : {K V S H : Type 0} {key : HashMembers K} {build : builder.Ghosts S H} {hash : hasher.Ghosts H} {found : Found} {k : K} {x : ℕ} {old new : CacheState K V S}
    → IsFoundFor key.eq found k x old → IsAbsent key build hash k x old → new.machine ≡ forgotten (key.eq k) old.machine → new.hasher ≡ old.hasher → new.known ≡ discarded (key.eq k) x old
    → IsUnknown key build hash k x (found_gap found) new
still-unknown {found = found} f a erased hasher known = grind (arith, unknown_once_forgotten, gap-still found f known, a.absent, a.hashed)

-- if no value is given, the slot was made before
pub made-or-none : {V : Type 0} (value : Option V) (slot made : ℕ) → nat_lt slot made ≡ not (is_some value) → IfNone value (slot < made)
made-or-none value slot made is = grind arith

-- a slot keeps its value, or a new one gets the one that was made
module _ {K V : Type 0} (is : K → Bool) (key : K) (made : V → Type 0) (m : Machine K V) (values : (placement is key m).machine.values ≡ m.values) where
  pub reuses : (value : Option V) (new : Machine K V) → nat_lt (placement is key m).slot (length m.values) ≡ not (is_some value)
      → IfSome value made → Fills value (placement is key m) m new → Reuses is key made m new
  reuses value new has gave f = grind (arith, f.is, stored_same, slice_get_past)

module _ {K V : Type 0} (eq : K → K → Bool) (laws : IsEquivalence eq) (m : Machine K V) (h : IsWhole eq m) (key : K) (made : V → Type 0) where
  module _ (absent : slot_of (eq key) m ≡ None) where
    abbrev p : Placement K V
    p = placement (eq key) key m

    pub new-takes : (slot : ℕ) (new : Machine K V) → slot ≡ p.slot → Reuses (eq key) key made m new → TakesSlot (eq key) key made m slot new
    new-takes slot new at r = grind (arith, reused_value eq laws m h key absent, stored_again p.machine p.slot, slot_at_most eq laws m h key absent)

  -- a resident keeps its slot and its value
  pub hit-takes : (slot : ℕ) → slot_of (eq key) m ≡ Some slot → TakesSlot (eq key) key made m slot (hit (eq key) m)
  hit-takes slot found = grind (arith, get-within m.values slot (resident_made eq laws (eq key) m h slot found))

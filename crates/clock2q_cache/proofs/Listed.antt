-- What a caller may rely on about an iterator over the residents: each of its entries has its key's value, and each key
-- that has a value is there.
use Rattle.clock2q_cache.proofs.Names.{◌≡◌, ℕ, zero, suc, ◌+◌, ◌-◌, ◌<◌, ◌≤◌, ◌==◌, Bool, true, ◌&&◌, Option, Some, None, List, [], ◌∷◌, length, refl, arith, eqb-true, eq-eqb, IsEquivalence, filter_map, range_with_len, find, count_by, list_any, AllByRecursion, sum_by-cons, Machine, residents, resident_at, slot_of, value_of, IsWhole, one_if, get-within, found_at, resident_once, resident_made, slots_apart, counted_residents, entry_at, entries}
use Rattle.clock2q_cache.proofs.Vacated.{found-resident}

module _ {X : Type 0} (p q : X → Bool) where
  -- what is found passes, and is counted
  found_passes : (xs : List X) (x : X) → find p xs ≡ Some x → p x ≡ true
  found_passes [] x is = absurd (cc)
  found_passes (y ∷ xs) x is = grind (arith, found_passes xs x)

  found_counted : (xs : List X) (x : X) → find p xs ≡ Some x → q x ≡ true → 0 < count_by q xs
  found_counted [] x is passes = absurd (cc)
  found_counted (y ∷ xs) x is passes = grind (arith, sum_by-cons (λ z. one_if (q z)) y xs, found_counted xs x)

module _ {X : Type 0} (f : ℕ → Option X) where
  -- what holds of each value of a function holds of all values that are kept
  all_kept : (P : X → Type 0) → ((n : ℕ) (x : X) → f n ≡ Some x → P x) → (ns : List ℕ) → AllByRecursion P (filter_map f ns)
  all_kept P each [] = tt
  all_kept P each (n ∷ ns) = grind (arith, each n, all_kept P each ns)

  -- a value in a range that passes is among those that are kept
  any_kept : (test : X → Bool) (at : ℕ) (x : X) → f at ≡ Some x → test x ≡ true → (from n : ℕ) → from ≤ at → at < from + n → list_any test (filter_map f (range_with_len from n)) ≡ true
  any_kept test at x is passes from zero low high = absurd (omega (arith, low, high))
  any_kept test at x is passes from (suc n) low high = grind (arith, any_kept test at x is passes (from + 1) n)

module _ {K V : Type 0} (eq : K → K → Bool) (laws : IsEquivalence eq) (m : Machine K V) (whole : IsWhole eq m) where
  -- a resident that is found at a slot is found there by its key
  pub at_its_slot : (slot : ℕ) (r : K × ℕ) → resident_at m slot ≡ Some r → (r.1 ≡ slot) × (slot_of (eq r.0) m ≡ Some slot)
  at_its_slot slot r there =
      let at = eqb-true r.1 slot (found_passes (λ (x : K × ℕ). x.1 == slot) (λ x. true) (residents m) r there) in
      let is : K → ℕ → Bool = λ k s. eq r.0 k && s == slot in
      let counted = found_counted (λ (x : K × ℕ). x.1 == slot) (λ x. is x.0 x.1) (residents m) r there in
      (at, grind (arith, at, laws.refl r.0, eq-eqb, found_at (eq r.0) m (resident_once eq m whole r.0) slot, counted_residents is m, counted))

  -- a key that is found at a slot is equal to that of the resident there
  pub same-key : (key : K) (slot : ℕ) (r : K × ℕ) → slot_of (eq key) m ≡ Some slot → resident_at m slot ≡ Some r → eq key r.0 ≡ true
  same-key key slot r found there = grind (arith, slots_apart eq laws m whole key r.0, at_its_slot slot r there)

  -- each entry has its key's value
  pub entries-values : AllByRecursion (λ (e : K × ℕ × V). value_of (eq e.0) m ≡ Some e.2) (entries m)
  entries-values = all_kept (entry_at m) (λ (e : K × ℕ × V). value_of (eq e.0) m ≡ Some e.2)
      (λ slot e is. grind (arith, at_its_slot slot)) (range_with_len 0 (length m.values - 0))

  -- and each key that has a value has an entry
  pub entries-listed : (key : K) (v : V) → value_of (eq key) m ≡ Some v → list_any (λ (e : K × ℕ × V). eq key e.0) (entries m) ≡ true
  entries-listed key v had = by_slot (slot_of (eq key) m) refl
    where
      by_slot : (o : Option ℕ) → slot_of (eq key) m ≡ o → list_any (λ (e : K × ℕ × V). eq key e.0) (entries m) ≡ true
      by_slot None absent = absurd (grind arith)
      by_slot (Some slot) found =
          let made = resident_made eq laws (eq key) m whole slot found in
          let value = get-within m.values slot made in
          let any = λ (r : K × ℕ) (is : resident_at m slot ≡ Some r).
          any_kept (entry_at m) (λ (e : K × ℕ × V). eq key e.0) slot (r.0, r.1, value.0) (grind (arith, value.1)) (same-key key slot r found is)
          0 (length m.values - 0) (omega arith) (omega (arith, made)) in
          grind (arith, found-resident (eq key) m slot found, any)

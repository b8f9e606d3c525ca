-- What an iterator over the residents has left: slot by slot, and the number.
use Rattle.clock2q_cache.proofs.Names.{◌≡◌, ℕ, zero, suc, ◌+◌, ◌<◌, ◌≤◌, ◌==◌, Bool, false, Option, Some, List, [], ◌∷◌, map, length, refl, ap, arith, eq-eqb, is_some, IsSome, slice_get, nat_lt, if◌then◌else◌, filter_map, range_with_len, cons_option, find, count_by, map-map, length-map, sum_by-cons, SmallEntry, MainEntry, Machine, residents, resident_at, resident_count, by_slot, IsWhole, one_if, get-within, counted_residents, entry_at, entries_from, entries, key_and_slot, key_of, keys}
use Rattle.std.specs.List.{sum_by}
use Rattle.std.proofs.lemmas.List.{length-append}

module _ {K V : Type 0} (m : Machine K V) where
  one_more : (slot : ℕ) → slot < length m.values → (o : Option (K × ℕ × V)) → entry_at m slot ≡ o → entries_from m slot ≡ cons_option o (entries_from m (slot + 1))
  one_more slot made o at = grind arith

  -- a slot without a resident yields nothing
  pub entries-past : (slot : ℕ) → slot < length m.values → is_some (resident_at m slot) ≡ false → entries_from m slot ≡ entries_from m (slot + 1)
  entries-past slot made none = grind arith

  -- a slot with a resident yields it
  pub entries-there : (slot : ℕ) → slot < length m.values → (key : K) (value : V) → resident_at m slot ≡ Some (key, slot) → slice_get m.values slot ≡ Some value
      → entries_from m slot ≡ (key, slot, value) ∷ entries_from m (slot + 1)
  entries-there slot made key value there has = grind (arith, one_more)

  -- so there is something left
  pub some-left : (slot : ℕ) → slot < length m.values → IsSome (resident_at m slot) → 1 ≤ length (entries_from m slot)
  some-left slot made there = grind (arith, one_more slot made (entry_at m slot) refl, get-within m.values slot made)

  -- the keys and slots are those of the residents at these slots
  keys_and_slots : (from n : ℕ) → from + n ≤ length m.values → map key_and_slot (filter_map (entry_at m) (range_with_len from n)) ≡ filter_map (resident_at m) (range_with_len from n)
  keys_and_slots from zero within = refl
  keys_and_slots from (suc n) within = grind (arith, get-within m.values from, keys_and_slots (from + 1) n)

  pub entries-by_slot : map key_and_slot (entries m) ≡ by_slot m
  entries-by_slot = grind (arith, keys_and_slots)

  -- the keys of the entries are those of the residents by slot
  pub entries-keys : map key_of (entries m) ≡ keys m
  entries-keys = grind (arith, map-map, entries-by_slot)

-- a slot occurs once in a range that has it, and not in one above it
none_above : (s from n : ℕ) → s < from → sum_by (λ slot. one_if (s == slot)) (range_with_len from n) ≡ 0
none_above s from zero above = refl
none_above s from (suc n) above = grind (arith, sum_by-cons, none_above s (from + 1) n (omega (arith, above)))

once_within : (s from n : ℕ) → from ≤ s → s < from + n → sum_by (λ slot. one_if (s == slot)) (range_with_len from n) ≡ 1
once_within s from zero low high = absurd (omega (arith, low, high))
once_within s from (suc n) low high =
    grind (arith, sum_by-cons (λ slot. one_if (s == slot)) from (range_with_len (from + 1) n), once_within s (from + 1) n, none_above s (from + 1) n)

sum_by-none : {X : Type 0} (f : X → ℕ) → ((x : X) → f x ≡ 0) → (xs : List X) → sum_by f xs ≡ 0
sum_by-none f none [] = refl
sum_by-none f none (x ∷ xs) = omega (arith, sum_by-cons f x xs, none x, sum_by-none f none xs)

module _ {K : Type 0} where
  -- the number of residents at a slot
  abbrev standing : List (K × ℕ) → ℕ → ℕ
  standing rs slot = count_by (λ (r : K × ℕ). r.1 == slot) rs

  standing-cons : (r : K × ℕ) (rs : List (K × ℕ)) (slot : ℕ) → standing (r ∷ rs) slot ≡ one_if (r.1 == slot) + standing rs slot
  standing-cons r rs slot = sum_by-cons (λ (r : K × ℕ). one_if (r.1 == slot)) r rs

  -- counted slot by slot all residents are there, if each is below this slot
  all_standing : (n : ℕ) (rs : List (K × ℕ)) → ((slot : ℕ) → 0 < standing rs slot → slot < n) → sum_by (standing rs) (range_with_len 0 n) ≡ length rs
  all_standing n [] below = sum_by-none (standing []) (λ slot. refl) (range_with_len 0 n)
  all_standing n (r ∷ rs) below =
      let here : r.1 < n = below r.1 (omega (arith, standing-cons r rs r.1, ap one_if (eq-eqb r.1 r.1 refl))) in
      let rest = all_standing n rs (λ slot some. below slot (omega (arith, some, standing-cons r rs slot))) in
      omega (arith, each (range_with_len 0 n), once_within r.1 0 n (omega arith) (omega (arith, here)), rest)
    where
      each : (slots : List ℕ) → sum_by (standing (r ∷ rs)) slots ≡ sum_by (λ slot. one_if (r.1 == slot)) slots + sum_by (standing rs) slots
      each [] = refl
      each (s ∷ slots) = omega (
        arith,
        sum_by-cons (standing (r ∷ rs)) s slots,
        sum_by-cons (λ slot. one_if (r.1 == slot)) s slots,
        sum_by-cons (standing rs) s slots,
        standing-cons r rs s,
        each slots,
      )

  -- if at most one resident is at a slot, the number is one exactly if one is found
  found_once : (rs : List (K × ℕ)) (slot : ℕ) → standing rs slot ≤ 1 → one_if (is_some (find (λ (r : K × ℕ). r.1 == slot) rs)) ≡ standing rs slot
  found_once [] slot once = refl
  found_once (r ∷ rs) slot once = grind (arith, standing-cons r rs slot, found_once rs slot)

  found_length : (rs : List (K × ℕ)) → ((slot : ℕ) → standing rs slot ≤ 1) → (slots : List ℕ)
      → length (filter_map (λ slot. find (λ (r : K × ℕ). r.1 == slot) rs) slots) ≡ sum_by (standing rs) slots
  found_length rs once [] = refl
  found_length rs once (s ∷ slots) = grind (arith, sum_by-cons (standing rs) s slots, found_once rs s (once s), found_length rs once slots)

module _ {K V : Type 0} (eq : K → K → Bool) (m : Machine K V) (whole : IsWhole eq m) where
  -- a resident occurs once, at a slot that was made
  once : (slot : ℕ) → standing (residents m) slot ≤ (if nat_lt slot (length m.values) then 1 else 0)
  once slot = omega (arith, whole.slots_once slot, counted_residents (λ k s. s == slot) m)

  once_at_most : (slot : ℕ) → standing (residents m) slot ≤ 1
  once_at_most slot = grind (arith, once slot)

  below : (slot : ℕ) → 0 < standing (residents m) slot → slot < length m.values
  below slot some = grind (arith, once slot)

  -- every resident is yielded once
  pub length-entries : length (entries m) ≡ resident_count m
  length-entries = omega (
    arith,
    length-map {B = K × ℕ} (entries m) key_and_slot,
    ap (λ (zs : List (K × ℕ)). length zs) (entries-by_slot m),
    found_length (residents m) once_at_most (range_with_len 0 (length m.values)),
    all_standing (length m.values) (residents m) below,
    length-append {A = K × ℕ} (map (λ (e : SmallEntry K). (e.key, e.slot)) m.small) (map (λ (e : MainEntry K). (e.key, e.slot)) m.main),
    length-map {B = K × ℕ} m.small (λ (e : SmallEntry K). (e.key, e.slot)),
    length-map {B = K × ℕ} m.main (λ (e : MainEntry K). (e.key, e.slot)),
  )

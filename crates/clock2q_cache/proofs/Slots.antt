-- How often a slot occurs in a cache's queues, and which slots are distinct.
use Rattle.clock2q_cache.proofs.Names.{◌≡◌, ℕ, zero, suc, ◌+◌, ◌<◌, ◌≤◌, ◌==◌, Bool, true, false, cond, Some, List, [], ◌∷◌, ◌++◌, map, length, take, drop, reverse, refl, ap, ◌∙◌, subst, arith, length-append, eqb, length-values, is_some, count_by, both_ways, length-map, sum_by-cons, sum_by-append, slots_of-mapped, or_true, Entry, KeyPlaces, key_at, Remembered, IsEquivalence, Age, grown_older, admitted, from_victim, QueueState, slots_of, list_any-append, eqb_self, eqb_swap, Shares, Machine, vacancy, vacant_slot, standings, machine_of, queued_slots, IsStored, IsCache, distinct_none, distinct_more, list_any, IsDistinct}
use Rattle.clock2q_cache.proofs.WithKeys.{HaveKeys, standing-keyed, length-small, length-main}
use Rattle.clock2q_cache.proofs.Stored.{have_keys, stored-same}

-- how often a slot occurs in a list
abbrev pub times : ℕ → List ℕ → ℕ
times t xs = count_by (λ s. s == t) xs

pub times-cons : (t x : ℕ) (xs : List ℕ) → times t (x ∷ xs) ≡ cond (x == t) 1 0 + times t xs
times-cons t x xs = grind (arith, sum_by-cons (λ s. cond (s == t) 1 0) x xs)

pub times-none : (t : ℕ) (xs : List ℕ) → times t xs ≡ 0 → list_any (eqb t) xs ≡ false
times-none t [] h = refl
times-none t (x ∷ xs) h = grind (arith, times-cons t x xs, times-none t xs (omega (arith, h, times-cons t x xs)))

pub times-some : (t : ℕ) (xs : List ℕ) → list_any (eqb t) xs ≡ true → 0 < times t xs
times-some t [] h = absurd (both_ways false refl h)
times-some t (x ∷ xs) h = grind (arith, times-cons t x xs, eqb_swap, times-some t xs)

pub times-apart : (xs : List ℕ) → ((t : ℕ) → times t xs ≤ 1) → IsDistinct eqb xs
times-apart [] h = distinct_none eqb
times-apart (x ∷ xs) h = distinct_more eqb x xs (grind (arith, times-none x xs, h x, times-cons x x xs, eqb_self x)) (times-apart xs (λ t. omega (arith, h t, times-cons t x xs)))

-- a slot that occurs as often in two lists is in both or in neither
pub times-absent : (t : ℕ) (xs : List ℕ) → list_any (eqb t) xs ≡ false → times t xs ≡ 0
times-absent t [] h = refl
times-absent t (x ∷ xs) h = grind (arith, times-cons t x xs, times-absent t xs, eqb_swap t x)

pub among-times : (t : ℕ) (xs ys : List ℕ) → times t xs ≡ times t ys → list_any (eqb t) xs ≡ list_any (eqb t) ys
among-times t xs ys e = grind (arith, times-some, times-absent, times-none)

-- how often a slot occurs in both queues, and after one entered at the end or at the front
pub times-both : (t : ℕ) (q : QueueState) → times t (queued_slots q) ≡ times t (slots_of q.small) + times t (slots_of q.main)
times-both t q = sum_by-append (λ s. cond (s == t) 1 0) (slots_of q.small) (slots_of q.main)

pub times-pushed : {X : Type 0} (t : ℕ) (ys : List (ℕ × X)) (x : ℕ × X) → times t (slots_of (ys ++ x ∷ [])) ≡ times t (slots_of ys) + cond (x.0 == t) 1 0
times-pushed t [] x = omega (arith, times-cons t x.0 [])
times-pushed t (y ∷ ys) x = omega (arith, times-cons t y.0 (slots_of (ys ++ x ∷ [])), times-cons t y.0 (slots_of ys), times-pushed t ys x)

pub slots-admitted : (window slot : ℕ) (es : List (ℕ × Age)) → slots_of {X = Age} (admitted window slot es) ≡ slot ∷ slots_of es
slots-admitted window slot es = ap (λ zs. slot ∷ zs) (slots_of-mapped (λ a. grown_older window a) es)

pub times-admitted : (t window slot : ℕ) (es : List (ℕ × Age)) → times t (slots_of (admitted window slot es)) ≡ cond (slot == t) 1 0 + times t (slots_of es)
times-admitted t window slot es = ap (times t) (slots-admitted window slot es) ∙ times-cons t slot (slots_of es)

pub length-admitted : (window slot : ℕ) (es : List (ℕ × Age)) → length (admitted window slot es) ≡ suc (length es)
length-admitted window slot es = ap suc (length-map es (λ e. (e.0, grown_older window e.1)))

-- the hand's choice moves entries, and removes none
length-split : (n : ℕ) (main : List (ℕ × Bool)) → length (drop n main) + length (map {B = ℕ × Bool} (λ (e : ℕ × Bool). (e.0, false)) (take n main)) ≡ length main
length-split zero main = omega arith
length-split (suc n) [] = refl
length-split (suc n) (e ∷ main) = omega (arith, length-split n main)

pub length-swept : (main : List (ℕ × Bool)) → length (from_victim main) ≡ length main
length-swept main = grind (arith, length-append, length-split)

pub length-places : (q : QueueState) → length (queued_slots q) ≡ length q.small + length q.main
length-places q =
    length-append (slots_of q.small) (slots_of q.main) ∙ ap (λ n. n + length (slots_of q.main)) (length-map q.small (λ e. e.0)) ∙ ap (λ n. length q.small + n) (length-map q.main (λ e. e.0))

module _ {K V : Type 0} {eq : K → K → Bool} {hash : K → ℕ} {shares : Shares} {q : QueueState} {h : Remembered K} {index : List (List (ℕ × ℕ))} {keys : KeyPlaces K V} {free : List ℕ} {room : ℕ}
    (laws : IsEquivalence eq) (kept : IsCache eq hash shares q h index keys free room) where
  abbrev m : Machine K V
  m = machine_of shares q keys.entries h.entries free

  pub small_have : HaveKeys (key_at keys.entries) (slots_of q.small)
  small_have = λ t g. have_keys keys.entries (queued_slots q) kept.stored.made t (list_any-append (eqb t) (slots_of q.small) (slots_of q.main) ∙ rw g refl)

  pub main_have : HaveKeys (key_at keys.entries) (slots_of q.main)
  main_have = λ t g. have_keys keys.entries (queued_slots q) kept.stored.made t (list_any-append (eqb t) (slots_of q.small) (slots_of q.main) ∙ rw g (or_true (list_any (eqb t) (slots_of q.small))))

  pub standing-times : (t : ℕ) → standings t m ≡ times t (queued_slots q) + times t (reverse free)
  standing-times t = omega (arith, standing-keyed (key_at keys.entries) t q.small q.main small_have main_have, times-both t q)

  pub at_most_once : (t : ℕ) → times t (queued_slots q) + times t (reverse free) ≤ 1
  at_most_once t = grind (arith, standing-times t, kept.whole.slots_once t)

  -- no two residents have the same slot
  pub apart : IsDistinct eqb (queued_slots q)
  apart = times-apart (queued_slots q) (λ t. omega (arith, at_most_once t))

  -- a slot that is free has no resident, and was made
  free_slot : (slot : ℕ) → 0 < times slot (reverse free) → (list_any (eqb slot) (queued_slots q) ≡ false) × (slot < length keys.entries)
  free_slot slot some = grind (arith, times-none slot, at_most_once slot, length-values keys.entries, standing-times slot, kept.whole.slots_once slot)

  -- neither has the next slot
  next_slot : list_any (eqb (length m.values)) (queued_slots q) ≡ false
  next_slot = grind (arith, times-none, standing-times (length m.values), kept.whole.slots_once (length m.values))

  -- a vacancy has no resident, and was made or is the next slot
  pub record IsVacant (slot : ℕ) : Type 0 where
    pub absent : list_any (eqb slot) (queued_slots q) ≡ false
    pub next : slot ≤ length keys.entries
    pub below : slot < shares.capacity

  pub vacant : (slot : ℕ) → vacancy m ≡ Some slot → IsVacant slot
  vacant slot is = of (reverse free) refl is
    where
      of : (fs : List ℕ) → reverse free ≡ fs → vacant_slot fs (length m.values) shares.capacity ≡ Some slot → IsVacant slot
      of (s ∷ fs) at e = grind (arith, free_slot slot, times-cons slot s fs, kept.whole.made_within, length-values keys.entries)
      of [] at e = let same : length m.values ≡ slot = grind arith in grind (arith, subst (λ z. list_any (eqb z) (queued_slots q) ≡ false) same next_slot, length-values keys.entries)

  -- the slot that is taken is the vacancy, if there is one
  pub vacancy-taken : (slot : ℕ) → is_some (vacancy m) ≡ true → vacant_slot (reverse free) (length keys.entries) (length keys.entries + 1) ≡ Some slot → vacancy m ≡ Some slot
  vacancy-taken slot some taken = grind (arith, length-values)

  -- if fewer slots than the capacity have a resident, there is a vacancy
  pub vacancy-there : length q.small + length q.main < shares.capacity → is_some (vacancy m) ≡ true
  vacancy-there few =
      grind (arith, kept.whole.slots_counted, length-small (key_at keys.entries) q.small small_have, length-main (key_at keys.entries) q.main main_have)

-- the same places in another order
pub stored-moved : {K V : Type 0} {hash : K → ℕ} {index : List (List (ℕ × ℕ))} {entries : List (Entry K V)} {places : List ℕ} (q : QueueState) → IsStored hash index entries places
    → ((t : ℕ) → times t (queued_slots q) ≡ times t places) → length q.small + length q.main ≡ length places → IsStored hash index entries (queued_slots q)
stored-moved {hash = hash} {index = index} {entries = entries} {places = places} q stored same as_many =
    stored-same hash index entries places (queued_slots q) stored (λ t. among-times t (queued_slots q) places (same t)) (length-places q ∙ as_many)

-- No placement of the same entries does better than the layout: the homes of a window that is overfull have too many entries for nearer slots.
use Rattle.std.proofs.Common.{◌≡◌, ◌≢◌, ℕ, zero, suc, ◌+◌, ◌-◌, ◌%◌, ◌<◌, ◌≤◌, inl, inr, arith, cond, nat_le, eqb, eqb-true, List, map, length, get_or, mod-eq_of_lt}
use Rattle.std.specs.List.{AllPairs, range_with_len}
use Rattle.std.proofs.lemmas.Bool.Decides.{Decides-eqb, leb_tells}
use Rattle.std.proofs.lemmas.List.Folds.{Any-from_list_any}
use Rattle.std.proofs.lemmas.List.FromFn.{length-map-range_with_len, get_or-map-range_with_len}
use Rattle.std.proofs.lemmas.Map.Made.{IsDistinct-from_AllPairs}
use Rattle.std.proofs.lemmas.Map.Steps.{length-le_from_distinct_below}
use Rattle.std.proofs.Math.Nat.{add-mod_right, mod-add-mod}
use Rattle.clock2q_handles.specs.Homes.{capacity, count, total}
use Rattle.clock2q_handles.specs.Layout.{window, spill_of, IsPlacement, ReachesPast, IsBestPlaced}
use Rattle.clock2q_handles.proofs.layout.Spill.{first_zero, spill-found}
use Rattle.clock2q_handles.proofs.layout.Periods.{rem-same, rems-differ}
use Rattle.clock2q_handles.proofs.layout.Reading.{count-again}
use Rattle.clock2q_handles.proofs.layout.TidyLayout.{capacity-lt}

-- where number k is among rows of c a, c (a + 1) .. numbers: its row, and its place there
abbrev locate : (ℕ → ℕ) → ℕ → ℕ → ℕ → ℕ × ℕ
locate c a zero k = (0, k)
locate c a (suc n) k = cond (nat_le (window c a n) k) (n, k - window c a n) (locate c a n k)

located : (c : ℕ → ℕ) (a n k : ℕ) → k < window c a n → let at = locate c a n k in (at.0 < n) × (at.1 < c (a + at.0)) × (k ≡ window c a at.0 + at.1)
located c a zero k l = absurd (omega (arith, l))
located c a (suc n) k l = grind (arith, leb_tells (window c a n) k, located c a n k)

-- there are at most b distinct numbers below b
pigeons : (f : ℕ → ℕ) (n b : ℕ) → ((i j : ℕ) → i < j → j < n → f i ≡ f j → ⊥) → ((i : ℕ) → i < n → f i < b) → n ≤ b
pigeons f n b apart below =
    let xs : List ℕ = map f (range_with_len 0 n) in
    let len : length xs ≡ n = length-map-range_with_len f 0 n in
    let at : (i d : ℕ) → i < n → get_or xs i d ≡ f i = λ i d l. get_or-map-range_with_len f 0 n i i d l (omega arith) in
    let pairs : AllPairs (λ x y. x ≢ y) xs = λ i j d l u e. grind (arith, apart i j, at i d, at j d, len, e) in
    omega (
      arith,
      len,
      length-le_from_distinct_below xs b (IsDistinct-from_AllPairs Decides-eqb xs pairs) (λ q among.
          let r = Any-from_list_any (eqb q) xs among in
          grind (arith, below r.0, at r.0 r.1, len, r, eqb-true q r.1)),
    )

-- slot p, reached from home g circularly
round_trip : (m g p : ℕ) → g < m → p < m → (g + (p + m - g) % m) % m ≡ p
round_trip m g p lg lp = grind (arith, mod-eq_of_lt, add-mod_right)

module _ {E : Type 0} (homes : List (List E)) (room : total homes < length homes) (place : ℕ → ℕ → ℕ)
    (placement : IsPlacement homes place) (h : ℕ) (within : h < length homes) (has : 0 < count homes h)
    (wide : ℕ) (within_lap : wide < length homes) (found : window (count homes) (h + length homes - wide) wide ≡ spill_of homes h + wide) where
  -- the homes of the window that attains the spill, and h after them, begin here
  abbrev start : ℕ
  start = h + length homes - wide

  -- their entries by number: the home among these, and the place in its list
  abbrev at : ℕ → ℕ × ℕ
  at k = locate (count homes) start (suc wide) k

  abbrev home_of : ℕ → ℕ
  home_of k = (start + (at k).0) % length homes

  -- how far from its home an entry is
  abbrev far : ℕ → ℕ
  far k = (place (home_of k) (at k).1 + length homes - home_of k) % length homes

  in_home : (k : ℕ) → k < window (count homes) start (suc wide) → (home_of k < length homes) × ((at k).1 < count homes (home_of k))
  in_home k l = (omega arith, omega (arith, rem-same (count homes) (length homes) (count-again homes) (start + (at k).0), (located (count homes) start (suc wide) k l).1))

  slot_of : (k : ℕ) → k < window (count homes) start (suc wide) → (start + ((at k).0 + far k)) % length homes ≡ place (home_of k) (at k).1
  slot_of k l =
      grind (arith, mod-add-mod (start + (at k).0) (length homes) (far k), round_trip (length homes) (home_of k) (place (home_of k) (at k).1), in_home k l, placement.within (home_of k) (at k).1)

  offsets_apart : (i j : ℕ) → i < j → j < window (count homes) start (suc wide) → (at i).0 + far i ≡ (at j).0 + far j → ⊥
  offsets_apart i j l u e =
      let same = placement.apart (home_of i) (at i).1 (home_of j) (at j).1 (omega arith) (in_home i (omega arith)).1 (omega arith) (in_home j u).1 (grind (arith, slot_of i, slot_of j, e)) in
      grind (arith, located (count homes) start (suc wide), same, rems-differ (length homes) (start + (at i).0), rems-differ (length homes) (start + (at j).0))

  -- they are too many for nearer slots
  some_past : ReachesPast homes place (spill_of homes h + count homes h - 1)
  some_past = elim (first_zero (λ k. spill_of homes h + count homes h - 1 - far k) (window (count homes) start (suc wide))) [
    | inl r ↦ let own = in_home r.0 r.1 in (home_of r.0, (at r.0).1, own.0, own.1, omega (arith, r.2))
    | inr all ↦ absurd (grind (
      arith,
      count-again homes h,
      pigeons (λ k. (at k).0 + far k) (window (count homes) start (suc wide)) (spill_of homes h + count homes h - 1 + wide) offsets_apart
          (λ k l. omega (arith, all k l, (located (count homes) start (suc wide) k l).0)),
    ))
  ]

-- however a table's entries are placed, some entry is as far past its home as any in the layout
pub best-placed : {E : Type 0} (homes : List (List E)) → total homes ≤ capacity (length homes) → IsBestPlaced homes
best-placed homes room place placement h i within l =
    let found = spill-found (count homes) (length homes) h (omega arith) in
    grind (arith, some_past homes (omega (arith, capacity-lt (length homes) (omega arith))) place placement h within (omega arith) found.0 found.1 found.2)

-- One entry more makes no walk more than one slot longer.
use Rattle.std.proofs.Common.{◌≡◌, ℕ, zero, suc, ◌+◌, ◌-◌, ◌%◌, ◌<◌, ◌≤◌, ap, arith, List, [], ◌∷◌, ◌++◌, length, length-append}
use Rattle.std.proofs.lemmas.Bool.{cases_eq}
use Rattle.clock2q_handles.specs.Homes.{listed, count, put_last}
use Rattle.clock2q_handles.specs.Layout.{window, spill, walk}
use Rattle.clock2q_handles.proofs.layout.FewerEntries.{walk-is, listed-put_last}
use Rattle.clock2q_handles.proofs.layout.Periods.{rems-differ}
use Rattle.clock2q_handles.proofs.layout.Spill.{spill-above, spill-found, window-same}
use Rattle.clock2q_handles.proofs.shifts.Changes.{length-with_list, listed-with_other}

-- counts that differ at one home, by one at most
module _ (c d : ℕ → ℕ) (m x : ℕ) (some : 0 < m) (other : (n : ℕ) → (n % m ≡ x % m → ⊥) → d n ≡ c n) (one : (n : ℕ) → d n ≤ c n + 1) where
  window_more : (a k : ℕ) → k ≤ m → window d a k ≤ window c a k + 1
  window_more a zero l = omega arith
  window_more a (suc k) l = grind (arith, window-same, rems-differ, window_more a k (omega (arith, l)))

  -- push no home's entries more than one slot further
  spill_more : (h : ℕ) → spill d m h ≤ spill c m h + 1
  spill_more h = grind (arith, spill-found d m h some, window_more, spill-above)

  -- and not those of that home
  spill_own : (h : ℕ) → h % m ≡ x % m → spill d m h ≤ spill c m h
  spill_own h at =
      let r = spill-found d m h some in
      grind (arith, r, window-same d c (h + m - r.0) r.0, other, rems-differ m h, spill-above c m h r.0)

module _ {E : Type 0} (homes : List (List E)) (x : ℕ) (e : E) (some : 0 < length homes) where
  abbrev more : List (List E)
  more = put_last homes x e

  at : (n : ℕ) → n % length homes ≡ x % length homes → count more n ≡ count homes n + 1
  at n same = grind (arith, listed-put_last homes x n e some same, length-append (listed homes n) (e ∷ []))

  away : (n : ℕ) → (n % length homes ≡ x % length homes → ⊥) → count more n ≡ count homes n
  away n other = ap length (listed-with_other homes x n (listed homes x ++ e ∷ []) other)

  -- no walk becomes more than one slot longer
  pub walk-more : (y : ℕ) → walk more y ≤ walk homes y + 1
  walk-more y =
      let one : (n : ℕ) → count more n ≤ count homes n + 1 = λ n. grind (arith, cases_eq (n % length homes) (x % length homes), at n, away n) in
      grind (
        arith,
        length-with_list homes x (listed homes x ++ e ∷ []),
        spill_more (count homes) (count more) (length homes) x some away one y,
        spill_own (count homes) (count more) (length homes) x some away one y,
        walk-is homes y some,
        walk-is more y,
        cases_eq (y % length homes) (x % length homes),
        at y,
        away y,
      )

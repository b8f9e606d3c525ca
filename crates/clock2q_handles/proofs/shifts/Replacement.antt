-- The handle of an entry replaced by another: every walk goes as before, and its home's list has the other in its place.
use Rattle.std.proofs.Common.{◌≡◌, ℕ, zero, suc, ◌+◌, ◌-◌, ◌%◌, ◌<◌, refl, ap, ◌∙◌, arith, Bool, true, false, cond, List, [], ◌∷◌, ◌++◌, length, get_or, set, length-set, Option, Some, None}
use Rattle.std.specs.List.{list_any}
use Rattle.clock2q_handles.specs.Homes.{top, listed, count, total, with_list, is_entry_of}
use Rattle.clock2q_handles.specs.Layout.{Placed, placed, slot_at, reach, at_home, met, entries, homes_of, IsTidy}
use Rattle.clock2q_handles.specs.Slots.{cell, mark_of}
use Rattle.clock2q_handles.specs.Table.{IsTable}
use Rattle.clock2q_handles.specs.Found.{FindsAt}
use Rattle.clock2q_handles.specs.Positions.{gap_of, with_first, handle_replaced}
use Rattle.clock2q_handles.proofs.layout.Laid.{at_home-other, met-same}
use Rattle.clock2q_handles.proofs.layout.TidyLayout.{length-homes_of, listed-homes_of, tidy-total}
use Rattle.clock2q_handles.proofs.shifts.Changes.{length-with_list, listed-with_same, listed-with_other, read-split}
use Rattle.clock2q_handles.proofs.shifts.Carrying.{slot_from}
use Rattle.clock2q_handles.proofs.shifts.Moves.{apart_on_lap, slot_at-set_same, slot_at-set_other}
use Rattle.clock2q_handles.proofs.shifts.Shifts.{home_same, with_list-read}
use Rattle.clock2q_handles.proofs.shifts.Taking.{found_at}

module _ {E : Type 0} where
  met-alike : (A B : ℕ → Option (Placed E)) (h d k : ℕ) → ((j : ℕ) → at_home (A (h + j)) j ≡ at_home (B (h + j)) j) → met A h d k ≡ met B h d k
  met-alike A B h d zero alike = refl
  met-alike A B h d (suc k) alike = grind (arith, met-alike A B h (suc d) k alike)

  entries-set : (slots : List (Option (Placed E))) (n : ℕ) (p q : Placed E) → get_or slots n None ≡ Some p → length (entries (set slots n (Some q))) ≡ length (entries slots)
  entries-set [] n p q is = absurd (cc)
  entries-set (s ∷ slots) zero p q is = grind arith
  entries-set (s ∷ slots) (suc n) p q is = grind (arith, entries-set slots n p q)

  with_first-at : (test : E → Bool) (xs ys : List E) (e e' : E) → list_any test xs ≡ false → test e ≡ true → with_first test e' (xs ++ e ∷ ys) ≡ xs ++ e' ∷ ys
  with_first-at test [] ys e e' none is = ap (λ b. cond b (e' ∷ ys) (e ∷ with_first test e' ys)) is
  with_first-at test (x ∷ xs) ys e e' none is = grind (arith, with_first-at test xs ys e e')

  length-with_first : (test : E → Bool) (e' : E) (es : List E) → length (with_first test e' es) ≡ length es
  length-with_first test e' [] = refl
  length-with_first test e' (e ∷ es) = grind (arith, length-with_first test e' es)

  module _ (slots : List (Option (Placed E))) (tidy : IsTidy slots) (x d : ℕ) (e e' : E) (within : d < length slots) (here : slot_at slots (x + d) ≡ Some (placed d e)) where
    abbrev m : ℕ
    m = length slots

    abbrev others : List (Option (Placed E))
    others = set slots ((x + d) % m) (Some (placed d e'))

    len : length others ≡ m
    len = length-set slots ((x + d) % m) (Some (placed d e'))

    there : (k : ℕ) → k % m ≡ (x + d) % m → (slot_at slots k ≡ Some (placed d e)) × (slot_at others k ≡ Some (placed d e'))
    there k same = grind (arith, len, slot_at-set_same slots (Some (placed d e')) (x + d))

    pub same-reach : (k : ℕ) → reach (slot_at others k) ≡ reach (slot_at slots k)
    same-reach k = grind (arith, there k, slot_at-set_other slots (Some (placed d e')) (x + d) k)

    -- another home's list
    other-home : (h j : ℕ) → ((h + j) % m ≡ (x + d) % m → j ≡ d → ⊥) → at_home (slot_at others (h + j)) j ≡ at_home (slot_at slots (h + j)) j
    other-home h j other = grind (arith, there (h + j), slot_at-set_other slots (Some (placed d e')) (x + d) (h + j), at_home-other)

    pub replaced-tidy : IsTidy others
    replaced-tidy = grind (arith, same-reach, entries-set slots ((x + d) % m) (placed d e) (placed d e') here, len)

    pub replaced-homes : (test : E → Bool) → test e ≡ true → list_any test (met (slot_at slots) x 0 d) ≡ false → homes_of others ≡ with_list (homes_of slots) x (with_first test e' (listed (homes_of slots) x))
    replaced-homes test passes none =
        let kept : (j : ℕ) → j < m → (j ≡ d → ⊥) → slot_at others (x + j) ≡ slot_at slots (x + j) = λ j l ne.
        slot_at-set_other slots (Some (placed d e')) (x + d) (x + j) (apart_on_lap m x j d l within ne) in
        let front = met-same (slot_at others) (slot_at slots) x x 0 d (λ j _ upto. kept j (omega arith) (λ q. omega arith)) in
        let rest = met-same (slot_at others) (slot_at slots) x x (suc d) (m - suc d) (λ j from upto. kept j (omega arith) (λ q. omega arith)) in
        let alike = λ (h : ℕ) (other : h % m ≡ x % m → ⊥).
        met-alike (slot_at others) (slot_at slots) h 0 m (λ j. other-home h j (λ at q. other (home_same m h x d (omega (arith, within)) (grind (arith, at, q))))) in
        with_list-read slots others x (with_first test e' (listed (homes_of slots) x)) len (omega (arith, within))
        (grind (arith, read-split others x d e' (omega (arith, within, len)) (there (x + d) refl).1, front, rest, len, read-split slots x d e within here, with_first-at))
        (λ h other. grind (arith, listed-homes_of others h, len, alike h other, listed-homes_of slots h))

-- with as many entries each hash's gap stays where it was
gaps-kept : {H : Type 0} (homes : List (List (ℕ × H))) (x : ℕ) (test : ℕ × H → Bool) (e' : ℕ × H) → 0 < length homes
    → (y : ℕ) → gap_of (with_list homes x (with_first test e' (listed homes x))) y ≡ gap_of homes y
gaps-kept homes x test e' some y =
    let same : (z : ℕ) → count (with_list homes x (with_first test e' (listed homes x))) z ≡ count homes z = λ z. grind (arith, listed-with_same, listed-with_other, length-with_first) in
    grind (arith, length-with_list, same)

-- what replacing the handle v of the first such entry of x's home by w results in: the lists with w in its place, in which each gap is where it was
pub record Replacement {H : Type 0} (eq : H → H → Bool) (x : ℕ) (v w : H) (slots others : List (Option (Placed (ℕ × H)))) (len : ℕ) : Type 0 where
  pub homes : homes_of others ≡ handle_replaced eq (homes_of slots) x v w
  pub gaps : (y : ℕ) → gap_of (homes_of others) y ≡ gap_of (homes_of slots) y
  pub table : IsTable others len

pub replacement : {H : Type 0} (eq : H → H → Bool) (x : ℕ) (v w : H) {slots : List (Option (Placed (ℕ × H)))} {s len : ℕ} → IsTable slots len
    → FindsAt (is_entry_of eq x v) slots (x % length slots) s → Replacement eq x v w slots (set slots s (cell (mark_of (slot_at slots s)) w)) len
replacement eq x v w {slots} {s} {len} table found =
    let at = found_at found in
    let d : ℕ = at.distance in
    let e = at.finds.entry in
    let test = is_entry_of eq x v in
    let mark : e.0 ≡ top x = grind (arith, at.finds.passes) in
    let here : slot_at slots s ≡ Some (placed d (top x, e.1)) = slot_from slots x d s at.slot ∙ at.finds.here ∙ ap (λ f. Some (placed d (f, e.1))) mark in
    let written : set slots s (cell (mark_of (slot_at slots s)) w) ≡ set slots ((x + d) % length slots) (Some (placed d (top x, w))) = grind (arith, here, at.slot) in
    let others = set slots ((x + d) % length slots) (Some (placed d (top x, w))) in
    let homes : homes_of others ≡ handle_replaced eq (homes_of slots) x v w = replaced-homes slots table.tidy x d e (top x, w) at.within at.finds.here test at.finds.passes at.finds.none_before in
    let gaps = gaps-kept (homes_of slots) x test (top x, w) (omega (arith, at.within, length-homes_of slots)) in
    let tidy = replaced-tidy slots table.tidy x d e (top x, w) at.within at.finds.here in
    let as_many = entries-set slots ((x + d) % length slots) (placed d e) (placed d (top x, w)) at.finds.here in
    let counted : len ≡ total (homes_of others) = omega (arith, table.counted, as_many, tidy-total others tidy, tidy-total slots table.tidy) in
    let reaches = same-reach slots table.tidy x d e (top x, w) at.within at.finds.here in
    rw written (grind (arith, homes, gaps, tidy, counted, table, reaches, length-set slots ((x + d) % length slots) (Some (placed d (top x, w)))))

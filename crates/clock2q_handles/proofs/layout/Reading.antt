-- The layout as a list of slots, and the lists read off one.
use Rattle.std.proofs.Common.{◌≡◌, ℕ, zero, suc, ◌+◌, ◌%◌, ◌<◌, ◌≤◌, inl, inr, refl, ap, sym, ◌∙◌, arith, List, [], ◌∷◌, length, set, get_or, replicate, get_or-set_same, get_or-set_other}
use Rattle.std.proofs.Common.{length-set, Option, Some, None, mod-eq_of_lt, slice_get}
use Rattle.std.proofs.lemmas.Bool.{cases_lt}
use Rattle.std.proofs.lemmas.List.{get_or_past, get_or-replicate, length-replicate}
use Rattle.std.proofs.lemmas.Option.{slice_get_within}
use Rattle.std.proofs.Math.Nat.{add-mod_right}
use Rattle.clock2q_handles.specs.Homes.{listed, count}
use Rattle.clock2q_handles.specs.Layout.{Placed, placed, spill, spill_of, slot_at, put_from, layout_upto, layout}
use Rattle.clock2q_handles.proofs.layout.Spill.{Roomy, spill-again, spill-lt, IsGap, apart}
use Rattle.clock2q_handles.proofs.layout.Periods.{rem-same, rems-differ}
use Rattle.clock2q_handles.proofs.layout.Laid.{IsLaid}

-- copies of what is read past them
pub get_or-same : {X : Type 0} (m n : ℕ) (d : X) → get_or (replicate m d) n d ≡ d
get_or-same m n d = grind (arith, cases_lt n m, get_or-replicate, get_or_past, length-replicate)

module _ {E : Type 0} where
  pub slot-again : (slots : List (Option (Placed E))) (n : ℕ) → slot_at slots (n + length slots) ≡ slot_at slots n
  slot-again slots n = ap (λ x. get_or slots x None) (add-mod_right n (length slots))

  pub slots_again : (slots : List (Option (Placed E))) (m : ℕ) → length slots ≡ m → (n : ℕ) → slot_at slots (n + m) ≡ slot_at slots n
  slots_again slots m len n = ap (λ x. slot_at slots (n + x)) (sym len) ∙ slot-again slots n

  pub listed-again : (homes : List (List E)) (n : ℕ) → listed homes (n + length homes) ≡ listed homes n
  listed-again homes n = ap (λ x. get_or homes x []) (add-mod_right n (length homes))

  pub count-again : (homes : List (List E)) (n : ℕ) → count homes (n + length homes) ≡ count homes n
  count-again homes n = ap length (listed-again homes n)

  pub length-put_from : (slots : List (Option (Placed E))) (n d : ℕ) (es : List E) → length (put_from slots n d es) ≡ length slots
  length-put_from slots n d [] = refl
  length-put_from slots n d (e ∷ es) = length-put_from (set slots (n % length slots) (Some (placed d e))) (suc n) (suc d) es ∙ length-set slots (n % length slots) (Some (placed d e))

  put_from_other : (m : ℕ) (slots : List (Option (Placed E))) (n d : ℕ) (es : List E) (p : ℕ) → length slots ≡ m
      → ((i : ℕ) → i < length es → p ≡ (n + i) % m → ⊥) → get_or (put_from slots n d es) p None ≡ get_or slots p None
  put_from_other m slots n d [] p len other = refl
  put_from_other m slots n d (e ∷ es) p len other =
      let rest = put_from_other m (set slots (n % length slots) (Some (placed d e))) (suc n) (suc d) es p (rw length-set len) (λ i l q. grind (arith, other (suc i))) in
      grind (arith, rest, other 0, len, get_or-set_other slots (n % length slots) p (Some (placed d e)) None)

  put_from_at : (m : ℕ) (slots : List (Option (Placed E))) (n d : ℕ) (es : List E) (i : ℕ) (e : E) → length slots ≡ m → 0 < m
      → length es ≤ m → slice_get es i ≡ Some e → get_or (put_from slots n d es) ((n + i) % m) None ≡ Some (placed (d + i) e)
  put_from_at m slots n d [] i e len some fits is = absurd (cc)
  put_from_at m slots n d (x ∷ es) zero e len some fits is = grind (arith, put_from_other, length-set, rems-differ, get_or-set_same)
  put_from_at m slots n d (x ∷ es) (suc i) e len some fits is = grind (arith, length-set, put_from_at m (set slots (n % length slots) (Some (placed d x))) (suc n) (suc d) es i e)

  pub length-layout_upto : (homes : List (List E)) (k : ℕ) → length (layout_upto homes k) ≡ length homes
  length-layout_upto homes zero = length-replicate (length homes) None
  length-layout_upto homes (suc k) = length-put_from (layout_upto homes k) (k + spill_of homes k) (spill_of homes k) (listed homes k) ∙ length-layout_upto homes k

  pub length-layout : (homes : List (List E)) → length (layout homes) ≡ length homes
  unfolding layout
  length-layout homes = length-layout_upto homes (length homes)

  upto_other : (homes : List (List E)) (p k : ℕ) → ((h i : ℕ) → h < k → i < count homes h → p ≡ (h + spill_of homes h + i) % length homes → ⊥) → get_or (layout_upto homes k) p None ≡ None
  upto_other homes p zero other = get_or-same (length homes) p None
  upto_other homes p (suc k) other = grind (arith, put_from_other, length-layout_upto, upto_other homes p k (λ h i l. other h i (omega arith)))

  module _ (homes : List (List E)) (roomy : Roomy (count homes) (length homes)) where
    upto_at : (k : ℕ) → k ≤ length homes → (h i : ℕ) (e : E) → h < k → slice_get (listed homes h) i ≡ Some e
        → get_or (layout_upto homes k) ((h + spill_of homes h + i) % length homes) None ≡ Some (placed (spill_of homes h + i) e)
    upto_at zero u h i e l is = absurd (omega arith)
    upto_at (suc k) u h i e l is = elim (cases_lt h k) [
      | inl below ↦ put_from_other (length homes) (layout_upto homes k) (k + spill_of homes k) (spill_of homes k) (listed homes k) ((h + spill_of homes h + i) % length homes)
          (length-layout_upto homes k) (λ j lj. grind (
            arith,
            rems-differ (length homes) (h + spill_of homes h + i) (k + spill_of homes k + j),
            slice_get_within (listed homes h) i e,
            apart (count homes) (length homes) roomy h k,
            apart (count homes) (length homes) roomy k (h + length homes),
            spill-again (count homes) (length homes) roomy.again h,
          ))
          ∙ upto_at k (omega arith) h i e below is
      | inr from ↦ grind (
        arith,
        put_from_at (length homes) (layout_upto homes k) (k + spill_of homes k) (spill_of homes k) (listed homes k) i e (length-layout_upto homes k),
        apart (count homes) (length homes) roomy k (suc k),
        spill-lt (count homes) (length homes) roomy (suc k),
      )
    ]

    at_slot : (n : ℕ) → slot_at (layout homes) n ≡ get_or (layout_upto homes (length homes)) (n % length homes) None
    unfolding layout
    at_slot n = ap (λ x. get_or (layout_upto homes (length homes)) (n % x) None) (length-layout homes)

    gap_other : (n : ℕ) → n < length homes → IsGap (count homes) (length homes) n → (h i : ℕ) → h < length homes → i < count homes h → n ≡ (h + spill_of homes h + i) % length homes → ⊥
    gap_other n l g h i lh li e =
        grind (
          arith,
          mod-eq_of_lt l,
          apart (count homes) (length homes) roomy h,
          spill-again (count homes) (length homes) roomy.again n,
          rems-differ (length homes) (h + spill_of homes h + i) n,
          rems-differ (length homes) (h + spill_of homes h + i) (n + length homes),
          add-mod_right n (length homes),
        )

    -- the layout lays out the lists
    pub layout-laid : IsLaid (length homes) (listed homes) (slot_at (layout homes))
    layout-laid = record {
      standing = λ h i e is. grind (
        arith,
        roomy.room,
        at_slot (h + spill_of homes h + i),
        upto_at (length homes) (omega arith) (h % length homes) i e,
        rem-same (listed homes) (length homes) (listed-again homes) h,
        rem-same (spill (count homes) (length homes)) (length homes) (spill-again (count homes) (length homes) roomy.again) h,
        rem-same (λ x. (x + spill_of homes h + i) % length homes) (length homes) (λ n. grind (arith, add-mod_right (n + spill_of homes h + i) (length homes))) h,
      );
      rest = λ n g. grind (
        arith,
        roomy.room,
        at_slot n,
        upto_other homes (n % length homes) (length homes),
        gap_other (n % length homes),
        g.spilled,
        g.counted,
        rem-same (spill (count homes) (length homes)) (length homes) (spill-again (count homes) (length homes) roomy.again) n,
        rem-same (count homes) (length homes) (count-again homes) n,
      );
    }

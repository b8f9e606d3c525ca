-- A key that takes the slot of another, which is remembered at a place: that of the oldest key, if one is forgotten.
use Rattle.clock2q_directory.proofs.Names.{◌≡◌, ℕ, ◌+◌, ◌-◌, ◌^◌, ◌<◌, ◌≤◌, eqb, Bool, true, false, ◌&&◌, List, length, Option, Some, None, if◌then◌else◌, inl, inr, refl, sym, ap, ◌∙◌, arith, is_some, list_any, cases_Bool, ChangesAtMost, ReadsWalk, RisesAtMost, WritesAtMost, candidates, is_entry_of, listed, without_handle, total, with_handle, run, walk, GapValue, handle_replaced, walk_to_gap, TableValue, length-with_list, walk-more, held-still, replaced-homes, most_changed, most_inserted, IndexState, AreLaidOut, index_of, is_shared, slots, places, beside, entered_from, remembered_at, first_remembered, forgotten_if}
use Rattle.clock2q_handles.specs.Layout.{layout}
use Rattle.clock2q_directory.proofs.Gaps.{walk-found}
use Rattle.clock2q_directory.proofs.Indexes.{length-put, length-taken}
use Rattle.clock2q_directory.proofs.Sorted.{sorted-shared}
use Rattle.clock2q_directory.proofs.Views.{held_entry, slots-forgotten, forgotten-like}

-- an index is another if its tables and its number of accesses are
same-index : {v w : IndexState} → v.shared ≡ w.shared → v.own ≡ w.own → v.accesses ≡ w.accesses → v ≡ w
same-index {v} {w} shared own accesses = grind arith

module _ (p : ℕ) (v : IndexState) where
  -- the oldest key's place takes no slot along, and leaves the tables apart
  pub slots-if : (o : Option ℕ) → slots (forgotten_if o p v) ≡ slots v
  slots-if None = refl
  slots-if (Some x) = slots-forgotten v x p

  pub shared-if : (o : Option ℕ) → is_shared (forgotten_if o p v) ≡ is_shared v
  shared-if None = refl
  shared-if (Some x) = (forgotten-like v x p).shared

  pub own-if : (o : Option ℕ) → is_shared v ≡ true → (forgotten_if o p v).own ≡ v.own
  own-if None shared = refl
  own-if (Some x) shared = rw shared refl

  pub length-if : (o : Option ℕ) → is_shared v ≡ true → length (forgotten_if o p v).shared ≡ length v.shared
  length-if None shared = refl
  length-if (Some x) shared = rw shared (length-taken v.shared x (first_remembered + p))

  -- a slot is held once the place is gone
  pub held-if : (o : Option ℕ) (x s : ℕ) → list_any (eqb s) (candidates (slots v) x) ≡ true → list_any (is_entry_of eqb x s) (listed (forgotten_if o p v).shared x) ≡ true
  held-if o x s held = held_entry (forgotten_if o p v) x s (ap (λ z. list_any (eqb s) (candidates z x)) (slots-if o) ∙ held)

pub few-apart : (v w : IndexState) → slots w ≡ slots v → is_shared w ≡ false → total (slots v) + beside v < 2 ^ 24 → total (slots w) + beside w < 2 ^ 24
few-apart v w same apart few = omega (arith, few, ap (λ (z : List (List (ℕ × ℕ))). total z) same, ap (λ b. if b then total (places w) else 0) apart)

module _ (o : Option ℕ) (p x s : ℕ) (t own : TableValue ℕ) (n : ℕ) where
  -- the index before, and without the oldest key's place
  abbrev before : IndexState
  before = index_of t own n

  abbrev fewer : IndexState
  fewer = forgotten_if o p before

  -- a key has its slot in the table that slots and places share, beside the old one, and the oldest key's place is gone
  pub record IsBeside (is_found : Bool) (t' : TableValue ℕ) : Type 0 where
    pub homes : t'.homes ≡ with_handle fewer.shared x s
    pub from : n ≤ fewer.accesses
    pub counted : t'.reads + t'.writes + n ≤ t.reads + t.writes + fewer.accesses + most_inserted is_found t.homes x

module _ (p x s : ℕ) (t own : TableValue ℕ) (n : ℕ) (i : AreLaidOut t own n) {t' : TableValue ℕ} where
  pub beside-free : (gap : Option GapValue) → WritesAtMost (run t.slots x + 1) t t' → ReadsWalk (walk_to_gap gap t.homes x) t t' → t'.homes ≡ with_handle t.homes x s
      → IsBeside None p x s t own n (is_some gap) t'
  beside-free gap writes reads put =
      record { homes = put; from = omega arith; counted = omega (arith, writes.1, reads, walk-found t.homes x gap, ap (λ z. run z x) i.shared_laid) }

  pub beside-past : (gap : Option GapValue) (o : ℕ) → is_shared (index_of t own n) ≡ true → ChangesAtMost gap x o t t' → t'.homes ≡ with_handle (without_handle eqb t.homes o (first_remembered + p))
      x s
      → IsBeside (Some o) p x s t own n (is_some gap) t'
  beside-past gap o shared accesses put = record {
    homes = rw shared put;
    from = rw shared (omega arith);
    counted = rw shared (omega (arith, accesses.1, walk-found t.homes x gap, ap (λ z. run z x) i.shared_laid, ap (λ z. run z o) i.shared_laid));
  }

module _ (o : Option ℕ) (p x s y : ℕ) (t own : TableValue ℕ) (n : ℕ) (i : AreLaidOut t own n) (shared : is_shared (before o p x s t own n) ≡ true)
    (held : list_any (eqb s) (candidates (slots (before o p x s t own n)) y) ≡ true) {is_found : Bool} {t' : TableValue ℕ} (b : IsBeside o p x s t own n is_found t') where
  abbrev w : IndexState
  w = fewer o p x s t own n

  w-shared : is_shared w ≡ true
  w-shared = shared-if p (before o p x s t own n) o ∙ shared

  some : 0 < length w.shared
  some = omega (arith, i.sorted.some, length-if p (before o p x s t own n) o shared)

  there : list_any (is_entry_of eqb y s) (listed w.shared y) ≡ true
  there = held-if p (before o p x s t own n) o y s held

  -- the old slot is still there
  pub still-held : list_any (is_entry_of eqb y s) (listed t'.homes y) ≡ true
  still-held = rw b.homes (held-still eqb w.shared x y s s some there)

  cost : (entered_from (before o p x s t own n) is_found x 0 (remembered_at y 0 p w)).accesses ≡ w.accesses + most_changed w.shared y + most_inserted is_found t.homes x
  cost = elim (cases_Bool is_found) [ inl e ↦ rw (e, w-shared, shared) refl | inr e ↦ rw (e, w-shared) refl ]

  spared : most_inserted (is_found && is_shared (before o p x s t own n)) t.homes x ≡ most_inserted is_found t.homes x
  spared = elim (cases_Bool is_found) [ inl e ↦ rw (e, shared) refl | inr e ↦ rw e refl ]

  -- once it has the place's handle, the key has succeeded
  module _ (t'' : TableValue ℕ) {m : ℕ} (replaced : t''.homes ≡ handle_replaced eqb t'.homes y s (first_remembered + p))
      (charged : m ≡ n + ((entered_from (before o p x s t own n) is_found x 0 (remembered_at y 0 p w)).accesses - n)) where
    homes : t''.homes ≡ with_handle (handle_replaced eqb w.shared y s (first_remembered + p)) x s
    homes = replaced ∙ ap (λ z. handle_replaced eqb z y s (first_remembered + p)) b.homes ∙ replaced-homes eqb w.shared x y s s (first_remembered + p) some there

    pub succeeded : index_of t'' own m ≡ entered_from (before o p x s t own n) is_found x s (remembered_at y s p w)
    succeeded = rw w-shared (same-index homes (sym (own-if p (before o p x s t own n) o shared)) (omega (arith, charged, cost, spared, b.from)))

    pub succeeded-indexed : t''.slots ≡ layout t''.homes → RisesAtMost (walk t'.homes y) t'.reads t''.reads → t''.writes ≡ t'.writes + 1 → AreLaidOut t'' own m
    succeeded-indexed laid reads writes = grind (arith, length-with_list, sorted-shared, homes, length-put, length-if, cost, walk-more, some)

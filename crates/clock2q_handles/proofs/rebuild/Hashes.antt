-- The entries in slots and in lists. One function that gives each entry's handle a hash of the entry's home and fingerprint: it does so after each change, and through a rebuild.
use Rattle.std.proofs.Common.{◌≡◌, ◌⊎◌, inl, inr, ℕ, zero, suc, ◌+◌, add-one, ◌-◌, ◌%◌, ◌<◌, ◌≤◌, refl, ap, sym, ◌∙◌, subst, arith, Bool, List, [], ◌∷◌, ◌++◌, length, take, drop}
use Rattle.std.proofs.Common.{take-suc, take_all, get_or, Option, Some, None, slice_get, mod-eq_of_lt, set, IfSome, All}
use Rattle.std.proofs.lemmas.Bool.{cases_eq, cases_Bool}
use Rattle.std.proofs.lemmas.Bool.Decides.{eqb_tells}
use Rattle.std.proofs.lemmas.List.{length-replicate}
use Rattle.std.proofs.lemmas.List.Elements.{filter_map-append, All-head, All-tail, All-set, All-replicate, All-same}
use Rattle.std.proofs.lemmas.Option.{slice_get_within, slice_get-get_or, get_or_from_slice_get}
use Rattle.std.proofs.Math.Seq.{split_at}
use Rattle.clock2q_handles.specs.Homes.{top, capacity, home, listed, total, no_entries, with_list, put_last, without_first, is_entry_of, without_handle}
use Rattle.clock2q_handles.specs.Layout.{Placed, placed, slot_at, layout, layout_upto, put_from, spill_of, entries, homes_of, IsTidy}
use Rattle.clock2q_handles.specs.TableStep.{put_all, rebuilt, grown, doubled, IsFull, IsHashOf}
use Rattle.clock2q_handles.proofs.layout.Walk.{slice_get-append}
use Rattle.clock2q_handles.proofs.layout.Reading.{get_or-same}
use Rattle.clock2q_handles.proofs.layout.TidyLayout.{tidy-layout, layout-total}
use Rattle.clock2q_handles.proofs.shifts.Changes.{length-with_list, listed-with_same, listed-with_other}
use Rattle.clock2q_handles.proofs.layout.FewerEntries.{length-put_all, total-put_all, total-no_entries}

module _ {E : Type 0} where
  -- the entries before a slot, once it is passed
  pub entries-more : (slots : List (Option (Placed E))) (i : ℕ) → i < length slots → entries (take (i + 1) slots) ≡ entries (take i slots) ++ entries (slot_at slots i ∷ [])
  entries-more slots i l = rw (add-one, take-suc slots i None l, filter_map-append (λ s. s) (take i slots), mod-eq_of_lt l)

  -- the entries before a slot, its own, and those after it
  pub entries-split : (slots : List (Option (Placed E))) (n : ℕ) (s : Placed E) → 0 < length slots → slot_at slots n ≡ Some s
      → entries slots ≡ entries (take (n % length slots) slots) ++ s ∷ entries (drop (suc (n % length slots)) slots)
  entries-split slots n s some is = grind (arith, is, split_at slots (n % length slots) None, filter_map-append {X = Option (Placed E)} (λ s. s) (take (n % length slots) slots))

  pub entries-all : (slots : List (Option (Placed E))) → entries (take (length slots) slots) ≡ entries slots
  entries-all slots = ap entries (take_all (length slots) slots (omega arith))

  -- each entry by slot is in a slot
  pub entries-from : (slots : List (Option (Placed E))) (i : ℕ) (s : Placed E) → slice_get (entries slots) i ≡ Some s → (n : ℕ) × (n < length slots) × (get_or slots n None ≡ Some s)
  entries-from [] i s is = absurd (cc)
  entries-from (None ∷ slots) i s is = let r = entries-from slots i s is in (suc r.0, omega arith, r.2)
  entries-from (Some t ∷ slots) zero s is = (0, omega arith, is)
  entries-from (Some t ∷ slots) (suc i) s is = let r = entries-from slots i s is in (suc r.0, omega arith, r.2)

  -- what holds of each element of a list holds of the one that is read
  pub all-got : (P : E → Type 0) (xs : List E) (i : ℕ) (e : E) → All P xs → slice_get xs i ≡ Some e → P e
  all-got P xs i e all is = subst P (get_or_from_slice_get xs i e e is) (all i e (slice_get_within xs i e is))

  -- some home has the entry
  abbrev pub IsEntry : List (List E) → E → Type 0
  IsEntry homes e = (n : ℕ) × (i : ℕ) × (slice_get (listed homes n) i ≡ Some e)

  -- if there is an entry, there are slots
  pub some_homes : (homes : List (List E)) (x i : ℕ) (e : E) → slice_get (listed homes x) i ≡ Some e → 0 < length homes
  some_homes [] x i e is = absurd (cc)
  some_homes (es ∷ homes) x i e is = omega arith

  module _ (homes : List (List E)) where
    -- a slot is empty, or its entry is one of the lists'
    abbrev HasEntry : Option (Placed E) → Type 0
    HasEntry o = IfSome o (λ s. IsEntry homes s.entry)

    put_from-all : (slots : List (Option (Placed E))) (k d : ℕ) (es : List E) → All HasEntry slots → All (IsEntry homes) es → All HasEntry (put_from slots k d es)
    put_from-all slots k d [] all new = all
    put_from-all slots k d (e ∷ es) all new =
        put_from-all (set slots (k % length slots) (Some (placed d e))) (suc k) (suc d) es
        (All-set HasEntry slots (k % length slots) (Some (placed d e)) (All-head (IsEntry homes) e es new) all) (All-tail (IsEntry homes) e es new)

    upto-all : (k : ℕ) → All HasEntry (layout_upto homes k)
    upto-all zero = All-replicate HasEntry (length homes) None tt
    upto-all (suc h) =
        put_from-all (layout_upto homes h) (h + spill_of homes h) (spill_of homes h) (listed homes h) (upto-all h) (λ i e within. (h, i, slice_get-get_or (listed homes h) i e within))

    layout-all : All HasEntry (layout homes)
    unfolding layout
    layout-all = upto-all (length homes)

    -- each entry by slot is one of the lists'
    pub entry_laid : (i : ℕ) (s : Placed E) → slice_get (entries (layout homes)) i ≡ Some s → IsEntry homes s.entry
    entry_laid i s is = let r = entries-from (layout homes) i s is in subst HasEntry r.2 (layout-all r.0 None r.1)

  -- what is left of a list was in it
  without_first-from : (test : E → Bool) (es : List E) (e : E) (i : ℕ) → slice_get (without_first test es) i ≡ Some e → (j : ℕ) × (slice_get es j ≡ Some e)
  without_first-from test [] e i is = absurd (cc)
  without_first-from test (x ∷ es) e zero is = elim (cases_Bool (test x)) [ inl on ↦ (1, rw on at is) | inr off ↦ (0, rw off at is) ]
  without_first-from test (x ∷ es) e (suc i) is =
      elim (cases_Bool (test x)) [ inl on ↦ (suc (suc i), rw on at is) | inr off ↦ let r = without_first-from test es e i (rw off at is) in (suc r.0, r.1) ]

  -- an element of a list with one more is that or an element before
  pub slice_get-push : (xs : List E) (e f : E) (i : ℕ) → slice_get (xs ++ e ∷ []) i ≡ Some f → (slice_get xs i ≡ Some f) ⊎ (f ≡ e)
  slice_get-push xs e f i is = grind (arith, slice_get-append xs (e ∷ []) i f is, slice_get_within (e ∷ []) (i - length xs) f)

module _ {H : Type 0} (key : H → ℕ) where
  -- what holds of a table after growth and of one that isn't full holds of the lists that an insertion starts from
  pub grown-by : (P : List (List (ℕ × H)) → Type 0) (homes : List (List (ℕ × H)))
      → (IsFull homes → P (rebuilt key (doubled (length homes)) homes)) → ((IsFull homes → ⊥) → P homes) → P (grown key homes)
  grown-by P homes full other = elim (eqb_tells (total homes) (capacity (length homes))) [ inl is ↦ rw is.0 (full is.1) | inr not ↦ rw not.0 (other not.1) ]

  pub put_some : (homes : List (List (ℕ × H))) (e : ℕ × H) → 0 < length homes → 0 < length (put_last homes (key e.1) e)
  put_some homes e some = omega (arith, some, length-with_list homes (key e.1) (listed homes (key e.1) ++ e ∷ []))

  -- what each entry that is put in keeps, all keep
  pub put_all-keeps : (P : List (List (ℕ × H)) → Type 0) (es : List (Placed (ℕ × H))) (homes : List (List (ℕ × H))) → 0 < length homes
      → ((hs : List (List (ℕ × H))) (i : ℕ) (s : Placed (ℕ × H)) → 0 < length hs → slice_get es i ≡ Some s → P hs → P (put_last hs (key s.entry.1) s.entry)) → P homes → P (put_all key homes es)
  put_all-keeps P [] homes some keeps p = p
  put_all-keeps P (s ∷ es) homes some keeps p =
      put_all-keeps P es (put_last homes (key s.entry.1) s.entry) (put_some homes s.entry some) (λ hs i t there is. keeps hs (suc i) t there is) (keeps homes 0 s some refl p)

  -- an entry of any home, counted past the last
  pub hash-at : (homes : List (List (ℕ × H))) → IsHashOf key homes → 0 < length homes → (n i : ℕ) (e : ℕ × H)
      → slice_get (listed homes n) i ≡ Some e → (home homes (key e.1) ≡ home homes n) × (top (key e.1) ≡ e.0)
  hash-at homes hashes some n i e is = grind (arith, is, hashes (n % length homes) i e, mod-eq_of_lt {n = n % length homes} {m = length homes})

  hash_of : (homes : List (List (ℕ × H))) → IsHashOf key homes → (e : ℕ × H) → IsEntry homes e → top (key e.1) ≡ e.0
  hash_of homes hashes e at = (hash-at homes hashes (some_homes homes at.0 at.1 e at.2) at.0 at.1 e at.2).1

  -- an entry in a slot
  pub hash-slot : (slots : List (Option (Placed (ℕ × H)))) → IsTidy slots → IsHashOf key (homes_of slots) → (n : ℕ) (s : Placed (ℕ × H))
      → n < length slots → slot_at slots n ≡ Some s → top (key s.entry.1) ≡ s.entry.0
  hash-slot slots tidy hashes n s within is =
      let all = All-same (HasEntry (homes_of slots)) slots (layout (homes_of slots)) (tidy-layout slots tidy) (layout-all (homes_of slots)) in
      hash_of (homes_of slots) hashes s.entry (subst (HasEntry (homes_of slots)) is (all (n % length slots) None (omega arith)))

  -- homes without entries need no hashes
  pub hashes-none : (m : ℕ) → IsHashOf key (no_entries m)
  hashes-none m h i e l is = let no = ap (λ xs. slice_get xs i) (sym (get_or-same m (h % length (no_entries {E = ℕ × H} m)) [])) ∙ is in absurd (cc)

  -- a list in place of a home's, each entry of which has a hash of that home
  hashes-with_list : (homes : List (List (ℕ × H))) (x : ℕ) (es : List (ℕ × H)) → IsHashOf key homes
      → ((i : ℕ) (e : ℕ × H) → slice_get es i ≡ Some e → (home homes (key e.1) ≡ home homes x) × (top (key e.1) ≡ e.0)) → IsHashOf key (with_list homes x es)
  hashes-with_list homes x es hashes new h i e l is =
      grind (arith, length-with_list, mod-eq_of_lt, cases_eq, new i e, listed-with_same, hashes h i e, listed-with_other)

  -- an entry put last
  pub hashes-put_last : (homes : List (List (ℕ × H))) (x : ℕ) (e : ℕ × H) → 0 < length homes → IsHashOf key homes
      → home homes (key e.1) ≡ home homes x → top (key e.1) ≡ e.0 → IsHashOf key (put_last homes x e)
  hashes-put_last homes x e some hashes into fingerprint =
      hashes-with_list homes x (listed homes x ++ e ∷ []) hashes (λ i f is. grind (arith, slice_get-push (listed homes x) e f i is, hash-at homes hashes some x i f, into, fingerprint))

  -- an entry removed
  pub hashes-removed : (eq : H → H → Bool) (homes : List (List (ℕ × H))) (x : ℕ) (v : H) → 0 < length homes → IsHashOf key homes → IsHashOf key (without_handle eq homes x v)
  hashes-removed eq homes x v some hashes =
      hashes-with_list homes x (without_first (is_entry_of eq x v) (listed homes x)) hashes
      (λ i e is. let r = without_first-from (is_entry_of eq x v) (listed homes x) e i is in hash-at homes hashes some x r.0 e r.1)

  -- entries put in one after another
  pub hashes-put_all : (homes : List (List (ℕ × H))) (es : List (Placed (ℕ × H))) → 0 < length homes → IsHashOf key homes
      → ((i : ℕ) (s : Placed (ℕ × H)) → slice_get es i ≡ Some s → top (key s.entry.1) ≡ s.entry.0) → IsHashOf key (put_all key homes es)
  hashes-put_all homes es some hashes all =
      put_all-keeps (IsHashOf key) es homes some (λ hs i s there is so_far. hashes-put_last hs (key s.entry.1) s.entry there so_far refl (all i s is)) hashes

  -- the entries keep their fingerprints and homes through a rebuild
  pub hashes-rebuilt : (homes : List (List (ℕ × H))) (m : ℕ) → 0 < m → IsHashOf key homes → IsHashOf key (rebuilt key m homes)
  hashes-rebuilt homes m some hashes =
      hashes-put_all (no_entries m) (entries (layout homes)) (omega (arith, some, length-replicate {A = List (ℕ × H)} m [])) (hashes-none m) (λ i s is. hash_of homes hashes s.entry (entry_laid homes i s is))

  pub rebuilt-length : (homes : List (List (ℕ × H))) (m : ℕ) → length (rebuilt key m homes) ≡ m
  rebuilt-length homes m = length-put_all key (no_entries m) (entries (layout homes)) ∙ length-replicate m []

  -- as many entries as before
  pub rebuilt-total : (homes : List (List (ℕ × H))) (m : ℕ) → total homes ≤ capacity (length homes) → 0 < m → total (rebuilt key m homes) ≡ total homes
  rebuilt-total homes m room some = grind (arith, total-put_all, length-replicate, total-no_entries, layout-total)

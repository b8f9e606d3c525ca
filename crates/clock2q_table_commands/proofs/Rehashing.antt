-- Each handle is under its hash again after any command.
use Rattle.std.proofs.Common.{◌≡◌, ℕ, zero, suc, ◌+◌, ◌%◌, ◌<◌, ◌⊎◌, inl, inr, refl, sym, ap, ◌∙◌, subst, arith, Bool, true, false, cond, nat_le, List, [], ◌∷◌, ◌++◌, take, length, get_or, set, replicate, Option, Some, None, slice_get}
use Rattle.std.specs.declared.vec.Vec.{Vec}
use Rattle.std.proofs.lemmas.List.{length-replicate, take_more}
use Rattle.clock2q_handles.specs.Homes.{capacity, listed, total, no_entries}
use Rattle.clock2q_handles.specs.Layout.{Placed, placed, put_from, layout_upto, layout, entries, spill_of}
use Rattle.clock2q_handles.specs.TableStep.{IsHashOf, rebuilt, reserved, fit}
use Rattle.clock2q_handles.specs.declared.error.TableError.TheVariants.{Memory, Size, RunTooLong}
use Rattle.clock2q_handles.proofs.Hashes.{entries-from, hash-at, hashes-none, hashes-put_all}
use Rattle.clock2q_handles.proofs.HashOfHandle.{fit_some, keyed_grown, keyed_inserted, keyed_removed}
use Rattle.clock2q_table_commands.specs.TableCommands.{IsReplied, AreReplied, RepliesToInsert}
use Rattle.clock2q_table_commands.specs.declared.table_commands.TableCommand.{TableCommand}
use Rattle.clock2q_table_commands.specs.declared.table_commands.TableCommand.TheVariants.{Insert, Remove, Find, Reserve, Get}
use Rattle.clock2q_table_commands.specs.declared.table_commands.TableReply.{TableReply}
use Rattle.clock2q_table_commands.specs.declared.table_commands.TableReply.TheVariants.{Done, Removed, Found, Handles, Refused}

module _ {E : Type 0} where
  -- what a list holds after a write
  set_from : (xs : List (Option E)) (k m : ℕ) (x y : E) → get_or (set xs k (Some x)) m None ≡ Some y → (get_or xs m None ≡ Some y) ⊎ (x ≡ y)
  set_from [] k m x y is = inl is
  set_from (z ∷ xs) zero zero x y is = inr (cc)
  set_from (z ∷ xs) zero (suc m) x y is = inl is
  set_from (z ∷ xs) (suc k) zero x y is = inl is
  set_from (z ∷ xs) (suc k) (suc m) x y is = set_from xs k m x y is

  none_in : (n m : ℕ) (x : E) → get_or (replicate n None) m None ≡ Some x → ⊥
  none_in zero m x is = cc
  none_in (suc n) zero x is = cc
  none_in (suc n) (suc m) x is = none_in n m x is

module _ {E : Type 0} where
  -- an entry in a slot was there before or was put in
  put_from-from : (es : List E) (slots : List (Option (Placed E))) (n d m : ℕ) (s : Placed E) →
      get_or (put_from slots n d es) m None ≡ Some s → (get_or slots m None ≡ Some s) ⊎
      ((i : ℕ) × (slice_get es i ≡ Some s.entry))
  put_from-from [] slots n d m s is = inl is
  put_from-from (e ∷ es) slots n d m s is = elim (put_from-from es (set slots (n % length slots) (Some (placed d e))) (suc n) (suc d) m s is) [
    | inl before ↦ elim (set_from slots (n % length slots) m (placed d e) s before) [
      | inl old ↦ inl old
      | inr new ↦ inr (0, ap (λ (p : Placed E). Some p.entry) new)
    ]
    | inr later ↦ inr (suc later.0, later.1)
  ]

  -- each entry in a slot of the layout is one of a home
  upto-from : (homes : List (List E)) (k m : ℕ) (s : Placed E) → get_or (layout_upto homes k) m None ≡ Some s → (h : ℕ) × (i : ℕ) × (slice_get (listed homes h) i ≡ Some s.entry)
  upto-from homes zero m s is = absurd (none_in (length homes) m s is)
  upto-from homes (suc h) m s is = elim (put_from-from (listed homes h) (layout_upto homes h) (h + spill_of homes h) (spill_of homes h) m s is) [
    | inl before ↦ upto-from homes h m s before
    | inr new ↦ (h, new.0, new.1)
  ]

  layout-from : (homes : List (List E)) (m : ℕ) (s : Placed E) → get_or (layout homes) m None ≡ Some s → (h : ℕ) × (i : ℕ) × (slice_get (listed homes h) i ≡ Some s.entry)
  unfolding layout
  layout-from homes m s is = upto-from homes (length homes) m s is

module _ {H : Type 0} (key : H → ℕ) where
  some_home : (homes : List (List (ℕ × H))) (h i : ℕ) (e : ℕ × H) → slice_get (listed homes h) i ≡ Some e → 0 < length homes
  some_home [] h i e is = cc
  some_home (es ∷ homes) h i e is = omega arith

  hashes-again : (homes : List (List (ℕ × H))) (m : ℕ) → 0 < m → IsHashOf key homes → IsHashOf key (rebuilt key m homes)
  hashes-again homes m some hashes = hashes-put_all key (no_entries m) (entries (layout homes)) (omega (arith, some, length-replicate {A = List (ℕ × H)} m [])) (hashes-none key m) (λ i s is.
      let slot = entries-from (layout homes) i s is in
      let at = layout-from homes slot.0 s slot.2 in
      (hash-at key homes hashes (some_home homes at.0 at.1 s.entry at.2) at.0 at.1 s.entry at.2).1)

  reserved_by : (homes : List (List (ℕ × H))) (m : ℕ) (b : Bool) → 0 < m → IsHashOf key homes → IsHashOf key (cond b homes (rebuilt key m homes))
  reserved_by homes m true some hashes = hashes
  reserved_by homes m false some hashes = hashes-again homes m some hashes

  hashes-reserved : (homes : List (List (ℕ × H))) (n : ℕ) → IsHashOf key homes → IsHashOf key (reserved key homes n)
  hashes-reserved homes n hashes = reserved_by homes (fit (total homes + n)) (nat_le (total homes + n) (capacity (length homes))) (fit_some (total homes + n)) hashes

module _ {H : Type 0} (A : Type 0) (eq : H → H → Bool) (key : H → ℕ) where
  abbrev kept : (homes new : List (List (ℕ × H))) → new ≡ homes → IsHashOf key homes → IsHashOf key new
  kept homes new same hashes = subst (IsHashOf key) (sym same) hashes

  hashes-inserts : (v : H) (old : List (List (ℕ × H))) (reply : TableReply H (Vec H A)) (new : List (List (ℕ × H))) → RepliesToInsert eq key v old reply new → IsHashOf key old → IsHashOf key new
  hashes-inserts v old Done new r hashes = kept _ new r.0 (keyed_inserted key old v hashes)
  hashes-inserts v old (Removed was) new r hashes = absurd r
  hashes-inserts v old (Found c is_new) new r hashes = absurd r
  hashes-inserts v old (Handles handles) new r hashes = absurd r
  hashes-inserts v old (Refused RunTooLong) new r hashes = kept _ new r.0 (keyed_grown key old hashes).1
  hashes-inserts v old (Refused Memory) new r hashes = kept _ new r.0 hashes
  hashes-inserts v old (Refused Size) new r hashes = absurd r

  pub hashes-replied : (command : TableCommand H (Vec H A)) (old : List (List (ℕ × H))) (reply : TableReply H (Vec H A))
      (new : List (List (ℕ × H))) → IsReplied eq key command old reply new → IsHashOf key old → IsHashOf key new
  hashes-replied (Insert v) old reply new r hashes = hashes-inserts v old reply new r hashes
  hashes-replied (Remove x v) old Done new r hashes = absurd r
  hashes-replied (Remove x v) old (Removed was) new r hashes = kept _ new r.1 (keyed_removed key eq old x v hashes)
  hashes-replied (Remove x v) old (Found c is_new) new r hashes = absurd r
  hashes-replied (Remove x v) old (Handles handles) new r hashes = absurd r
  hashes-replied (Remove x v) old (Refused e) new r hashes = absurd r
  hashes-replied (Find v accepted) old Done new r hashes = absurd r
  hashes-replied (Find v accepted) old (Removed was) new r hashes = absurd r
  hashes-replied (Find v accepted) old (Found c true) new r hashes = kept _ new r.2.0 (keyed_inserted key old v hashes)
  hashes-replied (Find v accepted) old (Found c false) new r hashes = kept _ new r.1 (keyed_grown key old hashes).1
  hashes-replied (Find v accepted) old (Handles handles) new r hashes = absurd r
  hashes-replied (Find v accepted) old (Refused RunTooLong) new r hashes = kept _ new r.1.0 (keyed_grown key old hashes).1
  hashes-replied (Find v accepted) old (Refused Memory) new r hashes = kept _ new r.0 hashes
  hashes-replied (Find v accepted) old (Refused Size) new r hashes = absurd r
  hashes-replied (Reserve n) old Done new r hashes = kept _ new r.0 (hashes-reserved key old n hashes)
  hashes-replied (Reserve n) old (Removed was) new r hashes = absurd r
  hashes-replied (Reserve n) old (Found c is_new) new r hashes = absurd r
  hashes-replied (Reserve n) old (Handles handles) new r hashes = absurd r
  hashes-replied (Reserve n) old (Refused RunTooLong) new r hashes = absurd r
  hashes-replied (Reserve n) old (Refused Memory) new r hashes = kept _ new r.0 hashes
  hashes-replied (Reserve n) old (Refused Size) new r hashes = kept _ new r.0 hashes
  hashes-replied (Get x) old Done new r hashes = absurd r
  hashes-replied (Get x) old (Removed was) new r hashes = absurd r
  hashes-replied (Get x) old (Found c is_new) new r hashes = absurd r
  hashes-replied (Get x) old (Handles handles) new r hashes = kept _ new r.1 hashes
  hashes-replied (Get x) old (Refused RunTooLong) new r hashes = absurd r
  hashes-replied (Get x) old (Refused Memory) new r hashes = kept _ new r hashes
  hashes-replied (Get x) old (Refused Size) new r hashes = absurd r

  -- one more command at the end
  pub AreReplied-more : (commands : List (TableCommand H (Vec H A))) (replies : List (TableReply H (Vec H A)))
      (command : TableCommand H (Vec H A)) (reply : TableReply H (Vec H A)) (old mid new : List (List (ℕ × H))) →
      AreReplied eq key commands old replies mid → IsReplied eq key command mid reply new →
      AreReplied eq key (commands ++ command ∷ []) old (replies ++ reply ∷ []) new
  AreReplied-more [] [] command reply old mid new all one = (new, subst (λ m. IsReplied eq key command m reply new) all one, refl)
  AreReplied-more [] (r ∷ replies) command reply old mid new all one = absurd all
  AreReplied-more (c ∷ commands) [] command reply old mid new all one = absurd all
  AreReplied-more (c ∷ commands) (r ∷ replies) command reply old mid new all one = (all.0, all.1, AreReplied-more commands replies command reply all.0 mid new all.2 one)

  -- the same, if the commands are those at the front of a list
  pub AreReplied-taken : (commands : List (TableCommand H (Vec H A))) (i : ℕ) (command d : TableCommand H (Vec H A))
      (replies : List (TableReply H (Vec H A))) (reply : TableReply H (Vec H A)) (old mid new : List (List (ℕ × H))) →
      i < length commands → command ≡ get_or commands i d
      → AreReplied eq key (take i commands) old replies mid → IsReplied eq key command mid reply new → AreReplied eq key (take (i + 1) commands) old (replies ++ reply ∷ []) new
  AreReplied-taken commands i command d replies reply old mid new within is all one =
      subst (λ cs. AreReplied eq key cs old (replies ++ reply ∷ []) new)
      (ap (λ c. take i commands ++ c ∷ []) is ∙ sym (take_more commands i d within))
      (AreReplied-more (take i commands) replies command reply old mid new all one)

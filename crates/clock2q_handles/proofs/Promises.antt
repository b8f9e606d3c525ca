-- What users of a table rely on over single insertions: few entries are never refused, and removing an entry again restores the slots.
use Rattle.std.proofs.Common.{◌≡◌, ℕ, ◌+◌, ◌^◌, ◌<◌, subst, arith, Bool, true, List, length, Option, Result, Ok, Err, IsOk, OnOk, OnErr, IfOk, IfErr}
use Rattle.clock2q_handles.specs.Homes.{total, capacity, with_handle, without_handle, IsNew}
use Rattle.clock2q_handles.specs.Layout.{Placed, layout, homes_of, IsTidy, IsTooLong}
use Rattle.clock2q_handles.specs.TableStep.{TableValue}
use Rattle.clock2q_handles.specs.Table.{IsWholeTable}
use Rattle.clock2q_handles.specs.Changes.{IsLaidOut}
use Rattle.clock2q_handles.proofs.layout.TidyLayout.{length-homes_of}
use Rattle.clock2q_handles.proofs.shifts.Changes.{length-with_list}
use Rattle.clock2q_handles.proofs.layout.FewerEntries.{total-put_last}
use Rattle.clock2q_handles.proofs.layout.Placement.{best-placed}
use Rattle.clock2q_handles.proofs.layout.TooLong.{too-long-total}
use Rattle.clock2q_handles.proofs.shifts.Removals.{restored-slots}

-- what follows from the result if a call returned `Ok`, and from the error if it did not
pub if_ok : {T E : Type 0} {P Q : T → Type 0} (r : Result T E) → ((x : T) → P x → Q x) → IfOk r P → IfOk r Q
if_ok (Ok x) gives p = gives x p
if_ok (Err e) gives p = tt

pub if_err : {T E : Type 0} {P Q : E → Type 0} (r : Result T E) → ((e : E) → P e → Q e) → IfErr r P → IfErr r Q
if_err (Ok x) gives p = tt
if_err (Err e) gives p = gives e p

-- what follows if a call returned `Ok`
pub on_ok : {T E P Q : Type 0} (r : Result T E) → (P → Q) → OnOk r P → OnOk r Q
on_ok r gives = if_ok r (λ _. gives)

-- and if it did not
pub on_err : {T E P Q : Type 0} (r : Result T E) → (P → Q) → OnErr r P → OnErr r Q
on_err r gives = if_err r (λ _. gives)

-- a call that returned `Ok` returned no error
pub no_error : {T E : Type 0} (r : Result T E) (e : E) → IsOk r → r ≡ Err e → ⊥
no_error r e ok is = let no = subst IsOk is ok in cc

module _ {H : Type 0} where
  -- what callers may rely on of every table includes where the entries are
  pub whole_laid : (t : TableValue H) → IsWholeTable t → IsLaidOut t
  whole_laid t whole = record { laid = whole.laid; best = best-placed t.homes whole.room }

  -- a table below capacity with fewer than 2^24 - 1 entries takes one more
  pub few_fit : (homes : List (List (ℕ × H))) (x : ℕ) (v : H) → total homes < capacity (length homes) → total homes + 1 < 2 ^ 24 → IsTooLong (with_handle homes x v) → ⊥
  few_fit homes x v room few long = grind (arith, total-put_last, length-with_list, too-long-total)

  -- with the lists that an insertion results in, removing the entry again restores the slots
  pub restored_by : (eq : H → H → Bool) (slots : List (Option (Placed (ℕ × H)))) (homes new : List (List (ℕ × H))) (x : ℕ) (v : H)
      → homes_of slots ≡ homes → IsTidy slots → total homes < capacity (length homes)
      → eq v v ≡ true → new ≡ with_handle homes x v → IsNew eq homes x v → layout (without_handle eq new x v) ≡ slots
  restored_by eq slots homes new x v are tidy room same is fresh = grind (arith, length-homes_of, restored-slots)

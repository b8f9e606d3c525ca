-- Tables in which one function gives the hash of each handle: new ones, and what calls without growth leave.
use Rattle.std.proofs.Common.{◌≡◌, ℕ, ◌<◌, zero, suc, Bool, List, [], ◌∷◌, Result, Ok, Err, length, refl, arith}
use Rattle.clock2q_handles.specs.declared.error.TableError.{TableError}
use Rattle.clock2q_handles.specs.Changes.{PutIn}
use Rattle.clock2q_handles.specs.Homes.{top, with_handle, without_handle}
use Rattle.clock2q_handles.specs.TableStep.{IsHashOf, made_for, fit}
use Rattle.clock2q_handles.proofs.Changes.{length-with_list}
use Rattle.clock2q_handles.proofs.HashOfHandle.{keyed_removed}
use Rattle.clock2q_handles.proofs.Hashes.{hashes-none, hashes-put_last}

module _ {H : Type 0} (key : H → ℕ) where
  -- a new table holds no handle, so any function gives the hashes of those that it holds
  pub hashes-made : (n : ℕ) → IsHashOf key (made_for n)
  hashes-made zero = λ h i e l is. absurd (omega (arith, l))
  hashes-made (suc n) = hashes-none key (fit (suc n))

  pub hashes-with : (homes : List (List (ℕ × H))) (v : H) → 0 < length homes → IsHashOf key homes → IsHashOf key (with_handle homes (key v) v)
  hashes-with homes v some hashes = hashes-put_last key homes (key v) (top (key v), v) some hashes refl refl

  pub hashes-put : (homes new : List (List (ℕ × H))) (v : H) (result : Result (Unit {0}) TableError) → 0 < length homes
      → PutIn homes (key v) v result new → IsHashOf key homes → IsHashOf key new
  hashes-put homes new v (Ok r) some put hashes = rw put.0 (hashes-with homes v some hashes)
  hashes-put homes new v (Err e) some put hashes = rw put.1 hashes

  -- an entry is replaced by another
  pub hashes-replaced : (eq : H → H → Bool) (homes : List (List (ℕ × H))) (x : ℕ) (old v : H) → IsHashOf key homes → IsHashOf key (with_handle (without_handle eq homes x old) (key v) v)
  hashes-replaced eq [] x old v hashes = λ h i e l is. absurd (omega (arith, l))
  hashes-replaced eq (es ∷ homes) x old v hashes =
      let len : length (without_handle eq (es ∷ homes) x old) ≡ length (es ∷ homes) = length-with_list (es ∷ homes) x _ in
      hashes-with (without_handle eq (es ∷ homes) x old) v (omega (arith, len)) (keyed_removed key eq (es ∷ homes) x old hashes)

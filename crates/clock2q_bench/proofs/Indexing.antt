-- A table whose handles are indices of a list of hashes remains one.
use Rattle.std.proofs.Common.{◌≡◌, ℕ, ◌<◌, inl, inr, ap, sym, ◌∙◌, subst, arith, List, [], length, get_or, Result, Ok, Err, ◌≢◌}
use Rattle.clock2q_handles.specs.declared.error.TableError.{TableError}
use Rattle.clock2q_handles.specs.declared.error.TableError.TheVariants.{Memory}
use Rattle.std.specs.Fn.{Mut}
use Rattle.clock2q_handles.specs.Homes.{top, with_handle}
use Rattle.clock2q_handles.specs.TableStep.{grown}
use Rattle.clock2q_handles.specs.Rehash.{IsHeld, AfterGrowth, GivesHashes}
use Rattle.clock2q_handles.specs.Changes.{PutIn}
use Rattle.clock2q_handles.proofs.HashOfHandle.{keyed_grown, keyed_inserted}
use Rattle.clock2q_handles.proofs.Held.{entry_held, held_entry, entry_from, grown_from}
use Rattle.clock2q_bench.specs.Indices.{HoldsIndices}

-- the hash at an index
abbrev pub hash_at : List ℕ → ℕ → ℕ
hash_at hashes at = get_or hashes at 0

pub indices_none : (hashes : List ℕ) → HoldsIndices hashes []
indices_none hashes = (λ h i e l at. absurd (omega (arith, l)), λ at held. absurd (cc))

module _ (hashes : List ℕ) (homes : List (List (ℕ × ℕ))) (is : HoldsIndices hashes homes) where
  -- one more index
  pub indices_inserted : (at : ℕ) → at < length hashes → HoldsIndices hashes (with_handle (grown (hash_at hashes) homes) (hash_at hashes at) at)
  indices_inserted at l = (keyed_inserted (hash_at hashes) homes at is.0, within)
    where
      now : List (List (ℕ × ℕ))
      now = with_handle (grown (hash_at hashes) homes) (hash_at hashes at) at

      within : (other : ℕ) → IsHeld now other → other < length hashes
      within other held =
          let e = held_entry now other held in
          elim (entry_from (grown (hash_at hashes) homes) (hash_at hashes at) (top (hash_at hashes at), at) e.0 (keyed_grown (hash_at hashes) homes is.0).0 e.1) [
            | inl old ↦ is.1 other (grown_from (hash_at hashes) homes other (entry_held (grown (hash_at hashes) homes) e.0 other e.2 old))
            | inr one ↦ omega (arith, l, e.2, ap (λ (f : ℕ × ℕ). f.1) one)
          ]

  -- what an insertion of an index leaves if it is not refused
  pub indices_put : {F : Type 0} (g : Mut F (ℕ × Unit {0}) ℕ) (f : F) (new : List (List (ℕ × ℕ))) (x at : ℕ) (result : Result (Unit {0}) TableError) (done : Unit {0}) → result ≡ Ok done
      → (result ≢ Err Memory → AfterGrowth g f homes (λ hs. PutIn hs x at result new)) → x ≡ hash_at hashes at → at < length hashes → GivesHashes g (hash_at hashes) homes f → HoldsIndices hashes new
  indices_put g f new x at (Err e) done ok put is_hash l gives = absurd (cc)
  indices_put g f new x at (Ok r) done ok put is_hash l gives =
      let p = put (λ e. absurd (cc)) (hash_at hashes) (λ _. gives) in
      subst (HoldsIndices hashes) (sym (p.0 ∙ ap (λ h. with_handle (grown (hash_at hashes) homes) h at) is_hash)) (indices_inserted at l)

-- A key that takes a place, with a value or with the one that the place had; and the room that a resident leaves in the
-- index.
use Rattle.clock2q_directory.proofs.Names.{◌≡◌, ℕ, ◌<◌, Bool, false, Some, None, List, length, refl, ap, ◌∙◌, arith, slice_set, Entry, entry, written, with_key, hash_at, Writes, HasSlotUnder, is_remembered, MayRetire, Known, IsResident}
use Rattle.clock2q_directory.proofs.Entries.{slice_get_some, set-written, value-there}
use Rattle.clock2q_directory.proofs.Indexes.{named-own}

module _ {K V : Type 0} where
  -- a key that comes with a value, and one that takes its place's
  pub brings-value : (s hash : ℕ) (key : K) (value : V) (es new : List (Entry K V)) → new ≡ written s (entry hash key value) es → Writes hash key (Some value) s es new
  brings-value s hash key value es new is = record { held = value; is = refl; becomes = is }

  pub keeps-value : (s hash : ℕ) (key : K) (es new : List (Entry K V)) → s < length es → new ≡ with_key s hash key es → Writes hash key None s es new
  keeps-value s hash key es new there is =
      let e = slice_get_some es s there in
      let keyed : with_key s hash key es ≡ slice_set es s (entry hash key e.0.value) = ap (λ z. elim z [ None ↦ es | Some e ↦ slice_set es s (entry hash key e.value) ]) e.1 in
      record { held = e.0.value; is = value-there es s ∙ ap (λ z. elim z [ None ↦ None | Some e ↦ Some e.value ]) e.1; becomes = is ∙ keyed ∙ set-written s (entry hash key e.0.value) es there }

-- a resident's slot is in the index under the hash of its key
pub resident-held : {K V : Type 0} {d : Known K V} {slot old : ℕ} → IsResident slot d → hash_at d.residents.entries slot ≡ Some old → HasSlotUnder old slot d.history.places.index
resident-held {d = d} {slot} {old} r at = grind (arith, named-own)

-- and its key may be remembered, unless it is
pub may-retire : {K V : Type 0} {eq : K → K → Bool} {key : K} {d : Known K V} {slot old : ℕ} → IsResident slot d → hash_at d.residents.entries slot ≡ Some old
    → is_remembered eq key d.history.entries ≡ false
    → MayRetire eq old slot key d.history
may-retire r at absent = record { held = resident-held r at; absent = absent }

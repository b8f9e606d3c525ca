-- A block that is read is what was written last, and a mark changes no other block's.
use Rattle.std.proofs.Common.{◌≡◌, ℕ, zero, suc, ◌<◌, Bool, true, false, eqb, List, [], ◌∷◌, length, Option, Some, None, refl, sym, ap, ◌∙◌, subst, arith, ne_eqb}
use Rattle.std.specs.Prelude.{slice_get, slice_set, if◌then◌else◌, is_some, IfSome}
use Rattle.std.specs.Cmp.{nat_eq_equiv}
use Rattle.std.specs.List.{list_any}
use Rattle.std.specs.Option.{option_map, option_and_then, unwrap_or}
use Rattle.std.proofs.lemmas.Bool.{eqb-false}
use Rattle.clock2q_machine.specs.Calls.{Get}
use Rattle.clock2q_machine.specs.Leaving.{leaves_for, with_value}
use Rattle.clock2q_machine.specs.Machine.{Machine, slot_of, value_of, hit, inserted}
use Rattle.clock2q_machine.specs.Steps.{fetched, put}
use Rattle.clock2q_machine.specs.Whole.{IsWhole}
use Rattle.clock2q_machine.proofs.Entering.{weight-hit, same_slots}
use Rattle.clock2q_machine.proofs.MachineInvariant.{lasting-after, resident_made}
use Rattle.clock2q_machine.proofs.Residents.{hit-absent}
use Rattle.clock2q_machine.proofs.Standing.{get-within}
use Rattle.clock2q_machine.proofs.Whole.{none_is}
use Rattle.clock2q_uses.specs.WriteBack.{is_dirty, blocks, cleaned_if_left, other_than, written_if_left, left_by, IsInStep}
use Rattle.clock2q_uses.proofs.WritingBack.{same_list, block_seen, stored_seen, handed_left, handed_within, blocks_put, in_step_put}

-- a mark
pub is_marked : (dirty : List Bool) (number : ℕ) → number < length dirty → is_dirty (slice_set dirty number true) number ≡ true
is_marked [] number within = absurd (omega (arith, within))
is_marked (d ∷ dirty) zero within = refl
is_marked (d ∷ dirty) (suc number) within = is_marked dirty number (omega (arith, within))

differs_elsewhere : (dirty : List Bool) (number k : ℕ) (mark : Bool) → (k ≡ number → ⊥) → is_dirty (slice_set dirty number mark) k ≡ is_dirty dirty k
differs_elsewhere [] number k mark other = refl
differs_elsewhere (d ∷ dirty) zero zero mark other = absurd (other refl)
differs_elsewhere (d ∷ dirty) zero (suc k) mark other = refl
differs_elsewhere (d ∷ dirty) (suc number) zero mark other = refl
differs_elsewhere (d ∷ dirty) (suc number) (suc k) mark other = differs_elsewhere dirty number k mark (λ e. other (ap suc e))

pub mark_elsewhere : (dirty : List Bool) (number k : ℕ) (mark : Bool) → eqb k number ≡ false → is_dirty (slice_set dirty number mark) k ≡ is_dirty dirty k
mark_elsewhere dirty number k mark other = differs_elsewhere dirty number k mark (eqb-false k number other)

-- a block that was handed over and isn't the one that was put
pub is_other : {T : Type 0} (number left : ℕ) (block : T) (handed : Option (ℕ × T)) → handed ≡ Some (left, block) → (number ≡ left → ⊥) → other_than number handed ≡ Some (left, block)
is_other number left block handed is differs = ap (λ o. other_than number o) is ∙ ap (λ (b : Bool). if b then None else Some (left, block)) (ne_eqb number left differs)

module _ {T : Type 0} (m : Machine ℕ T) (whole : IsWhole eqb m) (dirty : List Bool) (device : List T) (step : IsInStep m dirty device) (number : ℕ) where
  -- the marks of all blocks stay, but for that of the block that leaves
  abbrev pub KeepsMarks : T → List Bool → Type 0
  KeepsMarks block cleaned = (k : ℕ) → ((r : ℕ × T) → left_by number block m ≡ Some r → eqb k r.0 ≡ false) → is_dirty cleaned k ≡ is_dirty dirty k

  -- a block that is put and marked
  pub step_marked : (block : T) (cleaned : List Bool) → KeepsMarks block cleaned → number < length device → number < length cleaned
      → IsInStep (put (eqb number) number block m) (slice_set cleaned number true) (written_if_left dirty (left_by number block m) device)
  step_marked block cleaned keeps within marked = in_step_put m whole number block dirty device step within (slice_set cleaned number true)
      (λ clean. absurd (by (sym (is_marked cleaned number marked) ∙ clean)))
      (λ k other stays clean. sym (keeps k stays) ∙ sym (mark_elsewhere cleaned number k true other) ∙ clean)
    where
      by : true ≡ false → ⊥
      by e = cc

  abbrev now : Machine ℕ T
  now = hit (eqb number) m

  -- a hit changes no value
  value_hit : (k : ℕ) → value_of (eqb k) now ≡ value_of (eqb k) m
  value_hit k = ap (option_and_then (slice_get m.values)) (same_slots eqb now m whole (λ w. weight-hit w (eqb number) m) k)

  pub whole_hit : IsWhole eqb now
  whole_hit = lasting-after eqb nat_eq_equiv (Get number) m whole

  pub step_hit : IsInStep now dirty device
  step_hit = record {
    within = λ k v had. step.within k v (sym (value_hit k) ∙ had);
    clean = λ k v had clean. step.clean k v (sym (value_hit k) ∙ had) clean;
  }

  pub blocks_hit : blocks now device ≡ blocks m device
  blocks_hit = same_list (blocks now device) (blocks m device) (λ k. block_seen now device k
      ∙ ap (λ o. option_map (λ stored. unwrap_or o stored) (slice_get device k)) (value_hit k) ∙ sym (block_seen m device k))

  -- a block that the cache has is hit, and none leaves
  is_there : (block : T) → value_of (eqb number) m ≡ Some block → is_some (slot_of (eqb number) m) ≡ true
  is_there block had = by_slot (slot_of (eqb number) m) refl
    where
      by_slot : (o : Option ℕ) → slot_of (eqb number) m ≡ o → is_some o ≡ true
      by_slot None none = absurd (none_is block (sym (ap (option_and_then (slice_get m.values)) none) ∙ had))
      by_slot (Some slot) found = refl

  pub had_machine : (block : T) → value_of (eqb number) m ≡ Some block → now ≡ fetched (eqb number) number block m
  had_machine block had = ap (λ (b : Bool). if b then now else inserted (eqb number) number block m) (sym (is_there block had))

  abbrev left_if : T → Bool → Option (ℕ × T)
  left_if block b = option_map (λ (v : ℕ × (ℕ × T)). (v.0, v.1.1)) (with_value m (if b then None else leaves_for (list_any (eqb number) m.history) m))

  pub had_dirty : (block : T) → value_of (eqb number) m ≡ Some block → dirty ≡ cleaned_if_left (left_by number block m) dirty
  had_dirty block had = ap (λ (b : Bool). cleaned_if_left (left_if block b) dirty) (sym (is_there block had))

  pub had_device : (block : T) → value_of (eqb number) m ≡ Some block → device ≡ written_if_left dirty (left_by number block m) device
  had_device block had = ap (λ (b : Bool). written_if_left dirty (left_if block b) device) (sym (is_there block had))

  -- a block that the cache has, and one that it doesn't have
  pub seen_there : (block : T) → value_of (eqb number) m ≡ Some block → number < length device → slice_get (blocks m device) number ≡ Some block
  seen_there block had within = block_seen m device number ∙ by (slice_get device number) refl where
    by : (o : Option T) → slice_get device number ≡ o → option_map (λ stored. unwrap_or (value_of (eqb number) m) stored) o ≡ Some block
    by None none = absurd (past device number within none) where
      past : (xs : List T) (k : ℕ) → k < length xs → slice_get xs k ≡ None → ⊥
      past [] k within none = omega (arith, within)
      past (x ∷ xs) zero within none = cc
      past (x ∷ xs) (suc k) within none = past xs k (omega (arith, within)) none
    by (Some stored) is = ap (λ o. Some (unwrap_or o stored)) had

  pub seen_stored : (block : T) → value_of (eqb number) m ≡ None → slice_get device number ≡ Some block → slice_get (blocks m device) number ≡ Some block
  seen_stored block absent is = stored_seen m device number absent ∙ is

  -- a block that is read from the device and put
  pub blocks_read : (block : T) → number < length device → slice_get (blocks m device) number ≡ Some block
      → blocks (put (eqb number) number block m) (written_if_left dirty (left_by number block m) device) ≡ blocks m device
  blocks_read block within is = blocks_put m whole number block dirty device step within ∙ set_same (blocks m device) number is where
    set_same : (xs : List T) (k : ℕ) → slice_get xs k ≡ Some block → slice_set xs k block ≡ xs
    set_same [] k there = refl
    set_same (x ∷ xs) zero there = let e : x ≡ block = cc in ap (λ y. y ∷ xs) (sym e)
    set_same (x ∷ xs) (suc k) there = ap (λ ys. x ∷ ys) (set_same xs k there)

  pub step_read : (block : T) (cleaned : List Bool) → KeepsMarks block cleaned → number < length device → slice_get device number ≡ Some block
      → IsInStep (put (eqb number) number block m) cleaned (written_if_left dirty (left_by number block m) device)
  step_read block cleaned keeps within is =
      in_step_put m whole number block dirty device step within cleaned (λ clean. is) (λ k other stays clean. sym (keeps k stays) ∙ clean)

-- a block that the cache doesn't have: the lookup changes no block, and then it is put as the device has it
module _ {T : Type 0} (m : Machine ℕ T) (whole : IsWhole eqb m) (dirty : List Bool) (device : List T) (step : IsInStep m dirty device)
    (number : ℕ) (within : number < length device) (block : T) (absent : value_of (eqb number) m ≡ None) (stored : slice_get device number ≡ Some block)
    (looked : Machine ℕ T) (after : looked ≡ hit (eqb number) m) (handed : Option (ℕ × T))
    (replaced : IfSome (value_of (eqb number) looked) (λ before. handed ≡ Some (number, before)))
    (evicted : slot_of (eqb number) looked ≡ None → handed ≡ left_by number block looked) where
  whole_looked : IsWhole eqb looked
  whole_looked = subst (λ z. IsWhole eqb z) (sym after) (whole_hit m whole dirty device step number)

  step_looked : IsInStep looked dirty device
  step_looked = subst (λ z. IsInStep z dirty device) (sym after) (step_hit m whole dirty device step number)

  all_looked : blocks looked device ≡ blocks m device
  all_looked = ap (λ z. blocks z device) after ∙ blocks_hit m whole dirty device step number

  is_left : other_than number handed ≡ left_by number block looked
  is_left = handed_left looked whole_looked number block handed replaced evicted

  slot_absent : slot_of (eqb number) m ≡ None
  slot_absent = by_slot (slot_of (eqb number) m) refl
    where
      by_slot : (o : Option ℕ) → slot_of (eqb number) m ≡ o → o ≡ None
      by_slot None none = refl
      by_slot (Some slot) found =
          let v = get-within m.values slot (resident_made eqb nat_eq_equiv (eqb number) m whole slot found) in
          absurd (none_is v.0 (sym absent ∙ ap (option_and_then (slice_get m.values)) found ∙ v.1))

  same_machine : looked ≡ m
  same_machine = after ∙ hit-absent (eqb number) m slot_absent

  put_anew : put (eqb number) number block m ≡ fetched (eqb number) number block m
  put_anew = rw slot_absent refl

  pub missed_machine : put (eqb number) number block looked ≡ fetched (eqb number) number block m
  missed_machine = ap (put (eqb number) number block) same_machine ∙ put_anew

  pub missed_device : written_if_left dirty (other_than number handed) device ≡ written_if_left dirty (left_by number block m) device
  missed_device = ap (λ o. written_if_left dirty o device) (is_left ∙ ap (left_by number block) same_machine)

  pub missed_dirty : cleaned_if_left (other_than number handed) dirty ≡ cleaned_if_left (left_by number block m) dirty
  missed_dirty = ap (λ o. cleaned_if_left o dirty) (is_left ∙ ap (left_by number block) same_machine)

  pub missed_within : IfSome handed (λ r. r.0 < length device)
  missed_within = handed_within looked whole_looked number block handed replaced evicted step_looked within

  pub missed_blocks : blocks (put (eqb number) number block looked) (written_if_left dirty (other_than number handed) device) ≡ blocks m device
  missed_blocks =
      ap (λ o. blocks (put (eqb number) number block looked) (written_if_left dirty o device)) is_left
      ∙ blocks_read looked whole_looked dirty device step_looked number block within (ap (λ bs. slice_get bs number) all_looked ∙ seen_stored m whole dirty device step number block absent stored)
      ∙ all_looked

  pub missed_in_step : (cleaned : List Bool) → ((k : ℕ) → ((r : ℕ × T) → other_than number handed ≡ Some r → eqb k r.0 ≡ false) → is_dirty cleaned k ≡ is_dirty dirty k)
      → IsInStep (put (eqb number) number block looked) cleaned (written_if_left dirty (other_than number handed) device)
  missed_in_step cleaned keeps =
      subst (λ o. IsInStep (put (eqb number) number block looked) cleaned (written_if_left dirty o device)) (sym is_left)
      (step_read looked whole_looked dirty device step_looked number block cleaned (λ k stays. keeps k (λ r is. stays r (sym is_left ∙ is))) within stored)

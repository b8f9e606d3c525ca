-- An occupant says who had the slot of a key that entered, and the shares stay as they are.
use Rattle.std.proofs.Common.{◌≡◌, ℕ, eqb, if◌then◌else◌, Bool, true, false, None, Some, refl, sym, ap, ◌∙◌}
use Rattle.std.specs.Prelude.{◌↔◌, IsSome, Option, is_some}
use Rattle.std.specs.Cmp.{nat_eq_equiv}
use Rattle.std.specs.Option.{option_map}
use Rattle.clock2q_machine.specs.Calls.{Put}
use Rattle.clock2q_machine.specs.Leaving.{leaver}
use Rattle.clock2q_machine.specs.Machine.{Machine, inserted, slot_of}
use Rattle.clock2q_machine.specs.Steps.{put, replaced_at}
use Rattle.clock2q_machine.specs.Whole.{IsWhole}
use Rattle.clock2q_machine.proofs.MachineInvariant.{placed-key}
use Rattle.clock2q_cache.specs.declared.occupant.Occupant.{Occupant}
use Rattle.clock2q_cache.specs.declared.occupant.Occupant.TheVariants.{Itself, Nobody, Other}
use Rattle.clock2q_cache.specs.Occupants.{evicted_from}
use Rattle.clock2q_c.specs.Holders.{holder, occupied_by}

module _ (key : ℕ) (m : Machine ℕ (Unit {0})) (slot : ℕ) where
  abbrev holder_if : (has_slot : Bool) → Option ℕ
  holder_if has_slot = if has_slot then Some key else option_map (λ (r : ℕ × ℕ). r.0) (leaver eqb (Put key tt) m)

  -- a key that isn't its own occupant had no slot
  stranger : (o : Occupant ℕ) → (o ≡ Itself → ⊥) → (o ≡ Itself) ↔ IsSome (slot_of (eqb key) m) → is_some (slot_of (eqb key) m) ≡ false
  stranger o other hit = (elim (is_some (slot_of (eqb key) m)) as (λ b. is_some (slot_of (eqb key) m) ≡ b → is_some (slot_of (eqb key) m) ≡ false) [
    | true ↦ λ has. absurd (other (hit.1 has))
    | false ↦ λ none. none
  ]) refl

  pub holder-is : (o : Occupant ℕ) → (o ≡ Itself) ↔ IsSome (slot_of (eqb key) m) → evicted_from slot o ≡ leaver eqb (Put key tt) m → occupied_by key o ≡ holder key m
  holder-is Itself hit evicted = sym (ap holder_if (hit.0 refl))
  holder-is Nobody hit evicted = ap (option_map (λ (r : ℕ × ℕ). r.0)) evicted ∙ sym (ap holder_if (stranger Nobody (λ e. cc) hit))
  holder-is (Other evictee) hit evicted = ap (option_map (λ (r : ℕ × ℕ). r.0)) evicted ∙ sym (ap holder_if (stranger (Other evictee) (λ e. cc) hit))

-- a key that enters leaves the shares as they are
pub same-shares : (key : ℕ) (m : Machine ℕ (Unit {0})) → IsWhole eqb m → (put (eqb key) key tt m).shares ≡ m.shares
same-shares key m h = by (slot_of (eqb key) m) refl where
  by : (o : Option ℕ) → slot_of (eqb key) m ≡ o → (if is_some o then replaced_at (eqb key) tt o m else inserted (eqb key) key tt m).shares ≡ m.shares
  by None absent = (placed-key eqb nat_eq_equiv key m h absent).shares
  by (Some slot) found = refl

-- Which frame a page has after `put`: it is alone there, and no other page moves.
use Rattle.std.proofs.Common.{◌≡◌, ◌≢◌, ◌↔◌, ℕ, ◌<◌, ◌≤◌, Bool, true, false, [], ◌∷◌, eqb, inl, inr, length, length-append, Option, Some, None, refl, sym, ap, ◌∙◌, arith, ne_eqb}
use Rattle.std.specs.Prelude.{if◌then◌else◌, is_some, IsTrue, option_copied, slice_get}
use Rattle.std.specs.Borrow.{Bor}
use Rattle.std.specs.Cmp.{nat_eq_equiv}
use Rattle.std.specs.Option.{option_and_then}
use Rattle.std.proofs.Math.ListN.{length-set}
use Rattle.std.proofs.lemmas.Bool.{cases_lt, lt-ltb, le-ltb}
use Rattle.std.proofs.lemmas.Option.{slice_get_past}
use Rattle.clock2q_machine.specs.Calls.{Put}
use Rattle.clock2q_machine.specs.Whole.{IsWhole}
use Rattle.clock2q_machine.specs.Shares.{Shares}
use Rattle.clock2q_machine.specs.Machine.{Machine, hit, inserted, placement, slot_of, stored}
use Rattle.clock2q_machine.specs.Steps.{is_at, put, replaced_at, slotted_at, hit_at, value_at}
use Rattle.clock2q_machine.proofs.Whole.{none_is}
use Rattle.clock2q_machine.proofs.NewKeys.{put_shares}
use Rattle.clock2q_machine.proofs.MachineInvariant.{placed-key, lasting-inserted, lasting-after, resident_made}
use Rattle.clock2q_machine.proofs.Standing.{stored_elsewhere}
use Rattle.clock2q_machine.proofs.Entering.{weight-hit, weight-replaced, same_slots, slots_apart, entered_there}
use Rattle.clock2q_machine.proofs.Laws.{slot_at_most, put_there, others_keep, get_at_hits}
use Rattle.clock2q_pages.specs.Pages.{IsLoaded, last_in, resident_frame}

module _ {V : Type 0} (m : Machine ℕ V) (slot : ℕ) (value : V) (at_most : slot ≤ length m.values) where
  -- storing a value changes no other slot
  stored_others : (at : ℕ) → at ≢ slot → slice_get (stored slot value m).values at ≡ slice_get m.values at
  stored_others at differ = elim (cases_lt at (length m.values)) [
    | inl made ↦ stored_elsewhere m slot value at differ made
    | inr past ↦ slice_get_past (stored slot value m).values at (long at differ past) ∙ sym (slice_get_past m.values at past)
  ] where
    long : (at : ℕ) → at ≢ slot → length m.values ≤ at → length (stored slot value m).values ≤ at
    long at differ past = elim (cases_lt slot (length m.values)) [
      | inl made ↦ rw (lt-ltb slot (length m.values) made) (omega (arith, length-set m.values slot value, past))
      | inr next ↦ rw (le-ltb slot (length m.values) next) (omega (arith, length-append m.values (value ∷ []), past, at_most, next, differ))
    ]

module _ (m : Machine ℕ (Option ℕ)) (h : IsWhole eqb m) (page : ℕ) (value : Option ℕ) where
  abbrev now : Machine ℕ (Option ℕ)
  now = put (eqb page) page value m

  abbrev frame : ℕ
  frame = slotted_at (slot_of (eqb page) m) (eqb page) page m

  whole_now : IsWhole eqb now
  whole_now = lasting-after eqb nat_eq_equiv (Put page value) m h

  -- the page is in the frame that is returned
  pub page_there : resident_frame now page ≡ Some frame
  page_there = by_slot (slot_of (eqb page) m) refl where
    by_slot : (o : Option ℕ) → slot_of (eqb page) m ≡ o →
        slot_of (eqb page) (if is_some o then replaced_at (eqb page) value o m else inserted (eqb page) page value m) ≡
        Some (slotted_at o (eqb page) page m)
    by_slot None absent = entered_there eqb nat_eq_equiv m h page absent value false (lasting-inserted eqb nat_eq_equiv page m h absent value)
    by_slot (Some slot) found = same_slots eqb (replaced_at (eqb page) value (Some slot) m) m h (λ w. weight-replaced w (eqb page) value (Some slot) m) page ∙ found

  -- and no other page is there
  pub page_alone : (other : ℕ) → other ≢ page → resident_frame now other ≢ Some frame
  page_alone other differ found = slots_apart eqb nat_eq_equiv now whole_now other page (ne_eqb other page differ) frame frame page_there found refl

  -- and each other page that is resident is where it was
  pub others_keep_frames : (other at : ℕ) → other ≢ page → resident_frame now other ≡ Some at → resident_frame m other ≡ Some at
  others_keep_frames other at differ found = elim (others_keep eqb nat_eq_equiv m h (Put page value) other (ne_eqb other page differ)) [
    | inl gone ↦ absurd (none_is at (sym gone ∙ found))
    | inr same ↦ sym same.0 ∙ found
  ]

  -- the shares stay the same
  pub same_shares : now.shares ≡ m.shares
  same_shares = put_shares eqb nat_eq_equiv page value m h

  -- so the frame is below the old capacity
  pub frame_within : frame < m.shares.capacity
  frame_within = omega (arith, resident_made eqb nat_eq_equiv (eqb page) now whole_now frame page_there, whole_now.made_within, ap (λ (s : Shares). s.capacity) same_shares)

  -- the page's frame has the value
  pub value_there : slice_get now.values frame ≡ Some value
  value_there = sym (ap (option_and_then (slice_get now.values)) page_there) ∙ put_there eqb nat_eq_equiv m h page value

  -- and the other frames have the values that they had
  pub values_elsewhere : (at : ℕ) → at ≢ frame → slice_get now.values at ≡ slice_get m.values at
  values_elsewhere = by_slot (slot_of (eqb page) m) refl where
    by_slot : (o : Option ℕ) → slot_of (eqb page) m ≡ o → (at : ℕ) → at ≢ slotted_at o (eqb page) page m
        → slice_get (if is_some o then replaced_at (eqb page) value o m else inserted (eqb page) page value m).values at ≡ slice_get m.values at
    by_slot None absent at differ =
        let p = placement (eqb page) page m in
        stored_others p.machine p.slot value (slot_at_most eqb nat_eq_equiv m h page absent) at differ ∙ ap (λ values. slice_get values at) (placed-key eqb nat_eq_equiv page m h absent).values
    by_slot (Some slot) found at differ =
        let made = resident_made eqb nat_eq_equiv (eqb page) m h slot found in
        stored_others (hit (eqb page) m) slot value (omega (arith, made)) at differ

-- a page is loaded in a frame if and only if it got the frame last
pub last_is_loaded : (m : Machine ℕ (Option ℕ)) (page frame : ℕ) → (last_in m frame ≡ Some page) ↔ IsLoaded m page frame
last_is_loaded m page frame = by_value (slice_get m.values frame) where
  by_value : (o : Option (Option ℕ)) → (option_and_then (λ last. last) o ≡ Some page) ↔ (o ≡ Some (Some page))
  by_value None = ((λ e. cc), λ e. cc)
  by_value (Some None) = ((λ e. cc), λ e. cc)
  by_value (Some (Some last)) = ((λ e. ap Some e), λ e. cc)

-- asking whether a page is in a frame moves no page
module _ {V : Type 0} (m : Machine ℕ V) (h : IsWhole eqb m) (at page : ℕ) where
  pub asked_frames : (other : ℕ) → resident_frame (hit_at at (eqb page) m) other ≡ resident_frame m other
  asked_frames other = elim (is_at at (slot_of (eqb page) m)) as (λ b. resident_frame (if b then hit (eqb page) m else m) other ≡ resident_frame m other) [
    | true ↦ same_slots eqb (hit (eqb page) m) m h (λ w. weight-hit w (eqb page) m) other
    | false ↦ refl
  ]

  pub asked_values : (hit_at at (eqb page) m).values ≡ m.values
  asked_values = elim (is_at at (slot_of (eqb page) m)) as (λ b. (if b then hit (eqb page) m else m).values ≡ m.values) [ true ↦ refl | false ↦ refl ]

  pub asked_shares : (hit_at at (eqb page) m).shares ≡ m.shares
  asked_shares = elim (is_at at (slot_of (eqb page) m)) as (λ b. (if b then hit (eqb page) m else m).shares ≡ m.shares) [ true ↦ refl | false ↦ refl ]

  pub asked_there : (found : Option (Bor V)) (is : Bool) → option_copied found ≡ value_at at (eqb page) m → is ≡ is_some found → IsTrue is ↔ (resident_frame m page ≡ Some at)
  asked_there found is value some =
      let same : is ≡ is_some (value_at at (eqb page) m) = some ∙ copied found ∙ ap is_some value in
      rw same (get_at_hits eqb nat_eq_equiv m h at page) where
        copied : (o : Option (Bor V)) → is_some o ≡ is_some (option_copied o)
        copied None = refl
        copied (Some value) = refl

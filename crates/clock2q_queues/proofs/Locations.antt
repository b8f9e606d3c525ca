-- What a slot's record says of the queue that it is in, and of the slots at the queues' ends.
use Rattle.clock2q_queues.proofs.Names.{◌≡◌, ◌⊎◌, ℕ, ◌-◌, ◌≢◌, Bool, true, false, ◌||◌, ◌&&◌, ◌++◌, Some, None, length, take, drop, slice_get, inl, inr, refl, sym, ap, ◌∙◌, subst, eqb, last_or}
use Rattle.clock2q_queues.proofs.Names.{list_any, cases_Bool, list_any-append, is_promoted, Location, Free, SmallYoung, SmallOld, Main, Small, is_linked, LinkState, location_at, bit_at, is_old}
use Rattle.clock2q_queues.proofs.Names.{main_slots, main_entries, IsInSmall, small_slots, small_entries, age_of, age_at, QueueState, AreQueues, IsAt, queues_shown, slots_of, without_slot}
use Rattle.clock2q_queues.proofs.Names.{tail_promoted}
use Rattle.clock2q_queues.specs.declared.entries.Location.TheVariants as at
use Rattle.clock2q_queues.proofs.InQueue.{small_linked}
use Rattle.clock2q_queues.proofs.Sharing.{small_slots-of, main_slots-of}
use Rattle.clock2q_queues.proofs.SlotLists.{tail_among, tail_entry, first_out, last_out, none_last}

Free≢Main : Free ≢ at.Main
Free≢Main e = cc

module _ (l : LinkState) (small : Small) (main : Main) (q : AreQueues l small main) (slot : ℕ) where
  abbrev location : Location
  location = location_at l.records.items slot

  not_in_small : (IsInSmall location → ⊥) → list_any (eqb slot) (small_slots l small) ≡ false
  not_in_small n = elim (cases_Bool (list_any (eqb slot) (small_slots l small))) [ inl h ↦ absurd (n (q.small.location slot h)) | inr h ↦ h ]

  not_in_main : location ≢ at.Main → list_any (eqb slot) (main_slots l main) ≡ false
  not_in_main n = elim (cases_Bool (list_any (eqb slot) (main_slots l main))) [ inl h ↦ absurd (n (q.main.location slot h)) | inr h ↦ h ]

  is_in_small : location ≢ at.Main → location ≢ Free → list_any (eqb slot) (small_slots l small) ≡ true
  is_in_small n f = elim (cases_Bool (list_any (eqb slot) (small_slots l small))) [ inl h ↦ h | inr h ↦ absurd (f (q.elsewhere slot h (not_in_main n))) ]

  is_in_main : (IsInSmall location → ⊥) → location ≢ Free → list_any (eqb slot) (main_slots l main) ≡ true
  is_in_main n f = elim (cases_Bool (list_any (eqb slot) (main_slots l main))) [ inl h ↦ h | inr h ↦ absurd (f (q.elsewhere slot (not_in_small n) h)) ]

  of_small : {b : Bool} → list_any (eqb slot) (small_slots l small) ≡ b → list_any (eqb slot) (slots_of (small_entries l small)) ≡ b
  of_small h = ap (λ z. list_any (eqb slot) z) (small_slots-of l small) ∙ h

  of_main : {b : Bool} → list_any (eqb slot) (main_slots l main) ≡ b → list_any (eqb slot) (slots_of (main_entries l main)) ≡ b
  of_main h = ap (λ z. list_any (eqb slot) z) (main_slots-of l main) ∙ h

  at_free : Free ≡ location → IsAt Free slot (queues_shown l small main)
  at_free e = (of_small (not_in_small (λ i. subst (λ z. IsInSmall z) (sym e) i)), of_main (not_in_main (λ m. Free≢Main (e ∙ m))))

  at_main : at.Main ≡ location → IsAt at.Main slot (queues_shown l small main)
  at_main e =
      let n = (λ (i : IsInSmall location). subst (λ z. IsInSmall z) (sym e) i) in
      (of_small (not_in_small n), of_main (is_in_main n (λ f. Free≢Main (sym f ∙ sym e))))

  at_small : location ≢ at.Main → location ≢ Free → IsAt SmallOld slot (queues_shown l small main)
  at_small n f = (of_small (is_in_small n f), of_main (not_in_main n))

  -- a slot is where its record says
  pub is_at : (m : Location) → m ≡ location → IsAt m slot (queues_shown l small main)
  is_at Free e = at_free e
  is_at (SmallYoung position) e = at_small (λ h. cc) (λ h. cc)
  is_at SmallOld e = at_small (λ h. cc) (λ h. cc)
  is_at at.Main e = at_main e

  -- a slot is in one of the queues if its record says so, and only then
  pub linked_anywhere : is_linked location ≡ list_any (eqb slot) (slots_of (small_entries l small) ++ slots_of (main_entries l main))
  linked_anywhere = of location refl ∙ sym (list_any-append (eqb slot) (slots_of (small_entries l small)) (slots_of (main_entries l main)))
    where
      of : (m : Location) → m ≡ location → is_linked m ≡ (list_any (eqb slot) (slots_of (small_entries l small)) || list_any (eqb slot) (slots_of (main_entries l main)))
      of Free e = let here = is_at Free e in rw (here.0, here.1) refl
      of (SmallYoung position) e = let here = is_at (SmallYoung position) e in rw here.0 refl
      of SmallOld e = let here = is_at SmallOld e in rw here.0 refl
      of at.Main e = let here = is_at at.Main e in rw (here.0, here.1) refl

-- a slot with such a location is in Small alone
pub in_small_alone : (m : Location) (slot : ℕ) (q : QueueState) → ((position : ℕ) × (m ≡ SmallYoung position)) ⊎ (m ≡ SmallOld) → IsAt m slot q → IsAt SmallOld slot q
in_small_alone m slot q (inl y) here = subst (λ z. IsAt z slot q) y.1 here
in_small_alone m slot q (inr y) here = subst (λ z. IsAt z slot q) y here

-- The slots at the ends

promoted-is : (window cursor : ℕ) (m : Location) (bit : Bool) → IsInSmall m → (is_old m && bit) ≡ is_promoted (age_of window cursor m bit)
promoted-is window cursor (SmallYoung position) bit s = refl
promoted-is window cursor SmallOld bit s = refl
promoted-is window cursor Free bit s = absurd s
promoted-is window cursor at.Main bit s = absurd s

module _ (l : LinkState) (small : Small) (main : Main) (q : AreQueues l small main) where
  -- Small's oldest slot is in Small
  module _ (tail : ℕ) (is : last_or None (small_slots l small) ≡ Some tail) where
    pub tail_there : list_any (eqb tail) (small_slots l small) ≡ true
    tail_there = tail_among (small_slots l small) tail is

    pub tail_linked : is_linked (location_at l.records.items tail) ≡ true
    tail_linked = (small_linked l small q.small tail tail_there).own

    -- it goes on to Main if it is old and its bit is set
    pub tail_promoted-some : (is_old (location_at l.records.items tail) && bit_at l tail) ≡ tail_promoted (last_or None (small_entries l small))
    tail_promoted-some =
        promoted-is (length l.window.items) small.cursor (location_at l.records.items tail) (bit_at l tail) (q.small.location tail tail_there)
        ∙ sym (ap tail_promoted (tail_entry (λ s. age_at l small.cursor s) (small_slots l small) tail is))

    -- without it, all but the last entry are left
    pub tail_out : without_slot tail (small_entries l small) ≡ take (length (small_entries l small) - 1) (small_entries l small)
    tail_out =
        (last_out tail (small_entries l small) (ap (λ z. last_or None z) (small_slots-of l small) ∙ is)
        (rw (small_slots-of l small) q.small.queue.linked.apart)).1

  -- Main's first slot is in Main, and without it the others are left
  pub first_there : (slot : ℕ) (bit : Bool) → slice_get (main_entries l main) 0 ≡ Some (slot, bit)
      → (list_any (eqb slot) (main_slots l main) ≡ true) × (without_slot slot (main_entries l main) ≡ drop 1 (main_entries l main))
  first_there slot bit is =
      let out = first_out slot bit (main_entries l main) is (rw (main_slots-of l main) q.main.queue.linked.apart) in
      (ap (λ z. list_any (eqb slot) z) (sym (main_slots-of l main)) ∙ out.0, out.1)

module _ (l : LinkState) (small : Small) (is : last_or None (small_slots l small) ≡ None) where
  pub no_tail : small_entries l small ≡ take (length (small_entries l small) - 1) (small_entries l small)
  no_tail = none_last (small_entries l small) (ap (λ z. last_or None z) (small_slots-of l small) ∙ is)

-- The candidate that a closure accepts, and those that it rejected before.
use Rattle.std.proofs.Common.{◌≡◌, ℕ, ◌+◌, ◌-◌, ◌%◌, ◌<◌, ◌≤◌, Bool, true, false, List, [], ◌∷◌, ◌++◌, ◌==◌, length, Option, Some, None, refl, sym, ◌∙◌, subst, arith}
use Rattle.std.proofs.lemmas.List.{map-append, append_cancel_right}
use Rattle.std.proofs.lemmas.List.Elements.{filter-append}
use Rattle.std.proofs.Math.Seq.{take-append_seam}
use Rattle.std.specs.Fn.{Called, Mut}
use Rattle.clock2q_handles.specs.Homes.{top, candidates_before}
use Rattle.clock2q_handles.specs.Layout.{Placed, placed, slot_at, met, homes_of, IsTidy}
use Rattle.clock2q_handles.specs.Candidates.{left_at, left_from, met_before, IsWalkFor, IsFoundAt}
use Rattle.clock2q_handles.specs.Offers.{Offers}
use Rattle.clock2q_handles.specs.Positions.{IsEntryAt}
use Rattle.clock2q_handles.specs.Slots.{Mark}
use Rattle.clock2q_handles.proofs.shifts.Changes.{read-split}
use Rattle.clock2q_handles.proofs.walks.Cursors.{home_of_walk, rem-plus}
use Rattle.clock2q_handles.proofs.layout.Laid.{met-add, met-same}
use Rattle.clock2q_handles.proofs.walks.Positions.{past_at, here_entry}
use Rattle.clock2q_handles.proofs.shifts.Steps.{past_home}

module _ {F H : Type 0} (g : Mut F (H × Unit {0}) Bool) where
  -- one more candidate is rejected
  pub Offers-push : (f : F) (hs : List H) (f' : F) (h : H) (next : F) → Offers g f hs None f' → Called g f' (h, tt) false next → Offers g f (hs ++ h ∷ []) None next
  Offers-push f [] f' h next so_far called = (false, next, subst (λ s. Called g s (h, tt) false next) so_far.1 called, (refl, refl))
  Offers-push f (x ∷ hs) f' h next (true, mid, asked, rest) called = let no = rest.0 in absurd (cc)
  Offers-push f (x ∷ hs) f' h next (false, mid, asked, rest) called = (false, mid, asked, Offers-push mid hs f' h next rest called)

module _ {H : Type 0} (slots : List (Option (Placed (ℕ × H)))) (tidy : IsTidy slots) (x : ℕ) where
  -- what a walk still has to yield is what it looks for from its slot on
  walk_left : (wanted : Mark) (n : ℕ) (walk : IsWalkFor slots x wanted n) → left_at slots wanted n ≡ left_from slots x walk.distance
  walk_left wanted n walk = rw (walk.mark, home_of_walk slots x walk.distance n walk.come.within (walk.come.slot ∙ rem-plus (length slots) x walk.distance)) refl

  -- the candidates are those that a walk has met and those that it still has to yield
  left_split : (d : ℕ) → d ≤ length slots → left_from slots x 0 ≡ met_before slots x d ++ left_from slots x d
  left_split d within =
      let g : ℕ = x % length slots in
      grind (arith, met-add (slot_at slots) g 0 d (length slots - d), filter-append (λ e. e.0 == top x) (met (slot_at slots) g 0 d), map-append)

  -- so the candidates offered before are those that it has met
  pub offered_met : (wanted : Mark) (n : ℕ) (before : List H) (walk : IsWalkFor slots x wanted n) → left_from slots x 0 ≡ before ++ left_at slots wanted n → before ≡ met_before slots x walk.distance
  offered_met wanted n before walk all =
      append_cancel_right before (met_before slots x walk.distance) (left_from slots x walk.distance) (grind (arith, all, walk_left wanted n walk, left_split walk.distance))

  module _ (some : 0 < length slots) (n : ℕ) (v : H) (found : IsFoundAt slots x v n) where
    -- what was found is among the entries of its home, and the candidates before it are those that the walk has met
    pub accepted_entry : (i : ℕ) × IsEntryAt (homes_of slots) x i (top x, v) n × (met_before slots x found.distance ≡ candidates_before (homes_of slots) x i)
    accepted_entry =
        let d : ℕ = found.distance in
        let here : slot_at slots (x + d) ≡ Some (placed d (top x, v)) = sym (past_at slots tidy some x d n found.come.slot) ∙ found.here in
        let before : List (ℕ × H) = met (slot_at slots) x 0 d in
        let same = met-same (slot_at slots) (slot_at slots) (x % length slots) x 0 d (λ j _ _. past_home slots (length slots) (x % length slots) x refl refl j) in
        let entry_at = here_entry slots tidy some x d (top x, v) here n (found.come.slot ∙ rem-plus (length slots) x d) in
        (length before, entry_at, grind (arith, read-split slots x d (top x, v) found.come.within here, take-append_seam before, same))

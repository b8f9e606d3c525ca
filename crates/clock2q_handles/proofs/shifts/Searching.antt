-- Walks for the first entry of a home that equals another.
use Rattle.std.proofs.Common.{◌≡◌, ℕ, suc, ◌+◌, ◌%◌, ◌<◌, ◌≤◌, refl, ap, sym, ◌∙◌, arith, Bool, true, false, List, length, Option, Some, IfSome}
use Rattle.std.specs.List.{list_any}
use Rattle.clock2q_handles.specs.Candidates.{IsWalkFor}
use Rattle.clock2q_handles.specs.Found.{Finds, FindsAt}
use Rattle.clock2q_handles.specs.Homes.{top, is_entry_of, listed}
use Rattle.clock2q_handles.specs.Layout.{Placed, placed, slot_at, reach, at_home, met, homes_of, walk, IsTidy}
use Rattle.clock2q_handles.specs.Slots.{Mark, mark_of, mark_on, mark_reach}
use Rattle.clock2q_handles.proofs.shifts.Carrying.{come_here, come_home, come_on}
use Rattle.clock2q_handles.proofs.walks.Finding.{met_all, none_more, candidate, is_entry_of-candidate, any-other, any-failed, come_reads}

-- a walk for x has reached slot n, and has met no entry that `remove` of v under x may remove
pub record IsSearching {H : Type 0} (eq : H → H → Bool) (v : H) (slots : List (Option (Placed (ℕ × H)))) (x : ℕ) (wanted : Mark) (n : ℕ) : Type 0 where
  pub at : IsWalkFor slots x wanted n
  pub none : list_any (is_entry_of eq x v) (met (slot_at slots) (x % length slots) 0 at.distance) ≡ false

module _ {H : Type 0} (eq : H → H → Bool) (v : H) (slots : List (Option (Placed (ℕ × H)))) (tidy : IsTidy slots) (x : ℕ) where
  pub search_begins : (s : Mark) (n : ℕ) → 0 < length slots → n ≡ x % length slots → s ≡ Some (0, top x) → IsSearching eq v slots x s n
  search_begins s n some at is = record { at = record { distance = 0; come = come_home slots (x % length slots) n at (omega (arith, some)); mark = is }; none = refl }

  module _ {s : Mark} {n : ℕ} (search : IsSearching eq v slots x s n) where
    abbrev d : ℕ
    d = search.at.distance

    here : slot_at slots (x % length slots + d) ≡ slot_at slots n
    here = sym (come_here slots (x % length slots) d n search.at.come)

    -- it has read fewer slots than its walk
    pub search_reads : mark_reach s ≤ walk (homes_of slots) x
    search_reads = omega (arith, come_reads slots tidy x d n search.at.come, ap mark_reach search.at.mark)

    -- an entry with the mark
    marked : {w : H} → s ≡ mark_of (slot_at slots n) → IfSome (slot_at slots n) (λ p. w ≡ p.entry.1) → slot_at slots (x % length slots + d) ≡ Some (placed d (top x, w))
    marked {w} is handle = here ∙ candidate x s (slot_at slots n) d w is search.at.mark handle

    -- whose handle equals v is found
    pub search_finds : {w : H} → s ≡ mark_of (slot_at slots n) → IfSome (slot_at slots n) (λ p. w ≡ p.entry.1) → eq w v ≡ true → FindsAt (is_entry_of eq x v) slots (x % length slots) n
    search_finds {w} is handle equal =
        let passes = is_entry_of-candidate eq x v w ∙ equal in
        let finds : Finds (is_entry_of eq x v) (slot_at slots) (x % length slots) d = record { entry = (top x, w); here = marked is handle; passes = passes; none_before = search.none } in
        grind (arith, search.at.come, finds)

    -- at the end of the walk there is none
    pub search_ends : reach (slot_at slots n) < mark_reach s → list_any (is_entry_of eq x v) (listed (homes_of slots) (x % length slots)) ≡ false
    search_ends stop = ap (list_any (is_entry_of eq x v)) (met_all slots tidy (x % length slots) d search.at.come.within search.at.come.passed (omega (arith, stop, ap reach here, ap mark_reach search.at.mark))) ∙ search.none

    -- an entry with another handle, or another mark, isn't the one
    pub other_handle : {w : H} → s ≡ mark_of (slot_at slots n) → IfSome (slot_at slots n) (λ p. w ≡ p.entry.1) → eq w v ≡ false
        → list_any (is_entry_of eq x v) (at_home (slot_at slots (x % length slots + d)) d) ≡ false
    other_handle {w} is handle other = any-failed (is_entry_of eq x v) (slot_at slots (x % length slots + d)) d (top x, w) (marked is handle) (is_entry_of-candidate eq x v w ∙ other)

    pub other_mark : (s ≡ mark_of (slot_at slots n) → ⊥) → list_any (is_entry_of eq x v) (at_home (slot_at slots (x % length slots + d)) d) ≡ false
    other_mark other = any-other eq x v (slot_at slots (x % length slots + d)) d (λ e. other (search.at.mark ∙ sym e ∙ ap mark_of here))

    -- and the walk goes on
    pub search_on : {s' : Mark} {n' : ℕ} → list_any (is_entry_of eq x v) (at_home (slot_at slots (x % length slots + d)) d) ≡ false → mark_reach s ≤ reach (slot_at slots n) → s' ≡ mark_on s
        → n' ≡ (n + 1) % length slots → (next : IsSearching eq v slots x s' n') × (mark_reach s' ≡ suc (mark_reach s)) × (mark_reach s' ≤ length slots)
    search_on {s'} {n'} other far more on =
        let come = come_on slots tidy (x % length slots) d n n' search.at.come (omega (arith, far, ap mark_reach search.at.mark)) on in
        let mark : s' ≡ Some (suc d, top x) = more ∙ ap mark_on search.at.mark in
        let one : d + 1 ≡ suc d = omega arith in
        let none = rw one at (none_more (is_entry_of eq x v) (slot_at slots) (x % length slots) d search.none other) in
        let far' = ap mark_reach mark in
        (record { at = record { distance = suc d; come = come; mark = mark }; none = none }, omega (arith, far', ap mark_reach search.at.mark), omega (arith, far', come.within))

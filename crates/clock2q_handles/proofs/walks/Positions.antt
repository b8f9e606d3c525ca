-- Where a home's entries are and its walks end, as slots show it.
use Rattle.std.proofs.Common.{◌≡◌, ℕ, suc, ◌+◌, ◌-◌, ◌%◌, ◌<◌, refl, ap, sym, ◌∙◌, arith, List, length, Option, Some, None, IsSome}
use Rattle.clock2q_handles.specs.Homes.{top, count}
use Rattle.clock2q_handles.specs.Layout.{Placed, placed, slot_at, reach, met, homes_of, spill_of, IsTidy}
use Rattle.clock2q_handles.specs.Slots.{Mark}
use Rattle.clock2q_handles.specs.Candidates.{end_at, IsLookup, IsWalkFor, EndsAt}
use Rattle.clock2q_handles.specs.Positions.{IsEntryAt, GapValue, gap_value, gap_of}
use Rattle.clock2q_handles.proofs.layout.Reading.{slot-again}
use Rattle.clock2q_handles.proofs.shifts.Carrying.{slot_from}
use Rattle.clock2q_handles.proofs.walks.Cursors.{rem-plus, home_of_walk}
use Rattle.clock2q_handles.proofs.layout.FewerEntries.{walk-is}
use Rattle.clock2q_handles.proofs.layout.TidyLayout.{length-homes_of, tidy-vacant}
use Rattle.clock2q_handles.proofs.layout.Walk.{stop}
use Rattle.clock2q_handles.proofs.shifts.Changes.{read-split, read-count}
use Rattle.clock2q_handles.proofs.shifts.Steps.{past_home}
use Rattle.clock2q_handles.proofs.walks.Yields.{walk-home, walk-at, walk-beyond}
use Rattle.clock2q_handles.proofs.rebuild.Held.{slice_get-seam}

module _ {E : Type 0} (slots : List (Option (Placed E))) (tidy : IsTidy slots) (some : 0 < length slots) where
  -- the contents of slot s, n past the home of x
  pub past_at : (x n s : ℕ) → s ≡ (x % length slots + n) % length slots → slot_at slots s ≡ slot_at slots (x + n)
  past_at x n s at = slot_from slots (x % length slots) n s at ∙ past_home slots (length slots) (x % length slots) x refl refl n

  module _ (x d : ℕ) (e : E) (here : slot_at slots (x + d) ≡ Some (placed d e)) where
    -- an entry d past its home is within a lap
    pub here_within : d < length slots
    here_within = omega (arith, walk-beyond slots tidy x d some (omega (arith, ap reach here)))

    -- and is the entry of its home after those met before it
    pub here_entry : (s : ℕ) → s ≡ (x + d) % length slots → IsEntryAt (homes_of slots) x (length (met (slot_at slots) x 0 d)) e s
    here_entry s at = grind (
      arith,
      slice_get-seam (met (slot_at slots) x 0 d) (met (slot_at slots) x (suc d) (length slots - suc d)) e,
      read-split slots x d e here_within here,
      length-homes_of slots,
      read-count slots tidy some x d,
    )

module _ {H : Type 0} (slots : List (Option (Placed (ℕ × H)))) (tidy : IsTidy slots) (some : 0 < length slots) (x : ℕ) where
  -- a walk ends at the gap
  pub ends_gap : (n : ℕ) (s : Mark) → EndsAt slots x s n → gap_value n s ≡ gap_of (homes_of slots) x
  ends_gap n s ends =
      let d : ℕ = ends.walk.distance in
      let read = walk-at slots tidy x d some (λ j l. grind (arith, ends.walk.come.passed j l, past_home slots (length slots) (x % length slots) x refl refl j)) in
      grind (arith, past_at slots tidy some x d n ends.walk.come.slot, read, walk-is (homes_of slots) x, rem-plus (length slots) x d, length-homes_of slots)

  -- and so the gap is where one ends
  pub gap_ends : (g : GapValue) → g ≡ gap_of (homes_of slots) x → EndsAt slots x g.mark g.position
  gap_ends g is =
      let v = tidy-vacant slots tidy some in
      let h : ℕ = x % length slots in
      let t = stop (slot_at slots) tidy.ordered (length slots) (slot-again slots) some v.0 v.1 h 0 in
      let s : ℕ = (h + t.0) % length slots in
      let near : reach (slot_at slots s) < suc t.0 = grind (arith, t, past_at slots tidy some x t.0 s, past_home slots (length slots) h x refl refl t.0) in
      let ends : EndsAt slots x (Some (t.0, top x)) s = record { walk = record { distance = t.0; come = grind (arith, t); mark = refl }; stop = near } in
      rw (is ∙ sym (ends_gap s (Some (t.0, top x)) ends)) ends

module _ {H : Type 0} (slots : List (Option (Placed (ℕ × H)))) where
  -- a walk for x ends at the gap of x, wherever it is
  pub end_of : (x : ℕ) (s : Mark) (n : ℕ) → IsWalkFor slots x s n → end_at slots s n ≡ Some (gap_of (homes_of slots) x)
  end_of x s n walk =
      let homes = homes_of slots in
      grind (
        arith,
        home_of_walk slots x walk.distance n walk.come.within,
        rem-plus (length slots) x walk.distance,
        length-homes_of slots,
        walk-home slots x,
        walk-is homes,
        rem-plus (length slots) x (spill_of homes x + count homes x),
      )

  -- a lookup that has an end looks for something
  pub some_sought : (s : Mark) (n : ℕ) → IsSome (end_at slots s n) → IsSome s
  some_sought None n some = absurd (cc)
  some_sought (Some s) n some = refl

  -- a lookup that looks for something is on a walk for some hash
  walking : (s : Mark) (n : ℕ) → IsSome s → IsLookup slots s n → (x : ℕ) × IsWalkFor slots x s n
  walking None n some lookup = absurd (cc)
  walking (Some s) n some lookup = let x : ℕ = lookup.walk.hash in grind (arith, past_home slots (length slots) (x % length slots) x refl refl, rem-plus (length slots) x s.0)

  module _ (s s' : Mark) (n n' : ℕ) (some : IsSome s) (lookup : IsLookup slots s n) where
    -- a walk that goes on keeps its end
    pub same_end : ((x : ℕ) → IsWalkFor slots x s n → IsWalkFor slots x s' n') → end_at slots s n ≡ end_at slots s' n'
    same_end on = let w = walking s n some lookup in end_of w.0 s n w.1 ∙ sym (end_of w.0 s' n' (on w.0 w.1))

    -- and stops there
    pub end_is : ((x : ℕ) → IsWalkFor slots x s n → EndsAt slots x s' n') → end_at slots s n ≡ Some (gap_value n' s')
    end_is on = let w = walking s n some lookup in grind (arith, end_of w.0 s n w.1, ends_gap slots lookup.tidy (omega (arith, w.1.come.within)) w.0 n' s' (on w.0 w.1))

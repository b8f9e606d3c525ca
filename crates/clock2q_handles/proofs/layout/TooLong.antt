-- When a table's entries are too far past their homes: what that takes, where it shows in the slots, and when an insertion makes it so.
use Rattle.std.proofs.Common.{◌≡◌, ℕ, suc, ◌+◌, ◌-◌, ◌*◌, ◌^◌, ◌<◌, ◌≤◌, inl, inr, ap, ◌∙◌, arith, List, [], ◌∷◌, ◌++◌, length, take, length-append, Option, None}
use Rattle.std.proofs.lemmas.Bool.{cases_lt}
use Rattle.clock2q_handles.specs.Homes.{capacity, listed, count, total, no_entries, put_last}
use Rattle.clock2q_handles.specs.Layout.{Placed, spill, spill_of, slot_at, layout, entries, reach, homes_of, IsTidy, IsTooLong}
use Rattle.clock2q_handles.specs.TableStep.{put_all, rebuilt, IsHashOf}
use Rattle.clock2q_handles.proofs.layout.Spill.{first_zero, Roomy, spill-again, spill-found, spill-lt, within_lap, IsOneMore}
use Rattle.clock2q_handles.proofs.layout.Periods.{rem-same}
use Rattle.clock2q_handles.proofs.layout.Laid.{seen, reach-none}
use Rattle.clock2q_handles.proofs.layout.Walk.{Stops, after}
use Rattle.clock2q_handles.proofs.layout.Reading.{slot-again, count-again}
use Rattle.clock2q_handles.proofs.layout.TidyLayout.{capacity-lt, roomy-of, sum-window, length-homes_of, tidy-vacant, read-laid, read-room}
use Rattle.clock2q_handles.proofs.shifts.Changes.{length-with_list, vacant_within, read-stop, one-put, roomy_at, other_at}
use Rattle.clock2q_handles.proofs.layout.FewerEntries.{listed-put_last, total-put_last, rebuilding-count, rebuilding-reach}
use Rattle.clock2q_handles.proofs.rebuild.Hashes.{entries-all, rebuilt-length, rebuilt-total}

module _ {E : Type 0} where
  -- no home reaches further than there are entries
  pub reach-total : (homes : List (List E)) → total homes < length homes → (h : ℕ) → spill_of homes h + count homes h ≤ total homes
  reach-total homes room h =
      let r = spill-found (count homes) (length homes) h (omega arith) in
      grind (arith, r, within_lap (count homes) (length homes) (roomy-of homes room) (h + length homes - r.0) (suc r.0), count-again homes h, sum-window length homes)

  -- so it takes 2^24 entries for one to be too far
  pub too-long-total : (homes : List (List E)) → total homes ≤ capacity (length homes) → IsTooLong homes → 2 ^ 24 ≤ total homes
  too-long-total homes room long = omega (arith, reach-total homes (omega (arith, capacity-lt (length homes) (omega arith))) long.0, long.3)

  -- it is enough to find such a home, counted past the last
  too-long-at : (homes : List (List E)) → total homes < length homes → (n : ℕ) → 0 < count homes n → 2 ^ 24 ≤ spill_of homes n + count homes n → IsTooLong homes
  too-long-at homes room n some far = grind (
    arith,
    rem-same (count homes) (length homes) (count-again homes) n,
    rem-same (spill (count homes) (length homes)) (length homes) (spill-again (count homes) (length homes) (count-again homes)) n,
  )

  module _ (slots : List (Option (Placed E))) (tidy : IsTidy slots) where
    read_roomy : 0 < length slots → Roomy (count (homes_of slots)) (length slots)
    read_roomy some = roomy_at (homes_of slots) (length slots) (length-homes_of slots) (read-room slots tidy some)

    -- the first empty slot from h on
    pub first-vacant : 0 < length slots → (h : ℕ) → (v : ℕ) × (v < length slots) × (slot_at slots (h + v) ≡ None) × ((j : ℕ) → j < v → 1 ≤ reach (slot_at slots (h + j)))
    first-vacant some h =
        let w = tidy-vacant slots tidy some in
        grind (arith, first_zero (λ j. reach (slot_at slots (h + j))) (length slots), reach-none, vacant_within (slot_at slots) (length slots) h (length slots) (slot-again slots) some w.0 w.1)

    module _ (h d : ℕ) (e : E) (stops : Stops (slot_at slots) h 0 d) (fits : total (homes_of slots) < capacity (length slots)) where
      abbrev more : List (List E)
      more = put_last (homes_of slots) h e

      some_slots : 0 < length slots
      some_slots = omega arith

      more_length : length more ≡ length slots
      more_length = length-with_list (homes_of slots) h (listed (homes_of slots) h ++ e ∷ []) ∙ length-homes_of slots

      more_room : total more < length slots
      more_room = omega (arith, total-put_last (homes_of slots) h e (omega (arith, length-homes_of slots)), capacity-lt (length slots) some_slots)

      more_here : count more h ≡ suc (count (homes_of slots) h)
      more_here = grind (arith, listed-put_last (homes_of slots) h h e, length-homes_of, length-append)

      free : (v : ℕ) × (v < length slots) × (slot_at slots (h + v) ≡ None) × ((j : ℕ) → j < v → 1 ≤ reach (slot_at slots (h + j)))
      free = first-vacant some_slots h

      one : IsOneMore (count (homes_of slots)) (count more) (length slots) (h + suc free.0) (length slots - suc free.0)
      one = one-put (length slots) h free.0 (listed (homes_of slots)) (listed more) (slot_at slots) (read_roomy some_slots) (roomy_at more (length slots) more_length more_room) free.1 more_here
          (λ n q. ap length (other_at (homes_of slots) (length slots) h (listed (homes_of slots) h ++ e ∷ []) (length-homes_of slots) n q))
          (read-laid slots tidy some_slots) (slot-again slots) free.2 free.3

      -- the new entry would be too far
      pub long-by-new : 2 ^ 24 ≤ suc d → IsTooLong more
      long-by-new far =
          let before = spill-again (count (homes_of slots)) (length slots) (read_roomy some_slots).again h in
          let after = spill-again (count more) (length slots) (roomy_at more (length slots) more_length more_room).again h in
          too-long-at more (omega (arith, more_room, more_length)) h (omega (arith, more_here))
          (grind (arith, far, more_here, more_length, read-stop slots tidy some_slots h d stops, length-homes_of slots, one.spills (h + length slots), before, after))

      -- an entry after it would
      pub long-by-moved : (j : ℕ) → d ≤ j → ((i : ℕ) → d ≤ i → i ≤ j → 1 ≤ reach (slot_at slots (h + i))) → 2 ^ 24 ≤ suc (reach (slot_at slots (h + j))) → IsTooLong more
      long-by-moved j from full far =
          let lap : free.0 < length slots = free.1 in
          let upto : j < free.0 = grind (arith, free.2, stops.before free.0, full free.0) in
          let m : ℕ = length slots in
          let same : reach (slot_at slots (h + j + m)) ≡ reach (slot_at slots (h + j)) = ap reach (slot-again slots (h + j)) in
          let near : reach (slot_at slots (h + j)) ≤ j + 0 = after (slot_at slots) tidy.ordered h 0 d stops.stop j from in
          let late = spill-lt (count (homes_of slots)) m (read_roomy some_slots) 0 in
          elim (seen m (listed (homes_of slots)) (slot_at slots) (read_roomy some_slots) (read-laid slots tidy some_slots) (h + j + m) (omega (arith, late))) [
            | inl g ↦ absurd (omega (arith, same, g.1, far))
            | inr p ↦ grind (arith, too-long-at more (omega (arith, more_room, more_length)) p.0, far, p, same, near, one.spills p.0, one.same p.0, more_length)
          ]

-- a rebuild to k times the slots never makes the table too long on its way
pub rebuilding-short : {H : Type 0} (key : H → ℕ) (homes : List (List (ℕ × H))) (k i : ℕ) → total homes < length homes → 0 < k * length homes
    → IsHashOf key homes → (IsTooLong homes → ⊥) → IsTooLong (put_all key (no_entries (k * length homes)) (entries (take i (layout homes)))) → ⊥
rebuilding-short key homes k i room some hashes short long = grind (arith, too-long-at, rebuilding-count, rebuilding-reach)

module _ {H : Type 0} (key : H → ℕ) (homes : List (List (ℕ × H))) (m : ℕ) (room : total homes ≤ capacity (length homes))
    (fits : total homes < m) (multiple : 0 < length homes → (k : ℕ) × (m ≡ k * length homes)) (hashes : IsHashOf key homes) where
  -- a rebuild gives no home a longer reach than the home that its entries came from had
  pub rebuilt-reach : (n : ℕ) → spill_of (rebuilt key m homes) n + count (rebuilt key m homes) n ≤ spill_of homes n + count homes n
  rebuilt-reach n =
      let total_is = rebuilt-total key homes m room (omega arith) in
      grind (arith, cases_lt 0 (length homes), capacity-lt, entries-all (layout homes), rebuilding-reach, reach-total (rebuilt key m homes), rebuilt-length, total_is)

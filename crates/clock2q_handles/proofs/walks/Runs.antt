-- Runs of occupied slots: a removal leaves room and lengthens none.
use Rattle.std.proofs.Common.{◌≡◌, ℕ, zero, suc, ◌+◌, ◌<◌, ◌≤◌, ◌∙◌, arith, Bool, List, length, Option, None}
use Rattle.clock2q_handles.specs.Homes.{capacity, listed, count, total, without_first, is_entry_of, without_handle}
use Rattle.clock2q_handles.specs.Layout.{Placed, slot_at, layout, occupied, run}
use Rattle.clock2q_handles.proofs.layout.Spill.{window-le, spill-lt}
use Rattle.clock2q_handles.proofs.layout.Laid.{none-gap}
use Rattle.clock2q_handles.proofs.layout.Reading.{slots_again, length-layout, layout-laid}
use Rattle.clock2q_handles.proofs.layout.TidyLayout.{capacity-lt, sum-window, roomy-of}
use Rattle.clock2q_handles.proofs.layout.FewerEntries.{spill_of-fewer, count-with_list}
use Rattle.clock2q_handles.proofs.shifts.Changes.{length-with_list}
use Rattle.clock2q_handles.proofs.shifts.Removals.{length-without_first}

-- if each slot that was empty still is, no run is longer
occupied-fewer : {E : Type 0} (A B : ℕ → Option (Placed E)) → ((n : ℕ) → A n ≡ None → B n ≡ None) → (n k : ℕ) → occupied B n k ≤ occupied A n k
occupied-fewer A B still n zero = omega arith
occupied-fewer A B still n (suc k) = grind (arith, still n, occupied-fewer A B still (suc n) k)

module _ {H : Type 0} (eq : H → H → Bool) (homes : List (List (ℕ × H))) (x : ℕ) (v : H) (room : total homes ≤ capacity (length homes)) where
  abbrev fewer : List (List (ℕ × H))
  fewer = without_handle eq homes x v

  as_many : length fewer ≡ length homes
  as_many = length-with_list homes x (without_first (is_entry_of eq x v) (listed homes x))

  below : 0 < length homes → (n : ℕ) → count fewer n ≤ count homes n
  below some n = count-with_list homes x n (without_first (is_entry_of eq x v) (listed homes x)) some (length-without_first (is_entry_of eq x v) (listed homes x))

  -- removing an entry leaves room
  pub removed-room : total (without_handle eq homes x v) ≤ capacity (length (without_handle eq homes x v))
  removed-room = grind (arith, room, as_many, sum-window length homes, sum-window length fewer, window-le (count fewer) (count homes) 0 (length homes), below)

  still_empty : 0 < length homes → (n : ℕ) → slot_at (layout homes) n ≡ None → slot_at (layout fewer) n ≡ None
  still_empty some n none =
      let m : ℕ = length homes in
      let less : total homes < m = omega (arith, room, capacity-lt m some) in
      let roomy = roomy-of homes less in
      let laid = layout-laid fewer (roomy-of fewer (omega (arith, removed-room, as_many, capacity-lt (length fewer)))) in
      let g = none-gap m (listed homes) (slot_at (layout homes)) roomy (layout-laid homes roomy) (n + m) (omega (arith, spill-lt (count homes) m roomy 0)) in
      grind (
        arith,
        g,
        slots_again (layout homes) m (length-layout homes) n,
        spill_of-fewer homes fewer less as_many (below some) (n + m),
        below some (n + m),
        slots_again (layout fewer) m (length-layout fewer ∙ as_many) n,
        laid.rest (n + m),
      )

  -- and lengthens no run
  pub removed-run : (y : ℕ) → run (layout (without_handle eq homes x v)) y ≤ run (layout homes) y
  removed-run y = grind (arith, length-layout, occupied-fewer, still_empty, as_many)

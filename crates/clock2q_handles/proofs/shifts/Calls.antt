-- What the calls of a table that put an entry in, take one out or replace one result in, from what they do to its slots.
use Rattle.std.proofs.Common.{◌≡◌, ℕ, ◌+◌, ◌^◌, ◌%◌, ◌<◌, ◌≤◌, refl, ap, sym, ◌∙◌, subst, arith, Bool, true, ◌-◌, List, length, Option, Some, suc, Err, Ok}
use Rattle.std.specs.List.{list_any}
use Rattle.clock2q_handles.specs.declared.error.TableError.TheVariants.{RunTooLong}
use Rattle.clock2q_handles.specs.Candidates.{EndsAt}
use Rattle.clock2q_handles.specs.Changes.{Exchanges, Inserts, IsLaidOut, PutsUnder, ReadsAtMost, RisesAtMost, WritesAtMost}
use Rattle.clock2q_handles.specs.Found.{FindsAt, TakesOutAt, TakesOut}
use Rattle.clock2q_handles.specs.Homes.{top, capacity, is_entry_of, listed, without_handle, total}
use Rattle.clock2q_handles.specs.Layout.{Placed, homes_of, run, walk, slot_at, reach, IsTidy}
use Rattle.clock2q_handles.specs.Positions.{GapValue, gap_of}
use Rattle.clock2q_handles.specs.Shifts.{HasRoomAt, LacksRoomAt, PutsAt}
use Rattle.clock2q_handles.specs.Slots.{Mark}
use Rattle.clock2q_handles.specs.Table.{IsTable}
use Rattle.clock2q_handles.specs.TableStep.{IsBelowCapacity, TableValue, table_value}
use Rattle.clock2q_handles.proofs.layout.FewerEntries.{walk-is}
use Rattle.clock2q_handles.proofs.layout.MoreEntries.{walk-more}
use Rattle.clock2q_handles.proofs.layout.TidyLayout.{length-homes_of, tidy-room}
use Rattle.clock2q_handles.proofs.layout.Reaching.{run-is}
use Rattle.clock2q_handles.proofs.layout.Reading.{slot-again, slots_again}
use Rattle.clock2q_handles.proofs.layout.TooLong.{first-vacant}
use Rattle.clock2q_handles.proofs.layout.Walk.{after as after_stop}
use Rattle.clock2q_handles.proofs.walks.Positions.{gap_ends}
use Rattle.clock2q_handles.proofs.Promises.{few_fit, restored_by}
use Rattle.clock2q_handles.proofs.shifts.Insertions.{IsEnd, Insertion, few_room, inserted, refusal}
use Rattle.clock2q_handles.proofs.shifts.Taking.{Removal, found_at, found_occupied, found_taken, removal}
use Rattle.clock2q_handles.proofs.shifts.Removals.{entry-replaced-homes, held-still, removed-walk}
use Rattle.clock2q_handles.proofs.shifts.Steps.{listed-home, table-laid}
use Rattle.clock2q_handles.proofs.shifts.Carrying.{come_at, slot_from}
use Rattle.clock2q_handles.proofs.shifts.Shifts.{opened-on, reach-moved_on}

module _ {E : Type 0} {slots more : List (Option (Placed E))} (tidy : IsTidy slots) (tidy' : IsTidy more) (same : length more ≡ length slots) (some : 0 < length slots)
    (on : (k : ℕ) → reach (slot_at more (suc k)) ≤ suc (reach (slot_at slots k))) where
  -- a removal after an insertion writes at most the slots from the entry's to the end of what the run was before both, and one more
  taken_within : {test : E → Bool} {less : List (Option (Placed E))} (x : ℕ) {before after : ℕ} (taken : TakesOut test more less x before after) → after + taken.distance ≤ before + (run slots x + 1)
  taken_within {test} {less} x {before} {after} taken =
      let v = first-vacant slots tidy some x in
      let is : run slots x ≡ v.0 = run-is slots x v.0 v.1 v.2 v.3 in
      let end : reach (slot_at more (x + suc v.0)) ≤ 1 = grind (arith, on (x + v.0), v.2) in
      let stop = after_stop (slot_at more) tidy'.ordered x 0 (suc v.0) (omega (arith, end)) taken.distance in
      grind (arith, is, taken.written, taken.closes.opens.moved v.0, taken.closes.occupied (suc v.0), reach-moved_on (slot_at less (x + v.0)), taken.finds.here, stop)

  -- and a walk from its home reads the slots up to the entry's
  taken_reached : {test : E → Bool} {less : List (Option (Placed E))} (x : ℕ) {k before after : ℕ} → FindsAt test more (x % length more) k → TakesOutAt more less k before after
      → after + reach (slot_at more k) ≤ before + (run slots x + 2)
  taken_reached {test} {less} x {k} {before} {after} found taken =
      let at = found_at found in
      let closed = taken.closes x at.distance at.finds.entry (record { slot = at.slot; within = at.within; passed = at.passed }) at.finds.here in
      let out : TakesOut test more less x before after = record { distance = at.distance; vacancy = closed.0; within = at.within; finds = at.finds; closes = closed.1; written = closed.2; len = taken.len } in
      let within : after + at.distance ≤ before + (run slots x + 1) = taken_within x out in
      omega (arith, within, ap reach (slot_from more x at.distance k at.slot), ap reach at.finds.here)

-- v is taken out under x
pub record TakesUnder {H : Type 0} (eq : H → H → Bool) (x : ℕ) (v : H) (old new : TableValue H) : Type 0 where
  pub removed : new.homes ≡ without_handle eq old.homes x v
  pub held : list_any (is_entry_of eq x v) (listed old.homes x) ≡ true
  pub writes : WritesAtMost (run old.slots x) old new
  pub reads : ReadsAtMost (walk old.homes x) old new
  pub laid : IsLaidOut new
  pub shorter : (y : ℕ) → walk new.homes y ≤ walk old.homes y

-- an entry that was put in isn't refused
pub put_in : {H : Type 0} (eq : H → H → Bool) {x : ℕ} {v : H} {n : ℕ} {old new : TableValue H} → (total old.homes + 1 < 2 ^ 24 → n ≡ 0) → PutsUnder eq x v n old new → Inserts eq x v (Ok tt) old new
put_in eq none puts = grind (arith, none, puts)

-- a table, as its fields say and as contracts see it
module _ {H : Type 0} {slots : List (Option (Placed (ℕ × H)))} {len w r : ℕ} {old : TableValue H} (table : IsTable slots len) (is : table_value (homes_of slots) slots w r ≡ old) where
  below : IsBelowCapacity old.homes → total (homes_of slots) < capacity (length slots)
  below room = grind (arith, is, length-homes_of slots)

  -- a walk that has ended
  pub end_here : {x : ℕ} {mark : Mark} {s : ℕ} → IsBelowCapacity old.homes → EndsAt slots x mark s → IsEnd slots x mark s
  end_here room ends = record { fits = below room; ends = ends }

  pub end_of : {x : ℕ} {mark : Mark} {s : ℕ} → IsBelowCapacity old.homes → EndsAt old.slots x mark s → IsEnd slots x mark s
  end_of {x} {mark} {s} room ends = record { fits = below room; ends = subst (λ t. EndsAt t.slots x mark s) (sym is) ends }

  -- and one that ends at a gap
  pub end_of_gap : {x : ℕ} {gap : GapValue} → IsBelowCapacity old.homes → gap ≡ gap_of old.homes x → IsEnd slots x gap.mark gap.position
  end_of_gap {x} {gap} room at = record { fits = below room; ends = gap_ends slots table.tidy (omega (arith, below room)) x gap (at ∙ ap (λ t. gap_of t.homes x) (sym is)) }

  -- has room among few entries
  pub end_room : {x : ℕ} {mark : Mark} {s : ℕ} → total old.homes + 1 < 2 ^ 24 → IsEnd slots x mark s → HasRoomAt slots mark s
  end_room few end = few_room table end (omega (arith, table.counted, ap (λ t. total t.homes) is, few))

  -- where there is no room, an entry is refused
  pub refusing : (eq : H → H → Bool) {x : ℕ} (v : H) {mark : Mark} {s : ℕ} → IsEnd slots x mark s → LacksRoomAt slots mark s → {r' : ℕ} → r ≤ r' → Inserts eq x v (Err RunTooLong) old (table_value (homes_of slots) slots w r')
  refusing eq {x} v end far {r'} counted =
      let few = few_fit (homes_of slots) x v (omega (arith, end.fits, length-homes_of slots)) in
      subst (λ t. Inserts eq x v (Err RunTooLong) t (table_value (homes_of slots) slots w r')) is (grind (arith, refusal table end v far, few, counted, table-laid slots len table w r'))

  module _ (eq : H → H → Bool) {x : ℕ} {v : H} {mark : Mark} {s : ℕ} (end : IsEnd slots x mark s) (room : HasRoomAt slots mark s) {more : List (Option (Placed (ℕ × H)))} {w' : ℕ} (puts : PutsAt slots more mark s v w w') where
    done : Insertion x v slots more len w w'
    done = inserted table end room puts

    -- an entry that is put in there
    pub putting : eq v v ≡ true → (r' n : ℕ) → r' + w ≡ r + n + w' → PutsUnder eq x v n old (table_value (homes_of more) more w' r')
    putting same r' n reads =
        let restores = restored_by eq slots (homes_of slots) (homes_of more) x v refl table.tidy (omega (arith, end.fits, length-homes_of slots)) same done.homes in
        subst (λ t. PutsUnder eq x v n t (table_value (homes_of more) more w' r')) is (grind (arith, done, reads, restores, table-laid more (len + 1) done.table w' r'))

    -- and then an entry that was held before is taken out
    module _ (y : ℕ) (v' : H) (held : list_any (is_entry_of eq y v') (listed old.homes y) ≡ true) where
      was_held : list_any (is_entry_of eq y v') (listed (homes_of slots) y) ≡ true
      was_held = subst (λ t. list_any (is_entry_of eq y v') (listed t.homes y) ≡ true) (sym is) held

      some : 0 < length (homes_of slots)
      some = omega (arith, end.fits, length-homes_of slots)

      pub held_on : list_any (is_entry_of eq y v') (listed (homes_of more) (y % length more)) ≡ true
      held_on = grind (arith, listed-home more (y % length more) y (λ _. refl), done.homes, held-still eq (homes_of slots) x y v v' some was_held)

      module _ {k : ℕ} (found : FindsAt (is_entry_of eq y v') more (y % length more) k) {less : List (Option (Placed (ℕ × H)))} {w'' : ℕ} (taken : TakesOutAt more less k w' w'') where
        out : Removal eq y v' more less (len + 1) w' w''
        out = removal eq y v' more less (len + 1) w' w'' done.table (found_taken found taken)

        pub replaced_table : IsTable less len
        replaced_table = grind (arith, out)

        pub replacing : (gap : GapValue) {r' r'' : ℕ} → (i : ℕ) → i + w ≡ r + w' → r' ≡ i + reach (slot_at more k) → r'' + w' ≡ r' + w'' → Exchanges eq (Some gap) x v y v' old (table_value (homes_of less) less w'' r'')
        replacing gap {r'} {r''} i put_reads found_reads taken_reads =
            let come = come_at slots x end.ends.walk.distance s end.ends.walk.come in
            let on = opened-on (puts.opens x end.ends.walk.distance (top x) come end.ends.walk.mark).2 (slot-again slots) (slots_again more (length slots) puts.len) table.tidy.ordered come.passed in
            let within = taken_reached table.tidy done.table.tidy puts.len (omega (arith, end.fits)) on y found taken in
            let longer : (z : ℕ) → walk (homes_of more) z ≤ walk (homes_of slots) z + 1 = λ z. omega (arith, ap (λ hs. walk hs z) done.homes, walk-more (homes_of slots) x (top x, v) some z) in
            let homes = out.homes ∙ ap (λ hs. without_handle eq hs y v') done.homes ∙ entry-replaced-homes eq (homes_of slots) x y v v' some was_held in
            let shorter = removed-walk eq (homes_of more) y v' (tidy-room more done.table.tidy) in
            let laid = table-laid less len replaced_table w'' r'' in
            subst (λ t. Exchanges eq (Some gap) x v y v' t (table_value (homes_of less) less w'' r'')) is
            (grind (arith, homes, put_reads, found_reads, found_occupied found, taken_reads, done.counted, done.writes, out.counted, within, longer, walk-is (homes_of slots) x some, shorter, out.homes, laid))

  -- an entry that is taken out
  module _ (eq : H → H → Bool) {y : ℕ} {v : H} {k : ℕ} (found : FindsAt (is_entry_of eq y v) slots (y % length slots) k) {less : List (Option (Placed (ℕ × H)))} {w' : ℕ} (taken : TakesOutAt slots less k w w') where
    pub gone : Removal eq y v slots less len w w'
    gone = removal eq y v slots less len w w' table (found_taken found taken)

    pub taking : {r' : ℕ} → (i : ℕ) → RisesAtMost (walk (homes_of slots) y) r i → r' + w ≡ i + w' → TakesUnder eq y v old (table_value (homes_of less) less w' r')
    taking {r'} i found_reads taken_reads =
        subst (λ t. TakesUnder eq y v t (table_value (homes_of less) less w' r')) is
        (grind (arith, gone, found_reads, taken_reads, table-laid less (len - 1) gone.table w' r', removed-walk eq (homes_of slots) y v (tidy-room slots table.tidy)))

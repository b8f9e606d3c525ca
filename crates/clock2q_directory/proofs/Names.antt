-- The names that most proofs here cite, passed on from one place. Declares nothing.
pub use Rattle.std.proofs.Common.{Bool, List, None, Option, Some, [], add-one, ap, append-nil, arith, drop, eqb, false, get_or, if◌then◌else◌, inl, inr, length, ltb, map, max, ne_eqb, not, refl}
pub use Rattle.std.proofs.Common.{rules, set, slice_get, slice_set, subst, suc, sym, take, take_all, true, zero, ℕ, ◌%◌, ◌&&◌, ◌*◌, ◌++◌, ◌+◌, ◌-◌, ◌<◌, ◌==◌, ◌^◌, ◌||◌, ◌∙◌, ◌∷◌, ◌≡◌, ◌≤◌, ◌⊎◌}
pub use Rattle.std.proofs.lemmas.Bool.{both_ways, cases_Bool, cases_eq, cases_lt, eq-eqb, eqb-false, eqb-true, le-ltb, lt-ltb, ltb-false, ltb-true, or_cases}
pub use Rattle.std.proofs.lemmas.Bool.Decides.{leb_tells}
pub use Rattle.std.proofs.lemmas.Cmp.{nat_eq_equiv}
pub use Rattle.std.proofs.lemmas.List.{append_assoc, length-append, length-map, length-replicate, map-append, map-set, nil_from_length, set-get_or}
pub use Rattle.std.proofs.lemmas.List.Elements.{filter-append}
pub use Rattle.std.proofs.lemmas.List.Folds.{list_any-append}
pub use Rattle.std.proofs.lemmas.List.Sums.{sum_by-cons}
pub use Rattle.std.proofs.lemmas.Map.Made.{length-from_same_keys}
pub use Rattle.std.proofs.lemmas.Option.{slice_get_read, slice_get_within}
pub use Rattle.std.specs.Cmp.{IsEquivalence}
pub use Rattle.std.specs.List.{AllByRecursion, IsDistinct, cons_option, filter, find, last_or, list_any}
pub use Rattle.std.specs.Prelude.{IfSome, IsSome, is_some, nat_eq, nat_lt}
pub use Rattle.clock2q_directory.specs.Accesses.{most_changed, most_inserted}
pub use Rattle.clock2q_directory.specs.Directory.{IsResident, Known, known}
pub use Rattle.clock2q_directory.specs.Growth.{AddsPlaces, AddsSlots, Grows, HasRoomForPlace, HasSizesOf, Keeps, Outgrows, place_entered, slots_beside}
pub use Rattle.clock2q_directory.specs.Hashed.{has_hash}
pub use Rattle.clock2q_directory.specs.History.{IsHistory, IsWholeHistory, MakesPlace, MayRetire, Places, Remembered, accesses_of, entering_places, first_known, forgotten, found_gap, found_place}
pub use Rattle.clock2q_directory.specs.History.{found_slot, freed_place, is_remembered, oldest_hash, place_of, places_from, places_with, pushed_places, remembered, remembered_from, taking_free}
pub use Rattle.clock2q_directory.specs.History.{taking_oldest}
pub use Rattle.clock2q_directory.specs.Index.{AreLaidOut, HasPlaceRoom, HasRoomBeside, HasSlotRoom, HasSlotUnder, IndexState, IsGapFor, IsSorted, IsWithinCapacity, beside, emptied, entered}
pub use Rattle.clock2q_directory.specs.Index.{entered_from, first_remembered, forgotten_at, forgotten_if, index_for, index_of, index_room, index_state, is_shared, left, most_entries, most_reached}
pub use Rattle.clock2q_directory.specs.Index.{place_entries, places, places_among, places_in, remembered_at, slot_entries, slots, slots_among, slots_in, unpacked}
pub use Rattle.clock2q_directory.specs.Indexes.{HasHash, IsIndex, has_key, is_alike, is_named}
pub use Rattle.clock2q_directory.specs.Keys.{KeyPlaces, Writes, comparisons_of, entries_of, entry, hash_at, hashed_at, is_key_at, key_at, value_at, with_key, written}
pub use Rattle.clock2q_directory.specs.declared.handle.Found.{Found}
pub use Rattle.clock2q_directory.specs.declared.handle.Handle.{Handle}
pub use Rattle.clock2q_directory.specs.declared.keys.Entry.{Entry}
pub use Rattle.clock2q_handles.proofs.Changes.{length-with_list, listed-with_other, listed-with_same, total-with_list}
pub use Rattle.clock2q_handles.proofs.FewerEntries.{total-no_entries}
pub use Rattle.clock2q_handles.proofs.Lookups.{candidates-inserted, candidates-inserted_other, candidates-removed, candidates-removed_other, with_top}
pub use Rattle.clock2q_handles.proofs.MoreEntries.{walk-more}
pub use Rattle.clock2q_handles.proofs.Reading.{length-layout}
pub use Rattle.clock2q_handles.proofs.Removals.{held-still, removed-walk, replaced-homes}
pub use Rattle.clock2q_handles.proofs.Runs.{removed-room, removed-run}
pub use Rattle.clock2q_handles.specs.Changes.{ChangesAtMost, ReadsWalk, RisesAtMost, WritesAtMost}
pub use Rattle.clock2q_handles.specs.Homes.{candidates, capacity, home, is_entry_of, listed, no_entries, top, total, with_handle, with_list, without_first, without_handle}
pub use Rattle.clock2q_handles.specs.Layout.{layout, run, spill, walk}
pub use Rattle.clock2q_handles.specs.Positions.{GapValue, handle_replaced, walk_to_gap, with_first}
pub use Rattle.clock2q_handles.specs.TableStep.{HasSpare, TableValue, doubled_until, fit, made_for}
pub use Rattle.clock2q_queues.proofs.Booleans.{and_false, and_parts, and_swap, and_true, or_false, or_left, or_neither, or_parts, or_right, or_true}
pub use Rattle.clock2q_queues.proofs.Joining.{length-without, split_last}
pub use Rattle.clock2q_queues.proofs.Orders.{FitsNext, FitsNext-from, take_front}
pub use Rattle.clock2q_queues.proofs.Rings.{AllByRecursion-left, IsDistinct-append, IsDistinct-left, IsDistinct-right, IsDistinct-turned, among-without_test, among_first, among_later, apart_from}
pub use Rattle.clock2q_queues.proofs.Rings.{below_of, differs, distinct_alone, distinct_first, distinct_more, distinct_none, distinct_rest, eqb_self, without-parted, without_absent}
pub use Rattle.clock2q_queues.specs.Cells.{Rises}
pub use Rattle.clock2q_queues.specs.Order.{IsWholeOrder, PlaceOrder, next_place, place_for, unused, used}
pub use Rattle.clock2q_queues.specs.Rings.{without}

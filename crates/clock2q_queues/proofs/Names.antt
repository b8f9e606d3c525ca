-- The names that most proofs here cite, passed on from one place. Declares nothing.
pub use Rattle.std.proofs.Common.{Bool, IfSome, List, None, Option, Some, [], ap, arith, cond, drop, eqb, false, get_or, inl, inr, length, ltb, map, not, refl, replicate, rules, set, slice_get, subst}
pub use Rattle.std.proofs.Common.{suc, sym, take, true, true≢false, vec_capacity, zero, ℕ, ◌&&◌, ◌*◌, ◌++◌, ◌+◌, ◌-◌, ◌<◌, ◌^◌, ◌||◌, ◌∙◌, ◌∷◌, ◌≡◌, ◌≢◌, ◌≤◌, ◌⊎◌}
pub use Rattle.std.proofs.lemmas.Bool.{both_ways, cases_Bool, cases_lt, eq-eqb, eqb-true, le-ltb, lt-ltb, ne_eqb, or_cases}
pub use Rattle.std.proofs.lemmas.Grind.{common_steps}
pub use Rattle.std.proofs.lemmas.List.{append-nil, append_assoc, drop-append-le, drop-map, get_or-append_right, get_or-drop, get_or-map, get_or-take, get_or_append_left, get_or_past, length-append}
pub use Rattle.std.proofs.lemmas.List.{length-drop, length-map, length-replicate, length-set, length-take-le, length_push, map-append, map-id, map-set, replicate-append-replicate, set_past}
pub use Rattle.std.proofs.lemmas.List.{take-append-drop, take-append-le, take-map, take_all}
pub use Rattle.std.proofs.lemmas.List.Elements.{filter-append}
pub use Rattle.std.proofs.lemmas.List.Folds.{list_any-append}
pub use Rattle.std.proofs.lemmas.List.Sums.{prefix_len-le-length}
pub use Rattle.std.proofs.lemmas.Map.Steps.{length-le_from_distinct_below}
pub use Rattle.std.specs.Bool.{then_some}
pub use Rattle.std.specs.List.{AllByRecursion, IsDistinct, filter, last_or, list_any, range_with_len}
pub use Rattle.std.specs.Option.{option_eq}
pub use Rattle.clock2q_machine.specs.Ages.{Age, Old, Young, grown_older, is_promoted, touched}
pub use Rattle.clock2q_queues.specs.Cells.{CellsState, HitBits, Rises, accessed, bit_in, cells_state, written}
pub use Rattle.clock2q_queues.specs.Ends.{position_freed}
pub use Rattle.clock2q_queues.specs.Flags.{AreLinks, FlagState, all_flags, flag_state, is_linked, is_set, links_shown, says_linked}
pub use Rattle.clock2q_queues.specs.Growth.{GrowsLinks, GrowsRing, moved_location, moved_position, moved_record, with_gap}
pub use Rattle.clock2q_queues.specs.Links.{Attaches, Detaches, IsBlank, IsLinked, IsQueue, IsSameBut, LinkState, Record, SetsBit, accesses_of, all_records, bit_at, end_of, fresh, is_old, location_at}
pub use Rattle.clock2q_queues.specs.Links.{made_below, next_at, previous_at, record_at, record_of, slot_at, slots_from, vacant, with_location, young_at}
pub use Rattle.clock2q_queues.specs.Main.{IsMain, IsMainQueue, from_victim, inspections, main_entries, main_hit_at, main_slots, set_front}
pub use Rattle.clock2q_queues.specs.Order.{IsOrder, IsOrderOf, IsWholeOrder, PlaceOrder, free_places, order_shown, place_for}
pub use Rattle.clock2q_queues.specs.Positions.{no_slot, slot_of}
pub use Rattle.clock2q_queues.specs.Queues.{AreQueues, IsAt, IsWholeQueues, QueueState, keeps_tail, queues_shown, slots_of, tail_promoted, victim_leaves, without_slot}
pub use Rattle.clock2q_queues.specs.Ring.{RingState, ring_shown, ring_state}
pub use Rattle.clock2q_queues.specs.Rings.{IsRing, Joins, around, without}
pub use Rattle.clock2q_queues.specs.Small.{GrowsOld, IsInSmall, IsSmall, IsSmallQueue, admissions_since, admitted, age_at, age_of, is_there, next_cursor, small_entries, small_hit_at, small_slots}
pub use Rattle.clock2q_queues.specs.declared.entries.Location.{Location}
pub use Rattle.clock2q_queues.specs.declared.entries.Location.TheVariants.{Free, SmallOld, SmallYoung}
pub use Rattle.clock2q_queues.specs.declared.links.flags.Flag.{Flag}
pub use Rattle.clock2q_queues.specs.declared.main_queue.Main.{Main}
pub use Rattle.clock2q_queues.specs.declared.order.Chain.{Chain}
pub use Rattle.clock2q_queues.specs.declared.small.Small.{Small}
pub use Rattle.clock2q_queues.proofs.Booleans.{and_false, or_left, or_neither, or_parts, or_right}
pub use Rattle.clock2q_queues.proofs.Records.{changed, get_or-same, mapped-same}
pub use Rattle.clock2q_queues.proofs.Rings.{AllByRecursion-append, AllByRecursion-left, AllByRecursion-right, IsDistinct-append, IsDistinct-left, IsDistinct-right, IsDistinct-turned, IsRing-kept}
pub use Rattle.clock2q_queues.proofs.Rings.{IsRing-put, IsRing-taken, IsRing-turned, Joins_parts, among-without, among-without-back, among-without_test, among_first, among_later, apart_back}
pub use Rattle.clock2q_queues.proofs.Rings.{apart_from, around-ring, before_end, below-among, below-more, below_of, differs, distinct_alone, distinct_first, distinct_more, distinct_none}
pub use Rattle.clock2q_queues.proofs.Rings.{distinct_rest, eqb_self, eqb_swap, parted, without-parted}

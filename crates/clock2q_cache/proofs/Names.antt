-- The names that most proofs here cite, passed on from one place. Declares nothing.
pub use Rattle.std.proofs.Common.{Bool, Err, IfErr, IfOk, IsErr, IsOk, IsOkAnd, List, MatchResult, None, Ok, OnErr, OnOk, Option, Result, Some, [], ap, arith, cond, drop, eq-eqb, eqb, eqb-true}
pub use Rattle.std.proofs.Common.{false, get_or, inl, inr, length, length-append, map, ne_eqb, not, refl, reverse, rules, slice_get, subst, suc, sym, take, true, vec_capacity, vec_len, zero, ℕ}
pub use Rattle.std.proofs.Common.{⊎_elim, ◌&&◌, ◌*◌, ◌++◌, ◌+◌, ◌-◌, ◌<◌, ◌==◌, ◌^◌, ◌||◌, ◌↔◌, ◌∙◌, ◌∷◌, ◌≡◌, ◌≤◌, ◌⊎◌}
pub use Rattle.std.proofs.lemmas.Bool.{both_ways, cases_Bool, cases_lt, eqb-false, le-ltb, lt-ltb, ltb-false, ltb-true, or_cases}
pub use Rattle.std.proofs.lemmas.Bool.Decides.{nat_tests}
pub use Rattle.std.proofs.lemmas.Fn.{FoldsTo-push}
pub use Rattle.std.proofs.lemmas.List.{append-nil, append_assoc, length-map, length-reverse, map-append, reverse-append, reverse-reverse, take-append-drop, take-map}
pub use Rattle.std.proofs.lemmas.List.Elements.{All-filter, All-from_recursion, All-take, filter-append, filter_map-append, recursion_from_All}
pub use Rattle.std.proofs.lemmas.List.Folds.{list_any-append}
pub use Rattle.std.proofs.lemmas.List.Sums.{count_by-le-length, fold-append, length-filter, sum_by-append, sum_by-cons}
pub use Rattle.std.proofs.lemmas.Option.{slice_get_past, slice_get_within}
pub use Rattle.std.specs.Bool.{then_some}
pub use Rattle.std.specs.Borrow.{Bor}
pub use Rattle.std.specs.Cmp.{IsEquivalence}
pub use Rattle.std.specs.Fn.{Called, FnOnceReturnsAt, Mut, Once, Takes}
pub use Rattle.std.specs.HashMap.Lent.{HashMembers}
pub use Rattle.std.specs.List.{AllByRecursion, FoldsTo, IsDistinct, cons_option, count_by, filter, filter_map, find, fold, last_or, list_any, range_with_len, zip}
pub use Rattle.std.specs.List.Retain.{ReturnsInTurn}
pub use Rattle.std.specs.Option.{IsSomeAnd, UnwrapsOrElse, option_and_then, option_map, option_to_list, unwrap_or}
pub use Rattle.std.specs.Prelude.{IfNone, IfSome, IsSome, MatchOption, if◌then◌else◌, is_some, nat_le, nat_lt, slice_set, sum_by}
pub use base.Fml.{GName, Lft, Share, fbor, fdead, flft, fobs, fres}
pub use base.Fraction.{full_share}
pub use base.Logic.{SProp, apply∗, emp, emp∗, ent, ex, ex_e, ex_i, id⊢, mono_l, sep, via, wand}
pub use base.Share.{right}
pub use contract.BorrowLft.{meet_⊑_left, ◌⊑◌}
pub use contract.Monad.{fact, fact_i}
pub use denote.Builtin.{u32}
pub use denote.Follow.{follows_by, follows_if, follows_so, such_by}
pub use denote.Laws.{Typed}
pub use denote.Lend.{LentAgain, comes_back, lends_again}
pub use denote.Memory.{hidden_shr, mem, part_at}
pub use denote.Param.Always.{always_mut, mut_next}
pub use denote.Param.Laws.{Laws, is_one, of_field}
pub use denote.Param.Shared.{copy_shared}
pub use denote.RattleType.{RattleType}
pub use denote.Ref.{MutBor, MutRef, NamedLft, ShrRef, as_bor, mut_vals}
pub use denote.Shares.{settles}
pub use denote.Struct.Field.{shr_ref_field, u32-field}
pub use denote.Struct.Laws.{shr_ref_copy, shr_ref_laws, u32-copy, u32-laws}
pub use ghost.Rules.{Toks}
pub use lib.Dec.{T}
pub use mathlib.Core.List.{map-map}
pub use mathlib.Core.Option.{none}
pub use mir.Syntax.{Ty, named}
pub use mir.Val.{Val, WT, has_ty}
pub use seplogic.Ra.Ura.{Ura}
pub use types.Kit.{ !, Goal, Item, Seq, Step, await, done, feq_i, fjoin, fsplit, join, keep, later, move, now, pick, qed, raw, show, some, split, step, updating, use0, use1, use2, use3, ‵, ◌$◌}
pub use types.Kit.{◌∵◌, ◌⊛◌}
pub use types.Logic.{Logic, lfts, sem}
pub use types.Tokens.{lft_end, lft_new, name_done}
pub use Rattle.clock2q_cache.specs.CacheFields.{IsCache, IsSized, IsStored, counts_of, machine_of, queued_slots, with_keys_main, with_keys_small}
pub use Rattle.clock2q_cache.specs.CacheLends.{LeavesTried, Tries}
pub use Rattle.clock2q_cache.specs.CacheState.{CacheState, Counts, cache_state, remembered_in, residents_in, uncounted}
pub use Rattle.clock2q_cache.specs.Charged.{most_keys, most_links, with_slot}
pub use Rattle.clock2q_cache.specs.Closures.{AsksResident, Fetches, FillsUp, MayBeAsked, Retains, Reuses, TakesResidents, TakesSlot}
pub use Rattle.clock2q_cache.specs.Costs.{Becomes, Costs, Reaches, Spends, accesses_for, alike, most_accesses, most_comparisons, most_slots, reached, reached_if, slots_for, slots_to_take, walked}
pub use Rattle.clock2q_cache.specs.Growth.{Grows}
pub use Rattle.clock2q_cache.specs.Hashes.{hash_of}
pub use Rattle.clock2q_cache.specs.Indexed.{HasPlaces, IsIndexed, IsSpacious}
pub use Rattle.clock2q_cache.specs.Insertions.{Enters, EntersQueue, EntersSmall, Fills, IsAbsent, IsAdmitted, IsFoundFor, IsUnknown, Notes, has_room, into_queue, is_main, leaves_placed}
pub use Rattle.clock2q_cache.specs.Insertions.{main_inspections, makes_slot, next_is_vacant, placed_inspections, small_inspections}
pub use Rattle.clock2q_cache.specs.Iteration.{entries, entries_from, entry_at, key_and_slot, key_of, keys, value_in}
pub use Rattle.clock2q_cache.specs.Makers.{MayMake, TakesTimes}
pub use Rattle.clock2q_cache.specs.MakingRoom.{retired_from}
pub use Rattle.clock2q_cache.specs.Places.{discarded, entered, hash_in, key_out, known_at, known_once, known_taken, known_with, left_by, looked_for, out_of, remembering, vacated_for}
pub use Rattle.clock2q_cache.specs.SlotsByHash.{has_hash_at, slots_with_hash}
pub use Rattle.clock2q_cache.specs.Visits.{visits_all}
pub use Rattle.clock2q_directory.proofs.Emptied.{cleared_like, emptied-slots, for-new, new-none, slots-cleared}
pub use Rattle.clock2q_directory.proofs.Entries.{all-written, any_entry, hash_at-others, hash_at-own, key_at-others, key_at-own, key_there, length-values, length-written, same_place, set-written}
pub use Rattle.clock2q_directory.proofs.Entries.{slice_get-written, slice_get-written_other, slice_get_some, value-there, values-written}
pub use Rattle.clock2q_directory.proofs.Indexes.{IsIndex-cleared, IsIndex-kept, IsIndex-put, IsIndex-taken, candidate_there, candidates_there, length-cleared, length-put, length-taken, named-own}
pub use Rattle.clock2q_directory.proofs.Lookups.{comparisons-most, found_there, is_empty, lookup, not_found}
pub use Rattle.clock2q_directory.proofs.Prices.{freed-accesses, freed-dear, inserted-most, left-dear, pushed-accesses, reached_oldest}
pub use Rattle.clock2q_directory.proofs.Remembering.{shared-freed, shared-pushed, slots-freed, slots-pushed}
pub use Rattle.clock2q_directory.proofs.Views.{slots-entered, slots-left}
pub use Rattle.clock2q_directory.specs.Directory.{IsResident, IsWithinRoom, Known}
pub use Rattle.clock2q_directory.specs.Hashed.{has_hash}
pub use Rattle.clock2q_directory.specs.History.{IsWholeHistory, Places, Remembered, found_gap, found_place, found_slot, is_remembered, most_beside, oldest_hash, place_of, places_looked_up}
pub use Rattle.clock2q_directory.specs.History.{places_with, pushed_places}
pub use Rattle.clock2q_directory.specs.Index.{IndexState, IsGapFor, IsWithinCapacity, index_state, is_shared, left, looked_up, most_reached, slots}
pub use Rattle.clock2q_directory.specs.Indexes.{HasHash, IsIndex, is_alike, is_named}
pub use Rattle.clock2q_directory.specs.Keys.{IsValueFor, KeyPlaces, Writes, comparisons_of, entries_of, entry, hash_at, hashed_at, is_key_at, key_at, with_key, with_value, written}
pub use Rattle.clock2q_directory.specs.declared.handle.Found.{Found}
pub use Rattle.clock2q_directory.specs.declared.keys.Entry.{Entry}
pub use Rattle.clock2q_handles.specs.Homes.{candidates, capacity, no_entries, total, with_handle, without_handle}
pub use Rattle.clock2q_handles.specs.Layout.{layout, spill}
pub use Rattle.clock2q_machine.proofs.Clock.{clock_bounded}
pub use Rattle.clock2q_machine.proofs.Entering.{differs, entered_there, same_slots, slots_apart, weight-replaced}
pub use Rattle.clock2q_machine.proofs.Evicted.{evicts_next, whole-tail}
pub use Rattle.clock2q_machine.proofs.Laws.{inserted_there, inserted_value, put_there, replaced_there, reused_value, slot_at_most}
pub use Rattle.clock2q_machine.proofs.Linear.{linear_inspections}
pub use Rattle.clock2q_machine.proofs.MachineInvariant.{lasting-after, lasting-empty, lasting-inserted, lasting-prefilled, resident_made, whole-changed, whole-vacated}
pub use Rattle.clock2q_machine.proofs.Residents.{hit-absent}
pub use Rattle.clock2q_machine.proofs.Standing.{found_at, get-append, get-within, resident_once}
pub use Rattle.clock2q_machine.proofs.Storing.{stored_again, stored_same}
pub use Rattle.clock2q_machine.proofs.Victims.{counted_residents, others_stay}
pub use Rattle.clock2q_machine.proofs.Weights.{length-from_victim, weight-last}
pub use Rattle.clock2q_machine.proofs.Whole.{IsPlaced, all_resident, counted_made, empty_small, last_some, no_vacancy, none_is, one_if, placed-admitted, placed-evicting, placed-joining}
pub use Rattle.clock2q_machine.proofs.Whole.{placed-main, placed-promoting, placed-replacing, placed-small, small_share, some_is, tail_some, unknown_once_forgotten, victim_made, whole-forgotten}
pub use Rattle.clock2q_machine.proofs.Whole.{whole-hit, whole-stored}
pub use Rattle.clock2q_machine.proofs.WorkedRuns.{gets, puts, state}
pub use Rattle.clock2q_machine.specs.Ages.{Age, grown_older, is_promoted, touched}
pub use Rattle.clock2q_machine.specs.Bounds.{goes_on, inspections_for, inspections_of, set_bits, summed, takes_victim}
pub use Rattle.clock2q_machine.specs.Calls.{Call, Capacity, Clear, Contains, Evict, Get, GetAt, IsEmpty, Len, Peek, Prefill, Put, Remove, Retain, Set, SlotFor, Try, With}
pub use Rattle.clock2q_machine.specs.Entries.{MainEntry, SmallEntry, behind_hand, first_of}
pub use Rattle.clock2q_machine.specs.Growth.{IsAtLeast, grown}
pub use Rattle.clock2q_machine.specs.Leaving.{leaver, leaves_for, leaves_for_main, leaves_for_small, next_victim, victim_of}
pub use Rattle.clock2q_machine.specs.Machine.{Machine, Placement, by_slot, empty, evicted, evicting_tail, forgotten, goes_to_main, hit, inserted, into_main, into_small, into_small_at}
pub use Rattle.clock2q_machine.specs.Machine.{joining_main, keeps_tail, leaves_now, placement, prefilled, promoting_tail, removed, removed_at, replacing_victim, resident_at, resident_count}
pub use Rattle.clock2q_machine.specs.Machine.{residents, reused, slot_of, stored, tail_evicted, vacancy, vacant_slot, vacated, vacated_all, value_of, victim_evicted, victim_leaves}
pub use Rattle.clock2q_machine.specs.Policies.{IsPolicy}
pub use Rattle.clock2q_machine.specs.Shares.{Shares, main_share}
pub use Rattle.clock2q_machine.specs.Steps.{after, after_all, fetched, fetched_value, hit_at, is_at, put, refused_slots, replaced, replaced_at, retained, slotted, slotted_at}
pub use Rattle.clock2q_machine.specs.Whole.{IsWhole, known_count, standings}
pub use Rattle.clock2q_queues.proofs.Booleans.{and_false, and_true, or_parts, or_true}
pub use Rattle.clock2q_queues.proofs.Joining.{length-without}
pub use Rattle.clock2q_queues.proofs.Rings.{among-without, among-without_test, among_first, among_later, below-among, below-more, below_of, distinct_first, distinct_more, distinct_none}
pub use Rattle.clock2q_queues.proofs.Rings.{distinct_rest, eqb_self, eqb_swap}
pub use Rattle.clock2q_queues.proofs.SlotLists.{slots_of-append, slots_of-filter, slots_of-hit, slots_of-mapped}
pub use Rattle.clock2q_queues.specs.Cells.{Rises}
pub use Rattle.clock2q_queues.specs.Links.{made_below}
pub use Rattle.clock2q_queues.specs.Main.{from_victim, inspections, main_hit_at, set_front}
pub use Rattle.clock2q_queues.specs.Queues.{QueueState, slots_of, tail_promoted, without_slot}
pub use Rattle.clock2q_queues.specs.Rings.{without}
pub use Rattle.clock2q_queues.specs.Small.{admitted, small_hit_at}

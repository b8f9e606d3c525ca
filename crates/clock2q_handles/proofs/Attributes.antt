-- Sets of lemmas that attributes of functions name by one word.
use Rattle.std.proofs.lemmas.List.{length-replicate}
use Rattle.clock2q_handles.proofs.layout.MoreEntries.{walk-more}
use Rattle.clock2q_handles.proofs.layout.Placement.{best-placed}
use Rattle.clock2q_handles.proofs.layout.TidyLayout.{length-homes_of, listed-homes_of, tidy-layout, tidy-room}
use Rattle.clock2q_handles.proofs.rebuild.Hashes.{rebuilt-total}
use Rattle.clock2q_handles.proofs.shifts.Changes.{length-with_list}
use Rattle.clock2q_handles.proofs.shifts.Removals.{removed-fewer, removed-none}
use Rattle.clock2q_handles.proofs.walks.Runs.{removed-run}

-- where the entries of slots in order are
pub ruleset laid_out = (tidy-layout, tidy-room, best-placed)

-- a table rebuilt in other slots
pub ruleset rebuilding = (rebuilt-total, length-replicate, length-homes_of)

-- a removal and then an insertion
pub ruleset replacing = (length-with_list, removed-fewer, removed-run, walk-more)

-- a home where a search finds no entry
pub ruleset absent = (removed-none, listed-homes_of)

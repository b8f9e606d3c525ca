-- Small and Main as two lists, over the links that they share.
use Rattle.std.specs.Prelude.{◌≡◌, ℕ, ◌+◌, Bool, true, false, not, ◌&&◌, nat_lt, ◌==◌, ◌<◌, if◌then◌else◌, List, [], map, ◌++◌, length, Option, Some, None, nat_eq}
use Rattle.std.specs.List.{filter, last_or, list_any, AllByRecursion, IsDistinct}
use Rattle.clock2q_machine.specs.Ages.{Age, is_promoted}
use Rattle.clock2q_queues.specs.Links.{LinkState, accesses_of, location_at}
use Rattle.clock2q_queues.specs.Small.{IsSmallQueue, small_slots, small_entries}
use Rattle.clock2q_queues.specs.Main.{IsMainQueue, main_slots, main_entries, inspections}
use Rattle.clock2q_queues.specs.declared.entries.Location.{Location}
use Rattle.clock2q_queues.specs.declared.entries.Location.TheVariants as at
use Rattle.clock2q_queues.specs.declared.main_queue.Main.{Main}
use Rattle.clock2q_queues.specs.declared.small.Small.{Small}

-- Small newest first and Main from the hand, each slot with its age or its bit; the numbers of slots, of those from 0 on
-- whose records were made, of window positions, of accesses to links, and of inspections by the hand
pub record QueueState : Type 0 where
  pub small : List (ℕ × Age)
  pub main : List (ℕ × Bool)
  pub slots : ℕ
  pub made : ℕ
  pub window : ℕ
  pub accesses : ℕ
  pub inspections : ℕ

-- both queues, as the links hold them
abbrev pub queues_shown : LinkState → Small → Main → QueueState
queues_shown l small main = record {
  small = small_entries l small;
  main = main_entries l main;
  slots = length l.records.items;
  made = l.made;
  window = length l.window.items;
  accesses = accesses_of l;
  inspections = l.bits.inspections;
}

-- the links represent both queues, and any other slot is free
pub record AreQueues (l : LinkState) (s : Small) (m : Main) : Type 0 where
  pub small : IsSmallQueue l s
  pub main : IsMainQueue l m
  pub elsewhere : (t : ℕ) → list_any (nat_eq t) (small_slots l s) ≡ false → list_any (nat_eq t) (main_slots l m) ≡ false → location_at l.records.items t ≡ at.Free

-- the slots of a queue's entries
abbrev pub slots_of : {X : Type 0} → List (ℕ × X) → List ℕ
slots_of entries = map (λ e. e.0) entries

-- a queue without a slot
abbrev pub without_slot : {X : Type 0} → ℕ → List (ℕ × X) → List (ℕ × X)
without_slot slot entries = filter (λ e. not (e.0 == slot)) entries

-- no slot is in either queue, and nothing was counted
abbrev pub empty_queues : ℕ → ℕ → QueueState
empty_queues slots window = record { small = []; main = []; slots = slots; made = 0; window = window; accesses = 0; inspections = 0 }

-- a slot is there: in one of the queues, or in neither
abbrev pub IsAt : Location → ℕ → QueueState → Type 0
IsAt at.Free slot q = (list_any (nat_eq slot) (slots_of q.small) ≡ false) × (list_any (nat_eq slot) (slots_of q.main) ≡ false)
IsAt (at.SmallYoung position) slot q = (list_any (nat_eq slot) (slots_of q.small) ≡ true) × (list_any (nat_eq slot) (slots_of q.main) ≡ false)
IsAt at.SmallOld slot q = (list_any (nat_eq slot) (slots_of q.small) ≡ true) × (list_any (nat_eq slot) (slots_of q.main) ≡ false)
IsAt at.Main slot q = (list_any (nat_eq slot) (slots_of q.small) ≡ false) × (list_any (nat_eq slot) (slots_of q.main) ≡ true)

-- whether Small's oldest slot goes on to Main instead of leaving
abbrev pub tail_promoted : Option (ℕ × Age) → Bool
tail_promoted None = false
tail_promoted (Some e) = is_promoted e.1

-- whether Small gives up no slot: it is empty, or its oldest slot goes on to Main
abbrev pub keeps_tail : Option (ℕ × Age) → Bool
keeps_tail None = true
keeps_tail (Some e) = is_promoted e.1

-- whether a slot of Main leaves next, rather than Small's oldest one
abbrev pub victim_leaves : QueueState → Bool
victim_leaves q = nat_lt 0 (length q.main) && keeps_tail (last_or None q.small)

-- the most slots that are looked at to name the one that leaves next: Small's oldest and, if a slot of Main leaves, those
-- that the hand would inspect
abbrev pub looks_ahead : QueueState → ℕ
looks_ahead q = 1 + (if victim_leaves q then inspections q.main else 0)

-- what callers may rely on: no slot occurs twice, and each is below the number of slots
pub record IsWholeQueues (q : QueueState) : Type 0 where
  pub apart : IsDistinct nat_eq (slots_of q.small ++ slots_of q.main)
  pub below : AllByRecursion (λ s. s < q.slots) (slots_of q.small ++ slots_of q.main)

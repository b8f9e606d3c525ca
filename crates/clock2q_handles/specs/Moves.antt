-- A rebuild: what it starts from, and what it results in.
use Rattle.std.specs.Prelude.{◌≡◌, ℕ, ◌*◌, ◌<◌, ◌≤◌, List, length, replicate, Option, None}
use Rattle.std.specs.Fn.{Mut}
use Rattle.clock2q_handles.specs.Homes.{total, capacity}
use Rattle.clock2q_handles.specs.Layout.{Placed, homes_of}
use Rattle.clock2q_handles.specs.Rehash.{GivesHashes, MayRehash, AsksHeld}
use Rattle.clock2q_handles.specs.Slots.{IsSlotCount}
use Rattle.clock2q_handles.specs.Table.{IsTable}
use Rattle.clock2q_handles.specs.TableStep.{rebuilt}

module _ {F H : Type 0} (g : Mut F (H × Unit {0}) ℕ) where
  -- `old` are a table's slots, whose entries fit in the empty slots `new`, a multiple as many, and f returns their hashes
  pub record MayMove (f : F) (old new : List (Option (Placed (ℕ × H)))) : Type 0 where
    pub table : IsTable old (total (homes_of old))
    pub multiple : 0 < length old → (k : ℕ) × (length new ≡ k * length old)
    pub fits : total (homes_of old) ≤ capacity (length new)
    pub slot_count : IsSlotCount (length new)
    pub empty : new ≡ replicate (length new) None
    pub asked : MayRehash g f (homes_of old)

  -- each entry of the slots `old` was put in turn into the empty slots `from`, under the hash that f returned for its handle, which resulted in the slots `new`
  pub record Moves (f last : F) (old from new : List (Option (Placed (ℕ × H)))) : Type 0 where
    pub made : (key : H → ℕ) → GivesHashes g key (homes_of old) f → homes_of new ≡ rebuilt key (length from) (homes_of old)
    pub table : IsTable new (total (homes_of old))
    pub asks : AsksHeld g f (homes_of old) last
    pub len : length new ≡ length from

-- Keys in several lists, each key in the list of its hash's group.
use Rattle.std.specs.Prelude.{◌≡◌, ℕ, List, [], Some, get_or, length, slice_get}
use Rattle.clock2q_handles.specs.Partition.{IsPartitionCount, IsGroupOf}
use Rattle.clock2q_uses.specs.Interning.{spread}

pub record IsSplit (parts : List (List ℕ)) : Type 0 where
  pub count : IsPartitionCount (length parts)
  pub own : (part number key : ℕ) → slice_get (get_or parts part []) number ≡ Some key → IsGroupOf (spread key) (length parts) part

-- The last accesses of a trace's keys, given by their stamps, and the number of them in each block of 16 indices.
use Rattle.std.specs.Prelude.{◌≡◌, ℕ, suc, ◌*◌, ◌<◌, ◌≤◌, ◌==◌, if◌then◌else◌, List, get_or, length}
use Rattle.simulator_policies.specs.declared.count_tree.CountTree.{CountTree}
use Rattle.simulator_policies.specs.declared.last_accesses.LastAccesses.{LastAccesses}
use Rattle.simulator_policies.specs.Stamps.{held_at, AreStamps, AreStamped}
use Rattle.simulator_policies.specs.CountTree.{sum_in, node_of, count_of, IsTree}

-- the keys accessed so far, most recent first
abbrev pub recent_by : {A : Type 0} → List ℕ → ℕ → LastAccesses A → List ℕ
recent_by trace at accesses = held_at trace accesses.stamps.items 0 at

module _ (trace stamps : List ℕ) where
  -- 1 if the access at an index is the last one of its key, else 0
  abbrev pub newest : ℕ → ℕ
  newest index = if get_or stamps (get_or trace index 0) 0 == suc index then 1 else 0

  -- the same, but 0 for one key
  abbrev pub other_newest : ℕ → ℕ → ℕ
  other_newest key index = if get_or trace index 0 == key then 0 else newest index

-- the count of each block is the sum of a number for each of its indices, and no node is above the number of accesses so far
pub record AreCounts {A : Type 0} (trace : List ℕ) (at : ℕ) (number : ℕ → ℕ) (counts : CountTree A) : Type 0 where
  pub tree : IsTree counts
  pub covers : length trace < 16 * counts.blocks
  pub counted : (block : ℕ) → block < counts.blocks → count_of counts block ≡ sum_in number (16 * block) 16
  pub few : (node : ℕ) → node_of counts node ≤ at

pub record IsCounting {A : Type 0} (trace : List ℕ) (at : ℕ) (accesses : LastAccesses A) : Type 0 where
  pub known : AreStamped trace accesses.stamps.items
  pub stamped : AreStamps trace accesses.stamps.items at
  pub counts : AreCounts trace at (newest trace accesses.stamps.items) accesses.counts

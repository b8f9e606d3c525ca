-- The invariant of every cache's machine.
use Rattle.std.specs.Prelude.{◌≡◌, ℕ, ◌+◌, ◌<◌, ◌≤◌, ◌==◌, nat_lt, if◌then◌else◌, Bool, length}
use Rattle.std.specs.List.{count_by}
use Rattle.clock2q_machine.specs.Shares.{main_share}
use Rattle.clock2q_machine.specs.Machine.{Machine}

module _ {K V : Type 0} where
  -- the number of keys of residents and of the history that pass the test
  abbrev pub known_count : (K → Bool) → Machine K V → ℕ
  known_count is m = count_by (λ e. is e.key) m.small + count_by (λ e. is e.key) m.main + count_by is m.history

  -- the number of times that a slot is in Small, in Main and among the free ones
  abbrev pub standings : ℕ → Machine K V → ℕ
  standings slot m = count_by (λ e. e.slot == slot) m.small + count_by (λ e. e.slot == slot) m.main + count_by (λ s. s == slot) m.free

  -- Small leaves Main a share, and no list is longer than its own; a key is at most once among the residents and the
  -- history; and each slot that was made is a resident's or free, exactly once, and no other slot is
  pub record IsWhole (eq : K → K → Bool) (m : Machine K V) : Type 0 where
    pub small_below : m.shares.small < m.shares.capacity
    pub small_within : length m.small ≤ m.shares.small
    pub main_within : length m.main ≤ main_share m.shares
    pub history_within : length m.history ≤ m.shares.history
    pub made_within : length m.values ≤ m.shares.capacity
    pub slots_counted : length m.small + length m.main + length m.free ≡ length m.values
    pub slots_once : (slot : ℕ) → standings slot m ≡ (if nat_lt slot (length m.values) then 1 else 0)
    pub keys_once : (key : K) → known_count (eq key) m ≤ 1

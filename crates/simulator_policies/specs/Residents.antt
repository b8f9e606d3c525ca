-- The residents of a plain cache, given by its stamps.
use Rattle.std.specs.Prelude.{◌≡◌, ℕ, ◌≤◌, List, length}
use Rattle.simulator_policies.specs.declared.plain.Residents.{Residents}
use Rattle.simulator_policies.specs.Stamps.{held_at, AreStamps, AreStamped}

-- the keys held after the first `at` keys of a trace, newest first
abbrev pub held_by : {A : Type 0} → List ℕ → ℕ → Residents A → List ℕ
held_by trace at residents = held_at trace residents.stamps.items residents.left at

-- they are given by stamps and counted, and there are no more than the capacity
pub record IsHolding {A : Type 0} (capacity : ℕ) (trace : List ℕ) (at : ℕ) (residents : Residents A) : Type 0 where
  pub known : AreStamped trace residents.stamps.items
  pub stamped : AreStamps trace residents.stamps.items at
  pub begun : residents.left ≤ at
  pub counted : residents.count ≡ length (held_by trace at residents)
  pub room : residents.count ≤ capacity

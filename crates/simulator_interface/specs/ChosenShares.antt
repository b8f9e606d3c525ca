-- The shares of a cache that arguments choose.
use Rattle.std.specs.Prelude.{ℕ, min, Option, Some, None}
use Rattle.clock2q_machine.specs.Shares.{Shares, usual_history, usual_shares}
use Rattle.clock2q_machine.specs.Policies.{IsPolicy, shares_with}
use Rattle.simulator_interface.specs.declared.amount.Amount.{Amount}
use Rattle.simulator_interface.specs.declared.amount.Unit.{Unit as Counted}
use Rattle.simulator_interface.specs.declared.amount.Unit.TheVariants.{Keys, Millionths}
use Rattle.simulator_interface.specs.declared.shares.ChosenShares.{ChosenShares}
use Rattle.simulator_interface.specs.Amounts.{keys_of}

-- Small's share of a capacity
abbrev pub small_of : ChosenShares → ℕ → ℕ
small_of chosen capacity = keys_of chosen.small capacity

-- the window's share of Small
abbrev pub window_of : ChosenShares → ℕ → ℕ
window_of chosen capacity = keys_of chosen.window (min (small_of chosen capacity) capacity)

-- the history's share of a capacity, or the usual one if none is chosen
abbrev pub history_by : Option Amount → ℕ → ℕ
history_by None capacity = usual_history capacity
history_by (Some history) capacity = keys_of history capacity

abbrev pub history_of : ChosenShares → ℕ → ℕ
history_of chosen capacity = history_by chosen.history capacity

-- the shares of a cache for this number of keys: the chosen ones, or the usual ones
abbrev pub shares_for : Option ChosenShares → ℕ → Shares
shares_for None capacity = usual_shares capacity
shares_for (Some chosen) capacity = shares_with capacity (small_of chosen capacity) (window_of chosen capacity) (history_of chosen capacity)

-- shares fit together in a cache for this number of keys; the keys in a percentage are known only with the trace
abbrev pub FitsBy : Option ChosenShares → Counted → ℕ → Type 0
FitsBy shares Keys number = IsPolicy (shares_for shares number)
FitsBy shares Millionths number = Unit {0}

-- shares fit together in a cache of a capacity that is a number of keys
abbrev pub Fits : Option ChosenShares → Amount → Type 0
Fits shares capacity = FitsBy shares capacity.unit capacity.number

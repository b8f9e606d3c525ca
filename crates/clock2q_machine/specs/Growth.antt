-- How a cache's capacity is raised.
use Rattle.std.specs.Prelude.{ℕ, ◌≤◌}
use Rattle.clock2q_machine.specs.Shares.{Shares, main_share}
use Rattle.clock2q_machine.specs.Machine.{Machine}

-- no list of the cache gets less room, and no entry stays young for fewer admissions
pub record IsAtLeast (old new : Shares) : Type 0 where
  pub small : old.small ≤ new.small
  pub main : main_share old ≤ main_share new
  pub window : old.window ≤ new.window
  pub history : old.history ≤ new.history

-- there is more room, and every key stays where it is
abbrev pub grown : {K V : Type 0} → Shares → Machine K V → Machine K V
grown shares m = record m { shares = shares }

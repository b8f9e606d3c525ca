-- What `prefill` requires of its closure.
use Rattle.std.specs.Prelude.{ℕ, zero, suc, ◌-◌, length}
use Rattle.std.specs.Fn.{Mut, Called, Takes}
use Rattle.clock2q_machine.specs.Machine.{Machine}

module _ {F V : Type 0} (g : Mut F Unit V) where
  -- f may be called this number of times in turn, whatever it returns
  abbrev pub TakesTimes : ℕ → F → Type 0
  TakesTimes zero f = Unit {0}
  TakesTimes (suc n) f = Takes g f tt × ((value : V) (next : F) → Called g f tt value next → TakesTimes n next)

  -- f may be called once for each slot that was never made
  pub record MayMake {K : Type 0} (f : F) (m : Machine K V) : Type 0 where
    pub in_turn : TakesTimes (m.shares.capacity - length m.values) f

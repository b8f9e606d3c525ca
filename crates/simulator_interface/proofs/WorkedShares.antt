-- What shares mean, computed.
use Rattle.std.specs.Prelude.{◌≡◌, ◌*◌, ℕ, Option, Some, None, codes, refl}
use Rattle.std.proofs.Common.{arith}
use Rattle.clock2q_machine.specs.Policies.{IsPolicy}
use Rattle.simulator_interface.specs.declared.amount.Amount.{Amount}
use Rattle.simulator_interface.specs.declared.amount.Unit.TheVariants.{Keys, Millionths}
use Rattle.simulator_interface.specs.declared.shares.ChosenShares.{ChosenShares}
use Rattle.simulator_interface.specs.Amounts.{amount}
use Rattle.simulator_interface.specs.AskedOptions.{shares_in}
use Rattle.simulator_interface.specs.ChosenShares.{history_of, shares_for}
use Rattle.simulator_interface.specs.Sample.{sample, scaled_shares}

abbrev shares : Amount → Amount → Option Amount → ChosenShares
shares small window history = record { small = small; window = window; history = history }

abbrev keys : ℕ → Amount
keys number = amount Keys number

abbrev percent : ℕ → Amount
percent number = amount Millionths (number * 10000)

-- words, in any order
three : shares_in (codes "small=10%,window=50%,history=90%") ≡ Some (shares (percent 10) (percent 50) (Some (percent 90)))
three = refl

history_first : shares_in (codes "history=600,window=7,small=20") ≡ Some (shares (keys 20) (keys 7) (Some (keys 600)))
history_first = refl

history_between : shares_in (codes "window=7,history=0,small=20") ≡ Some (shares (keys 20) (keys 7) (Some (keys 0)))
history_between = refl

without_history : shares_in (codes "window=7,small=20") ≡ Some (shares (keys 20) (keys 7) None)
without_history = refl

history_alone : shares_in (codes "history=90%") ≡ None
history_alone = refl

without_window : shares_in (codes "small=10%,history=90%") ≡ None
without_window = refl

two_histories : shares_in (codes "history=1,history=2,small=3") ≡ None
two_histories = refl

four : shares_in (codes "small=3,window=2,history=1,history=1") ≡ None
four = refl

no_percent : shares_in (codes "small=3,window=2,history=0%") ≡ None
no_percent = refl

-- the history's share is of the capacity
of_the_capacity : history_of (shares (percent 20) (percent 50) (Some (percent 90))) 50 ≡ 45
of_the_capacity = refl

half : history_of (shares (percent 20) (percent 50) None) 51 ≡ 25
half = refl

none : history_of (shares (percent 20) (percent 50) (Some (keys 0))) 50 ≡ 0
none = refl

-- and it is no more than that
longer : IsPolicy (shares_for (Some (shares (keys 5) (keys 2) (Some (keys 51)))) 50) → ⊥
longer fits = omega (arith, fits.remembered)

-- a quarter of each share in keys, for a quarter of the keys
quarter : scaled_shares (Some (sample 250000)) (Some (shares (keys 20) (keys 9) (Some (keys 30)))) ≡ Some (shares (keys 5) (keys 2) (Some (keys 7)))
quarter = refl

no_quarter : scaled_shares (Some (sample 250000)) (Some (shares (percent 20) (percent 50) (Some (keys 0)))) ≡ Some (shares (percent 20) (percent 50) (Some (keys 0)))
no_quarter = refl

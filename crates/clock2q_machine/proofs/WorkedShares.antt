-- The usual shares of some capacities, and shares that fit together or don't, worked out by hand.
use Rattle.std.proofs.Common.{◌≡◌, ℕ, [], ◌∷◌, map, refl, arith}
use Rattle.clock2q_machine.specs.Shares.{usual_shares, main_share}
use Rattle.clock2q_machine.specs.Policies.{IsPolicy, shares_of, shares_with}

-- Small's and Main's share, the window and the history
abbrev parts_of : ℕ → ℕ × ℕ × ℕ × ℕ
parts_of capacity = let s = usual_shares capacity in (s.small, main_share s, s.window, s.history)

usual : map parts_of (1 ∷ 2 ∷ 3 ∷ 6 ∷ 10 ∷ 11 ∷ 19 ∷ 20 ∷ 40 ∷ 16777215 ∷ [])
    ≡ (0, 1, 0, 0) ∷ (1, 1, 1, 1) ∷ (1, 2, 1, 1) ∷ (1, 5, 1, 3) ∷ (1, 9, 1, 5) ∷ (1, 10, 1, 5) ∷ (1, 18, 1, 9) ∷ (2, 18, 1, 10) ∷ (4, 36, 2, 20) ∷ (1677721, 15099494, 838861, 8388607) ∷ []
usual = refl

-- a capacity, Small's share and the window

one_slot : IsPolicy (shares_of 1 0 0)
one_slot = record { below = omega arith; both = ((λ e. e), (λ e. e)); within = omega arith; remembered = omega arith }

no_share_for_small : IsPolicy (shares_of 3 0 0)
no_share_for_small = record { below = omega arith; both = ((λ e. e), (λ e. e)); within = omega arith; remembered = omega arith }

whole_window : IsPolicy (shares_of 4 2 2)
whole_window = record { below = omega arith; both = ((λ e. omega (arith, e)), (λ e. omega (arith, e))); within = omega arith; remembered = omega arith }

no_slot_for_main : ¬ IsPolicy (shares_of 2 2 1)
no_slot_for_main = λ p. omega (arith, p.below)

no_window : ¬ IsPolicy (shares_of 2 1 0)
no_window = λ p. let empty_small : 1 ≡ 0 = p.both.1 refl in omega (arith, empty_small)

window_past_small : ¬ IsPolicy (shares_of 2 1 2)
window_past_small = λ p. omega (arith, p.within)

window_alone : ¬ IsPolicy (shares_of 2 0 1)
window_alone = λ p. let empty_window : 1 ≡ 0 = p.both.0 refl in omega (arith, empty_window)

-- and the history's share

no_history : IsPolicy (shares_with 4 1 1 0)
no_history = record { below = omega arith; both = ((λ e. omega (arith, e)), (λ e. omega (arith, e))); within = omega arith; remembered = omega arith }

whole_history : IsPolicy (shares_with 4 1 1 4)
whole_history = record { below = omega arith; both = ((λ e. omega (arith, e)), (λ e. omega (arith, e))); within = omega arith; remembered = omega arith }

history_past_capacity : ¬ IsPolicy (shares_with 4 1 1 5)
history_past_capacity = λ p. omega (arith, p.remembered)

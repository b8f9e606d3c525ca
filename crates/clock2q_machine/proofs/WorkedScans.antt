-- Scans worked out by hand: which residents leave, and what stays unchanged.
use Rattle.std.proofs.Common.{◌≡◌, ℕ, ◌-◌, Bool, false, true, eqb, List, [], ◌∷◌, ◌++◌, map, length, refl}
use Rattle.std.specs.Prelude.{None}
use Rattle.std.specs.List.{flat_map, range_with_len}
use Rattle.clock2q_machine.specs.Machine.{vacancy}
use Rattle.clock2q_machine.specs.Calls.{Get}
use Rattle.clock2q_machine.specs.Steps.{after_all}
use Rattle.clock2q_machine.specs.Scans.{scan, set_in_small, IsScan, left_all, left_main}
use Rattle.clock2q_machine.proofs.WorkedRuns.{puts, gets, state}

-- each number of a range as the value of itself
abbrev numbers : ℕ → ℕ → List (ℕ × ℕ)
numbers from n = map (λ k. (k, k)) (range_with_len from n)

-- a full cache of twenty, in which old key 1 and young key 2 of Small were hit: key 1 is promoted to Main, and key 3
-- leaves
one_leaves : let m = state 20 (puts 1 20 ++ Get 1 ∷ Get 2 ∷ []) in
    let later = after_all eqb (scan (numbers 21 60)) m in
    (vacancy m ≡ None) × ((set_in_small m ≡ 1) × ((left_main eqb m later ≡ 1) × (map (λ e. e.key) later.main ≡ range_with_len 4 17 ++ 1 ∷ [])))
one_leaves = (refl, (refl, (refl, refl)))

-- of all its residents two leave, which is Small's share: key 2, and key 3 for key 1
two_of_all_leave : let m = state 20 (puts 1 20 ++ Get 1 ∷ Get 2 ∷ []) in
    (m.shares.small ≡ 2) × ((left_all eqb m (after_all eqb (scan (numbers 21 1)) m) ≡ 1) × (left_all eqb m (after_all eqb (scan (numbers 21 60)) m) ≡ 2))
two_of_all_leave = (refl, (refl, refl))

-- nor do more leave a cache with room
two_of_twelve_leave : let m = state 20 (puts 1 12) in (length m.main ≡ 10) × (left_all eqb m (after_all eqb (scan (numbers 21 60)) m) ≡ 2)
two_of_twelve_leave = (refl, refl)

-- if no old key of Small was hit, Main is unchanged, including its bits and hand
none_leaves : let m = state 20 (puts 1 20 ++ gets 5 3) in
    let later = after_all eqb (scan (numbers 21 60)) m in
    (set_in_small m ≡ 0) × ((left_main eqb m later ≡ 0) × (map {B = ℕ × Bool} (λ e. (e.key, e.bit)) later.main
    ≡ (3, false) ∷ (4, false) ∷ (5, true) ∷ (6, true) ∷ (7, true) ∷ map {B = ℕ × Bool} (λ k. (k, false)) (range_with_len 8 13)))
none_leaves = (refl, (refl, refl))

-- a scan requires that none of its keys is known: key 2 is remembered, and enters Main in place of key 3
a_key_that_is_remembered : let m = state 20 (puts 1 20 ++ puts 21 2) in
    (m.history ≡ 2 ∷ 1 ∷ []) × (left_main eqb m (after_all eqb (scan ((2, 2) ∷ [])) m) ≡ 1)
a_key_that_is_remembered = (refl, refl)

its_keys_differ : IsScan eqb ((21, 21) ∷ (22, 22) ∷ []) (state 20 (puts 1 20))
its_keys_differ = (refl, ((refl, tt), (refl, (tt, tt))))

-- a scan that reads each key twice, the second time when the history remembers it, evicts all of Main
abbrev read_twice : ℕ → ℕ → List (ℕ × ℕ)
read_twice from n = flat_map (λ k. (k, k) ∷ (k - 3, k - 3) ∷ []) (range_with_len from n)

each_key_twice : let m = state 20 (puts 1 20) in (length m.main ≡ 18) × (left_main eqb m (after_all eqb (scan (read_twice 24 30)) m) ≡ 18)
each_key_twice = (refl, refl)

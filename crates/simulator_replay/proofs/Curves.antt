-- The hits at many capacities: one list of them, and the hits of one capacity.
use Rattle.std.proofs.Common.{◌≡◌, ℕ, zero, suc, ◌-◌, ◌<◌, List, [], ◌∷◌, length, get_or, take, map, refl, ap, ◌∙◌, arith}
use Rattle.std.specs.NonZero.{non_zero_usize_get}
use Rattle.std.specs.declared.num.NonZeroUsize.{NonZeroUsize}
use Rattle.std.proofs.lemmas.List.{length-map}
use Rattle.simulator_replay.specs.Curves.{AreHitsAt}

-- a function of the numbers of some capacities, at one of them
pub mapped-at : (f : ℕ → ℕ) (capacities : List NonZeroUsize) (place : ℕ) → place < length capacities
    → get_or (map (λ capacity. f (non_zero_usize_get capacity)) capacities) place 0 ≡ f (get_or (map non_zero_usize_get capacities) place 0)
mapped-at f [] place within = absurd (omega (arith, within))
mapped-at f (capacity ∷ capacities) zero within = refl
mapped-at f (capacity ∷ capacities) (suc place) within = mapped-at f capacities place (omega (arith, within))

-- the hits of one pass minus those of a pass over the skipped accesses are the hits after them
pub hits_after_are : (hits : ℕ → List ℕ → ℕ) (skipped : ℕ) (numbers : List ℕ) (capacities : List NonZeroUsize)
    (all before rest : List ℕ) → all ≡ map (λ capacity. hits (non_zero_usize_get capacity) numbers) capacities
    → before ≡ map (λ capacity. hits (non_zero_usize_get capacity) (take skipped numbers)) capacities → length rest ≡ length all
    → ((place : ℕ) → place < length all → get_or rest place 0 ≡ get_or all place 0 - get_or before place 0) → AreHitsAt hits skipped numbers capacities rest
hits_after_are hits skipped numbers capacities all before rest all_are before_are long each = λ place within.
    let many : length all ≡ length capacities = ap length all_are ∙ length-map capacities (λ capacity. hits (non_zero_usize_get capacity) numbers) in
    let here : place < length capacities = omega (arith, within, long, many) in
    each place (omega (arith, within, long))
    ∙ ap (λ n. n - get_or before place 0) (ap (λ xs. get_or xs place 0) all_are ∙ mapped-at (λ room. hits room numbers) capacities place here)
    ∙ ap (λ n. hits (get_or (map non_zero_usize_get capacities) place 0) numbers - n) (ap (λ xs. get_or xs place 0) before_are ∙ mapped-at (λ room. hits room (take skipped numbers)) capacities place here)

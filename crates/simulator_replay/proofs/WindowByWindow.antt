-- Windows of a trace, one more at a time.
use Rattle.std.proofs.Common.{◌≡◌, ℕ, ◌+◌, ◌-◌, ◌<◌, ◌≤◌, List, [], ◌∷◌, ◌++◌, Option, length, take, min, sym, ap, ◌∙◌, subst, arith}
use Rattle.std.specs.List.{All}
use Rattle.std.proofs.lemmas.List.{length-take-le, take_min}
use Rattle.simulator_interface.specs.declared.policy.Policy.{Policy}
use Rattle.simulator_interface.specs.declared.shares.ChosenShares.{ChosenShares}
use Rattle.simulator_interface.specs.declared.window.Window.{Window}
use Rattle.simulator_replay.specs.Rows.{IsRow}
use Rattle.simulator_replay.specs.Windows.{AreInTurn, IsWindow}
use Rattle.simulator_interface.proofs.Zipped.{All-more}

-- a window that begins where the others end follows them
in_turn-more : {A : Type 0} (first last : ℕ) (windows : List (Window A)) (window : Window A) → AreInTurn first windows last → window.first ≡ last
    → AreInTurn first (windows ++ window ∷ []) (last + window.row.accesses)
in_turn-more first last [] window turn e = (e ∙ sym turn, ap (λ n. n + window.row.accesses) turn)
in_turn-more first last (before ∷ windows) window turn e = (turn.0, in_turn-more (first + before.row.accesses) last windows window turn.1 e)

-- one more window, of this many accesses
pub record Follows {A : Type 0} (compared : List Policy) (shares : Option ChosenShares) (numbers : List ℕ) (room size start last : ℕ) (windows : List (Window A)) : Type 0 where
  pub in_turn : AreInTurn start windows last
  pub each : All (IsWindow compared shares numbers room size) windows

pub one_more : {A : Type 0} (compared : List Policy) (shares : Option ChosenShares) (numbers : List ℕ) (room size start first count : ℕ) (windows new : List (Window A)) (window : Window A)
    → window.first ≡ first → first < length numbers → count ≡ min size (length numbers - first) → IsRow compared shares window.first (take (first + count) numbers) room window.row
    → new ≡ windows ++ window ∷ [] → AreInTurn start windows first → All (IsWindow compared shares numbers room size) windows
    → Follows compared shares numbers room size start (first + count) new
one_more compared shares numbers room size start first count windows new window begins some counted row items in_turn each =
    let within : first + count ≤ length numbers = omega (arith, some, counted) in
    let many : window.row.accesses ≡ count = row.accesses ∙ ap (λ n. n - window.first) (length-take-le (first + count) numbers within) ∙ omega (arith, begins) in
    let whole : first + count ≡ min (window.first + size) (length numbers) = omega (arith, some, counted, begins) in
    let same : take (first + count) numbers ≡ take (window.first + size) numbers = ap (λ n. take n numbers) whole ∙ take_min (window.first + size) numbers in
    record {
      in_turn = subst (λ ws. AreInTurn start ws (first + count)) (sym items)
          (subst (AreInTurn start (windows ++ window ∷ [])) (ap (λ n. first + n) many) (in_turn-more start first windows window in_turn begins));
      each = All-more (IsWindow compared shares numbers room size) windows window new items each
          (record { some = omega (arith, some, begins); row = subst (λ ns. IsRow compared shares window.first ns room window.row) same row });
    }

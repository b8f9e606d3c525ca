-- The bytes of a replay.
use Rattle.std.proofs.Common.{◌≡◌, ℕ, Bool, List, [], Option, length, sym, ap, ◌∙◌}
use Rattle.simulator_interface.specs.declared.policy.Policy.{Policy}
use Rattle.simulator_interface.specs.declared.shares.ChosenShares.{ChosenShares}
use Rattle.simulator_traces.specs.Bytes.{hit_between}
use Rattle.simulator_traces.proofs.Bytes.{no-bytes}
use Rattle.simulator_replay.specs.RowBytes.{AreBytes}
use Rattle.simulator_replay.specs.Rows.{IsReplay}

-- of a trace without sizes
pub known-bytes : (shares : Option ChosenShares) (numbers sizes : List ℕ) (room first last : ℕ) (policy : Policy) (outcomes : List Bool)
    → IsReplay shares numbers room policy outcomes → sizes ≡ []
    → AreBytes shares numbers sizes room first last policy 0
known-bytes shares numbers sizes room first last policy outcomes replay none = record {
  outcomes = outcomes;
  replay = replay;
  are = sym (ap (hit_between first last outcomes) none ∙ no-bytes first last outcomes);
}

-- the bytes of a replay
pub replay-bytes : (shares : Option ChosenShares) (numbers sizes : List ℕ) (room skipped : ℕ) (policy : Policy) (outcomes : List Bool) → IsReplay shares numbers room policy outcomes
    → (seen : List Bool) (counted : List ℕ) (found : List ℕ) (bytes : ℕ) → seen ≡ outcomes → counted ≡ numbers → found ≡ sizes → bytes ≡ hit_between skipped (length counted) seen found
    → AreBytes shares numbers sizes room skipped (length numbers) policy bytes
replay-bytes shares numbers sizes room skipped policy outcomes replay seen counted found bytes s n z are = record {
  outcomes = outcomes;
  replay = replay;
  are = are ∙ ap (λ ns. hit_between skipped (length ns) seen found) n ∙ ap (λ os. hit_between skipped (length numbers) os found) s ∙ ap (hit_between skipped (length numbers) outcomes) z;
}

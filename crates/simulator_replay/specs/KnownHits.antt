-- Hits that are known without a replay.
use Rattle.std.specs.Prelude.{◌≡◌, ℕ, IfSome, List, Option, None}
use Rattle.simulator_replay.specs.Curves.{curve_hits, hits_after}
use Rattle.simulator_replay.specs.declared.curve.Curve.TheVariants as curve
use Rattle.simulator_replay.specs.declared.known_hits.KnownHits.{KnownHits}
use Rattle.simulator_interface.specs.declared.policy.Policy.{Policy}
use Rattle.simulator_interface.specs.declared.policy.Policy.TheVariants.{Clock2Q, Sieve, S3Fifo, LeastRecentlyUsed, Optimal, FirstInFirstOut, Clock, Arc, TwoQ, Lirs, Lru2, WTinyLfu}

-- those of a policy
abbrev pub known_of : KnownHits → Policy → Option ℕ
known_of known LeastRecentlyUsed = known.lru
known_of known Optimal = known.optimal
known_of known Clock2Q = None
known_of known Sieve = None
known_of known S3Fifo = None
known_of known FirstInFirstOut = None
known_of known Clock = None
known_of known Arc = None
known_of known TwoQ = None
known_of known Lirs = None
known_of known Lru2 = None
known_of known WTinyLfu = None

-- they are those at one capacity after the first accesses
pub record AreKnown (skipped : ℕ) (numbers : List ℕ) (room : ℕ) (known : KnownHits) : Type 0 where
  pub lru : IfSome known.lru (λ hits. hits ≡ hits_after (curve_hits curve.LeastRecentlyUsed) skipped numbers room)
  pub optimal : IfSome known.optimal (λ hits. hits ≡ hits_after (curve_hits curve.Optimal) skipped numbers room)

-- What a cache is after its capacity was raised.
use Rattle.std.specs.Prelude.{◌≡◌, ◌*◌, ◌≤◌}
use Rattle.clock2q_machine.specs.Shares.{Shares}
use Rattle.clock2q_machine.specs.Growth.{grown}
use Rattle.clock2q_cache.specs.CacheState.{CacheState}
use Rattle.clock2q_cache.specs.Costs.{Spends}

module _ {K V S : Type 0} where
  -- every key stays where it is, and the index is laid out anew: no count falls, and at most six links were accessed for each
  -- key of the old capacity
  pub record Grows (shares : Shares) (old new : CacheState K V S) : Type 0 where
    pub machine : new.machine ≡ grown shares old.machine
    pub hasher : new.hasher ≡ old.hasher
    pub taken : new.known.taken ≡ old.known.taken
    pub free : new.known.free ≡ old.known.free
    pub counts : Spends 0 (6 * old.machine.shares.capacity) 0 old.counts new.counts
    pub charged : old.known.index.accesses ≤ new.known.index.accesses

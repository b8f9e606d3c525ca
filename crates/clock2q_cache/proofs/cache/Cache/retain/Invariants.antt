use Rattle.clock2q_cache.proofs.Names.{◌+◌, ◌≤◌, ◌≡◌, ◌*◌, Spends, hash_in, resident_count}
use Rattle.clock2q_cache.proofs.Gone.{gone_below}
use Rattle.clock2q_cache.proofs.Reaching.{LeftBelow}
use Rattle.clock2q_cache.proofs.Retained.{RetainsBelow}
use Rattle.clock2q_cache.proofs.cache.Cache.retain.Given as goal

abbrev pub invariant-loop-slot : goal.invariant-loop-slot
invariant-loop-slot g l = RetainsBelow g.F.FnMut l.initial.keep l.initial.self.machine l.slot l.keep l.self.machine
    × (l.self.hasher ≡ l.initial.self.hasher)
    × Spends 0 (8 * l.slot) 0 l.initial.self.counts l.self.counts
    × (l.self.counts.accesses + 8 * resident_count l.self.machine ≤ l.initial.self.counts.accesses + 8 * resident_count l.initial.self.machine)
    × LeftBelow (record { eq = g.K.PartialEq.eq; hash_input = g.K.Hash.hash_input }) g.S.BuildHasher g.S.Hasher.Hasher l.slot l.initial.self l.self.known.index
    × (l.self.known ≡ gone_below (hash_in (record { eq = g.K.PartialEq.eq; hash_input = g.K.Hash.hash_input }) g.S.BuildHasher g.S.Hasher.Hasher l.initial.self) l.initial.self.machine l.initial.self.known l.self.machine l.slot)

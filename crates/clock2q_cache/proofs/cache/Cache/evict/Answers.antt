-- Main's victim leaves, or Small's tail.
use Rattle.clock2q_cache.proofs.Names.{sym}
use Rattle.clock2q_cache.proofs.RoomCosts.{victim-costs, tail-costs}
use Rattle.clock2q_cache.proofs.cache.Cache.evict.Goals as goal

pub returns-then-victim_leaves-clause-costs : goal.returns-then-victim_leaves-clause-costs
returns-then-victim_leaves-clause-costs g c =
    let v = c.if-victim_leaves.ensures in
    let e = c.evict_victim.ensures in
    victim-costs (record { eq = g.K.PartialEq.eq; hash_input = g.K.Hash.hash_input }) g.S.BuildHasher g.S.Hasher.Hasher c.args.self.now c.evict_victim.new.self
    (sym v.leaves) v.counts c.evict_victim.result (rw v.kept at e.left) (rw v.kept at e.machine) (rw v.kept at e.known) (rw v.kept at e.counts)

pub returns-clause-costs : goal.returns-clause-costs
returns-clause-costs g c =
    let v = c.if-victim_leaves.ensures in
    let r = c.retire_tail.ensures in
    let l = c.facts.ensures in
    tail-costs (record { eq = g.K.PartialEq.eq; hash_input = g.K.Hash.hash_input }) g.S.BuildHasher g.S.Hasher.Hasher c.args.self.now c.retire_tail.new.self
    g.met.K.Eq.laws g.met.K.Hash.respects_eq l.whole l.indexed.as_many l.within (sym v.leaves) v.counts c.retire_tail.result
    (rw v.kept at r.left) (rw v.kept at r.machine) (rw v.kept at r.known) (rw v.kept at r.counts)

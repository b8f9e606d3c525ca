-- What the index has follows from the directory's facts.
use Rattle.clock2q_cache.proofs.Names.{arith}
use Rattle.clock2q_cache.proofs.Indexed.{residents-have, remembers}
use Rattle.clock2q_cache.proofs.cache.Cache.facts.Goals as goal

pub returns-clause-indexed : goal.returns-clause-indexed
returns-clause-indexed g c =
    let r = remembers g.met.K.Eq.laws c.self.invariant c.facts.ensures.whole in
    rw (← c.self.view_is) (record { residents = residents-have g.met.K.Eq.laws c.self.invariant; as_many = r.as_many; remembered = r.have })

pub returns-clause-spacious : goal.returns-clause-spacious
returns-clause-spacious g c = grind (arith, c.self.invariant, c.self.view_is, c.facts.ensures.whole.own_room)

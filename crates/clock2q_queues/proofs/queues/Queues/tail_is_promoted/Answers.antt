use Rattle.clock2q_queues.proofs.Names.{◌≡◌, ◌&&◌, ◌∙◌, arith, rules, bit_at, is_old, location_at}
use Rattle.clock2q_queues.proofs.Sharing.{after_reading, some_small}
use Rattle.clock2q_queues.proofs.Locations.{tail_linked, tail_promoted-some}
use Rattle.clock2q_queues.proofs.Turning.{oldest_is}
use Rattle.clock2q_queues.proofs.queues.Queues.tail_is_promoted.Goals as goal

pub look-hit-requires : goal.look-hit-requires
look-hit-requires g c = grind (arith, oldest_is, some_small, tail_linked, c.self.invariant, c.self.view_is, c.requires.some)

pub invariant_of-self : goal.invariant_of-self
invariant_of-self g c = (after_reading c.self.inside.links c.self.inside.small c.self.inside.main c.self.invariant c.look-hit.new.self c.look-hit.ensures.counted).queues

pub returns-clause-value : goal.returns-clause-value
returns-clause-value g c =
    let i = c.self.inside in
    let value : c.if-matches.result ≡ (is_old (location_at i.links.records.items i.small.oldest) && bit_at i.links i.small.oldest) = search rules in
    rw (← c.self.view_is) (value ∙ tail_promoted-some i.links i.small i.main c.self.invariant i.small.oldest
    (oldest_is c.self.invariant.small (some_small i.links i.small i.main _ c.self.view_is c.requires.some)))

-- The links are those of before but for the reads that were counted.
use Rattle.clock2q_queues.proofs.Names.{None, sym, ap, ◌∙◌, last_or, QueueState, slots_of}
use Rattle.clock2q_queues.proofs.Sharing.{after_reads, small_slots-of}
use Rattle.clock2q_queues.proofs.queues.Queues.next_victim.Goals as goal

pub invariant_of-self : goal.invariant_of-self
invariant_of-self g c =
    let i = c.self.inside in
    (after_reads i.links i.small i.main c.self.invariant c.victim.new.links c.victim.ensures.links c.victim.ensures.accesses.0).queues

pub returns-else-victim_leaves-clause-tail : goal.returns-else-victim_leaves-clause-tail
returns-else-victim_leaves-clause-tail g c leaves =
    let i = c.self.inside in
    c.then_some.ensures ∙ c.self.invariant.small.ends
    ∙ sym (ap (λ z. last_or None z) (small_slots-of i.links i.small))
    ∙ ap (λ (q : QueueState). last_or None (slots_of q.small)) (c.self.view_is ∙ c.victim_leaves.ensures.queues)

use Rattle.clock2q_queues.proofs.Names.{arith, sym, ap, ◌∙◌, accesses_of, queues_shown}
use Rattle.clock2q_queues.proofs.Sharing.{after_small_left, small_slots-of}
use Rattle.clock2q_queues.proofs.Locations.{tail_there, tail_out, no_tail}
use Rattle.clock2q_queues.proofs.queues.Queues.take_tail.Goals as goal

pub unlink-requires-clause-present : goal.unlink-requires-clause-present
unlink-requires-clause-present g c =
    let i = c.self.inside in
    tail_there i.links i.small i.main c.self.invariant c.in_ok-tail.tail (sym (c.in_ok-tail.ensures ∙ c.self.invariant.small.ends))

pub invariant_of-self : goal.invariant_of-self
invariant_of-self g c =
    (after_small_left c.self.inside.links c.self.inside.small c.self.inside.main c.self.invariant c.unlink.new.links c.unlink.new.self c.in_ok-tail.tail
    c.unlink.ensures.whole c.unlink.ensures.freed c.unlink.ensures.entries c.unlink.ensures.others c.unlink.ensures.made c.unlink.ensures.window c.unlink.ensures.inspections).queues

pub returns-in_err-tail-clause-tail : goal.returns-in_err-tail-clause-tail
returns-in_err-tail-clause-tail g c = grind (arith, small_slots-of, c.from_residual.ensures, c.in_err-tail.ensures, c.self.invariant.small.ends, c.self.view_is)

pub returns-clause-tail : goal.returns-clause-tail
returns-clause-tail g c = grind (arith, small_slots-of, c.in_ok-tail.ensures, c.self.invariant.small.ends, c.self.view_is)

pub returns-in_err-tail-clause-queues : goal.returns-in_err-tail-clause-queues
returns-in_err-tail-clause-queues g c =
    let i = c.self.inside in
    rw (← c.self.view_is) (ap (λ z. record (queues_shown i.links i.small i.main) { small = z }) (no_tail i.links i.small (sym (c.in_err-tail.ensures ∙ c.self.invariant.small.ends))))

pub returns-clause-queues : goal.returns-clause-queues
returns-clause-queues g c =
    let i = c.self.inside in
    let left =
    after_small_left i.links i.small i.main c.self.invariant c.unlink.new.links c.unlink.new.self c.in_ok-tail.tail
    c.unlink.ensures.whole c.unlink.ensures.freed c.unlink.ensures.entries c.unlink.ensures.others c.unlink.ensures.made c.unlink.ensures.window c.unlink.ensures.inspections in
    rw (← c.self.view_is) (left.is ∙ ap (λ z. record (queues_shown i.links i.small i.main) { small = z; accesses = accesses_of c.unlink.new.links })
    (tail_out i.links i.small i.main c.self.invariant c.in_ok-tail.tail (sym (c.in_ok-tail.ensures ∙ c.self.invariant.small.ends))))

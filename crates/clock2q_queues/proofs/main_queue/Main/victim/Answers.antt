use Rattle.clock2q_queues.proofs.Names.{sym, ap, ◌∙◌, arith, is_linked, LinkState, bit_at, location_at}
use Rattle.clock2q_queues.proofs.NextVictim.{Walks-start, Walks-here, slot_linked}
use Rattle.clock2q_queues.proofs.main_queue.Main.victim.Goals as goal

pub loop-init : goal.loop-init
loop-init g c = grind (arith, Walks-start, c.requires, c.in_ok-hand.was)

pub look-hit-requires : goal.look-hit-requires
look-hit-requires g c =
    ap (λ (l : LinkState). is_linked (location_at l.records.items c.loop.slot)) c.loop.invariant.links
    ∙ slot_linked c.args.links.now c.args.self.now c.in_ok-hand.hand c.loop.invariant.walk c.loop-test.true

pub returns-then-not-hit-clause-victim : goal.returns-then-not-hit-clause-victim
returns-then-not-hit-clause-victim g c =
    let clear = ap (λ (l : LinkState). bit_at l c.loop.slot) (sym c.loop.invariant.links) ∙ sym c.look-hit.ensures.bit ∙ c.if-not-hit.true in
    Walks-here c.args.links.now c.args.self.now c.in_ok-hand.hand c.loop.invariant.walk c.loop-test.true c.requires c.in_ok-hand.was clear

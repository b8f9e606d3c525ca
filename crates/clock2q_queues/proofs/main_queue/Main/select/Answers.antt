use Rattle.std.proofs.Common.{arith}
use Rattle.clock2q_queues.proofs.Hand.{Swept, Swept-start, Swept-step, Selects-at, fewer_left, hand_linked, hand_linked_still, with_hand}
use Rattle.clock2q_queues.proofs.main_queue.Main.select.Goals as goal

pub loop-links-init : goal.loop-links-init
loop-links-init g c = grind (arith, with_hand, Swept, Swept-start, c.unwrap-hand.ensures, c.requires.whole)

pub inspect-requires : goal.inspect-requires
inspect-requires g c = hand_linked c.args.links.now c.args.self.now c.loop-links.links c.loop-links.hand c.loop-links.invariant

pub look-hand-requires : goal.look-hand-requires
look-hand-requires g c =
    let i = c.inspect.ensures in
    hand_linked_still c.args.links.now c.args.self.now c.loop-links.links c.loop-links.hand c.loop-links.invariant c.inspect.new.self i.bits i.rest i.counted

pub loop-links-smaller : goal.loop-links-smaller
loop-links-smaller g c = grind (arith, fewer_left, c.inspect.ensures, c.loop-links.invariant, c.loop-links-test.true, c.look-hand.ensures.counted, c.look-hand.ensures.entry)

pub loop-links-preserved : goal.loop-links-preserved
loop-links-preserved g c = grind (arith, Swept-step, c.inspect.ensures, c.loop-links.invariant, c.loop-links-test.true, c.look-hand.ensures.counted, c.look-hand.ensures.entry)

pub returns : goal.returns
returns g c = grind (arith, Selects-at, c.inspect.ensures, c.loop-links.invariant, c.loop-links-test.false)

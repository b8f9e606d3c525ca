use Rattle.clock2q_queues.proofs.Names.{◌≡◌, ◌++◌, drop, length, map, replicate, take, ap, ◌∙◌, arith, common_steps, length-map, no_slot, slot_of, mapped-same}
use Rattle.clock2q_queues.proofs.links.window.Window.clear.Goals as goal

pub returns-clause-items : goal.returns-clause-items
returns-clause-items g c =
    let old = c.self.inside.numbers in
    let numbers = c.loop-at.numbers in
    let many : length c.args.self.now.items ≡ length old.items = rw (← c.self.view_is) (length-map old.items slot_of) in
    let all : take old.len (numbers ++ drop (length numbers) old.items) ≡ replicate (length old.items) no_slot = grind (arith, common_steps, many, c.loop-at.invariant) in
    ap (λ z. map slot_of z) all ∙ rw many (mapped-same slot_of (length old.items) no_slot)

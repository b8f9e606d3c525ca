use Rattle.clock2q_queues.proofs.Names.{◌≡◌, ◌-◌, length, refl, arith, common_steps, length-map, with_gap, no_slot, slot_of}
use Rattle.clock2q_queues.proofs.Positions.{gap-mapped}
use Rattle.clock2q_queues.proofs.links.window.Window.with_gap.Goals as goal

pub returns : goal.returns
returns g c =
    let numbers = c.self.inside.numbers.items in
    let many : length c.args.self.now.items ≡ length numbers = rw (← c.self.view_is) (length-map numbers slot_of) in
    let all : c.extend_from_slice-2.new.self.items ≡ with_gap c.args.at (c.args.len - length numbers) no_slot numbers = grind (arith, common_steps, many) in
    rw (c.raise.ensures.raised, all, gap-mapped, many, ← c.self.view_is) refl

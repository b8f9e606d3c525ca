-- What the put hands over of another number is the block that leaves, and it is on the device if it was dirty.
use Rattle.std.proofs.Common.{true, sym, ap, ◌∙◌, arith}
use Rattle.std.specs.Prelude.{slice_set}
use Rattle.clock2q_uses.specs.WriteBack.{cleaned_if_left, written_if_left}
use Rattle.clock2q_uses.proofs.WritingBack.{handed_left, handed_within, blocks_put}
use Rattle.clock2q_uses.proofs.ReadingBack.{step_marked}
use Rattle.clock2q_uses.proofs.write_back.write_block.Goals as goal

pub write_left-requires-clause-within : goal.write_left-requires-clause-within
write_left-requires-clause-within g c =
    let e = c.put_evicting-handed.ensures in
    handed_within c.args.cache.now.machine c.facts.ensures.whole c.args.number c.args.block c.put_evicting-handed.result e.replaced e.evicted c.requires.in_step c.requires.within

pub returns-clause-device : goal.returns-clause-device
returns-clause-device g c =
    let e = c.put_evicting-handed.ensures in
    c.write_left.ensures.written
    ∙ ap (λ o. written_if_left c.args.dirty.now o c.args.device.now)
    (handed_left c.args.cache.now.machine c.facts.ensures.whole c.args.number c.args.block c.put_evicting-handed.result e.replaced e.evicted)

pub returns-clause-dirty : goal.returns-clause-dirty
returns-clause-dirty g c =
    let e = c.put_evicting-handed.ensures in
    ap (λ ds. slice_set ds c.args.number true)
    (c.write_left.ensures.dirty
    ∙ ap (λ o. cleaned_if_left o c.args.dirty.now)
    (handed_left c.args.cache.now.machine c.facts.ensures.whole c.args.number c.args.block c.put_evicting-handed.result e.replaced e.evicted))

pub returns-clause-blocks : goal.returns-clause-blocks
returns-clause-blocks g c =
    let e = c.put_evicting-handed.ensures in
    let m = c.args.cache.now.machine in
    rw (e.machine, c.write_left.ensures.written, handed_left m c.facts.ensures.whole c.args.number c.args.block c.put_evicting-handed.result e.replaced e.evicted)
    (blocks_put m c.facts.ensures.whole c.args.number c.args.block c.args.dirty.now c.args.device.now c.requires.in_step c.requires.within)

pub returns-clause-in_step : goal.returns-clause-in_step
returns-clause-in_step g c =
    let e = c.put_evicting-handed.ensures in
    let m = c.args.cache.now.machine in
    let left = handed_left m c.facts.ensures.whole c.args.number c.args.block c.put_evicting-handed.result e.replaced e.evicted in
    rw (e.machine, c.write_left.ensures.written, left)
    (step_marked m c.facts.ensures.whole c.args.dirty.now c.args.device.now c.requires.in_step c.args.number c.args.block c.write_left.new.dirty
    (λ k stays. c.write_left.ensures.clean k (λ r is. stays r (sym left ∙ is))) c.requires.within (omega (arith, c.write_left.ensures.marks, c.requires.marks, c.requires.within)))

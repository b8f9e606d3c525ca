-- A block of the cache is only hit, and another one is put as the device has it.
use Rattle.std.proofs.Common.{◌≡◌, eqb, Some, None, sym, ap, ◌∙◌, subst, rules}
use Rattle.std.proofs.lemmas.Option.{slice_get-get_or}
use Rattle.clock2q_machine.specs.Machine.{hit, value_of}
use Rattle.clock2q_machine.specs.Steps.{put}
use Rattle.clock2q_uses.specs.WriteBack.{blocks, IsInStep}
use Rattle.clock2q_uses.proofs.ReadingBack.{step_hit, blocks_hit, had_machine, had_device, had_dirty, seen_there, seen_stored, missed_within, missed_blocks, missed_machine, missed_device, missed_dirty, missed_in_step}
use Rattle.clock2q_uses.proofs.write_back.read_block.Goals as goal

pub returns-in-Some-clause-block : goal.returns-in-Some-clause-block
returns-in-Some-clause-block g c =
    seen_there c.args.cache.now.machine c.facts.ensures.whole c.args.dirty.now c.args.device.now c.requires.in_step c.args.number c.in-Some.block.now (sym c.in-Some.ensures.value) c.requires.within

pub returns-in-Some-clause-blocks : goal.returns-in-Some-clause-blocks
returns-in-Some-clause-blocks g c =
    let after : c.get.follows.lender-at-none.machine ≡ hit (eqb c.args.number) c.args.cache.now.machine = search rules in
    ap (λ z. blocks z c.args.device.now) after ∙ blocks_hit c.args.cache.now.machine c.facts.ensures.whole c.args.dirty.now c.args.device.now c.requires.in_step c.args.number

pub returns-in-Some-clause-machine : goal.returns-in-Some-clause-machine
returns-in-Some-clause-machine g c =
    let after : c.get.follows.lender-at-none.machine ≡ hit (eqb c.args.number) c.args.cache.now.machine = search rules in
    after ∙ had_machine c.args.cache.now.machine c.facts.ensures.whole c.args.dirty.now c.args.device.now c.requires.in_step c.args.number c.in-Some.block.now (sym c.in-Some.ensures.value)

pub returns-in-Some-clause-device : goal.returns-in-Some-clause-device
returns-in-Some-clause-device g c =
    had_device c.args.cache.now.machine c.facts.ensures.whole c.args.dirty.now c.args.device.now c.requires.in_step c.args.number c.in-Some.block.now (sym c.in-Some.ensures.value)

pub returns-in-Some-clause-dirty : goal.returns-in-Some-clause-dirty
returns-in-Some-clause-dirty g c =
    had_dirty c.args.cache.now.machine c.facts.ensures.whole c.args.dirty.now c.args.device.now c.requires.in_step c.args.number c.in-Some.block.now (sym c.in-Some.ensures.value)

pub returns-in-Some-clause-in_step : goal.returns-in-Some-clause-in_step
returns-in-Some-clause-in_step g c =
    let after : c.get.follows.lender-at-none.machine ≡ hit (eqb c.args.number) c.args.cache.now.machine = search rules in
    subst (λ z. IsInStep z c.args.dirty.now c.args.device.now) (sym after) (step_hit c.args.cache.now.machine c.facts.ensures.whole c.args.dirty.now c.args.device.now c.requires.in_step c.args.number)

pub write_left-requires-clause-within : goal.write_left-requires-clause-within
write_left-requires-clause-within g c =
    let m = c.args.cache.now.machine in
    let n = c.get.follows.lender-at-none.machine in
    let e = c.put_evicting-handed.ensures in
    let block = c.index-device-number.result in
    let after : n ≡ hit (eqb c.args.number) m = search rules in
    let absent : value_of (eqb c.args.number) m ≡ None = search rules in
    let stored = slice_get-get_or c.args.device.now c.args.number block c.requires.within ∙ ap Some (sym c.index-device-number.is) in
    missed_within m c.facts.ensures.whole c.args.dirty.now c.args.device.now c.requires.in_step c.args.number c.requires.within
    block absent stored n after c.put_evicting-handed.result e.replaced e.evicted

pub returns-clause-block : goal.returns-clause-block
returns-clause-block g c =
    let absent : value_of (eqb c.args.number) c.args.cache.now.machine ≡ None = search rules in
    let stored = slice_get-get_or c.args.device.now c.args.number c.index-device-number.result c.requires.within ∙ ap Some (sym c.index-device-number.is) in
    seen_stored c.args.cache.now.machine c.facts.ensures.whole c.args.dirty.now c.args.device.now c.requires.in_step c.args.number c.index-device-number.result absent stored

pub returns-clause-blocks : goal.returns-clause-blocks
returns-clause-blocks g c =
    let m = c.args.cache.now.machine in
    let n = c.get.follows.lender-at-none.machine in
    let e = c.put_evicting-handed.ensures in
    let block = c.index-device-number.result in
    let after : n ≡ hit (eqb c.args.number) m = search rules in
    let absent : value_of (eqb c.args.number) m ≡ None = search rules in
    let stored = slice_get-get_or c.args.device.now c.args.number block c.requires.within ∙ ap Some (sym c.index-device-number.is) in
    ap (λ z. blocks z c.write_left.new.device) e.machine ∙ ap (λ d. blocks (put (eqb c.args.number) c.args.number block n) d) c.write_left.ensures.written
    ∙ missed_blocks m c.facts.ensures.whole c.args.dirty.now c.args.device.now c.requires.in_step c.args.number c.requires.within
    block absent stored n after c.put_evicting-handed.result e.replaced e.evicted

pub returns-clause-in_step : goal.returns-clause-in_step
returns-clause-in_step g c =
    let m = c.args.cache.now.machine in
    let n = c.get.follows.lender-at-none.machine in
    let e = c.put_evicting-handed.ensures in
    let block = c.index-device-number.result in
    let after : n ≡ hit (eqb c.args.number) m = search rules in
    let absent : value_of (eqb c.args.number) m ≡ None = search rules in
    let stored = slice_get-get_or c.args.device.now c.args.number block c.requires.within ∙ ap Some (sym c.index-device-number.is) in
    subst (λ z. IsInStep z c.write_left.new.dirty c.write_left.new.device) (sym e.machine)
    (subst (λ d. IsInStep (put (eqb c.args.number) c.args.number block n) c.write_left.new.dirty d) (sym c.write_left.ensures.written)
    (missed_in_step m c.facts.ensures.whole c.args.dirty.now c.args.device.now c.requires.in_step c.args.number c.requires.within
    block absent stored n after c.put_evicting-handed.result e.replaced e.evicted c.write_left.new.dirty c.write_left.ensures.clean))

pub returns-clause-machine : goal.returns-clause-machine
returns-clause-machine g c =
    let m = c.args.cache.now.machine in
    let n = c.get.follows.lender-at-none.machine in
    let e = c.put_evicting-handed.ensures in
    let block = c.index-device-number.result in
    let after : n ≡ hit (eqb c.args.number) m = search rules in
    let absent : value_of (eqb c.args.number) m ≡ None = search rules in
    let stored = slice_get-get_or c.args.device.now c.args.number block c.requires.within ∙ ap Some (sym c.index-device-number.is) in
    e.machine ∙ missed_machine m c.facts.ensures.whole c.args.dirty.now c.args.device.now c.requires.in_step c.args.number c.requires.within
    block absent stored n after c.put_evicting-handed.result e.replaced e.evicted

pub returns-clause-device : goal.returns-clause-device
returns-clause-device g c =
    let m = c.args.cache.now.machine in
    let n = c.get.follows.lender-at-none.machine in
    let e = c.put_evicting-handed.ensures in
    let block = c.index-device-number.result in
    let after : n ≡ hit (eqb c.args.number) m = search rules in
    let absent : value_of (eqb c.args.number) m ≡ None = search rules in
    let stored = slice_get-get_or c.args.device.now c.args.number block c.requires.within ∙ ap Some (sym c.index-device-number.is) in
    c.write_left.ensures.written
    ∙ missed_device m c.facts.ensures.whole c.args.dirty.now c.args.device.now c.requires.in_step c.args.number c.requires.within
    block absent stored n after c.put_evicting-handed.result e.replaced e.evicted

pub returns-clause-dirty : goal.returns-clause-dirty
returns-clause-dirty g c =
    let m = c.args.cache.now.machine in
    let n = c.get.follows.lender-at-none.machine in
    let e = c.put_evicting-handed.ensures in
    let block = c.index-device-number.result in
    let after : n ≡ hit (eqb c.args.number) m = search rules in
    let absent : value_of (eqb c.args.number) m ≡ None = search rules in
    let stored = slice_get-get_or c.args.device.now c.args.number block c.requires.within ∙ ap Some (sym c.index-device-number.is) in
    c.write_left.ensures.dirty
    ∙ missed_dirty m c.facts.ensures.whole c.args.dirty.now c.args.device.now c.requires.in_step c.args.number c.requires.within
    block absent stored n after c.put_evicting-handed.result e.replaced e.evicted

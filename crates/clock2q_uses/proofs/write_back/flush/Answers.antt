-- The entries that are left are written one after another, and at the end none is left.
use Rattle.std.proofs.Common.{◌≡◌, ℕ, List, map, length, arith, refl, sym, ap, ◌∙◌, subst}
use Rattle.clock2q_uses.specs.WriteBack.{blocks, flushed, number_and_block, IsInStep}
use Rattle.clock2q_uses.proofs.Flushing.{one_flushed, none_flushed, first_within, entries_within, all_flushed, blocks_flushed, in_step_flushed}
use Rattle.clock2q_uses.proofs.write_back.flush.Goals as goal

pub loop-number-init : goal.loop-number-init
loop-number-init g c =
    let is = c.into_iter-number-iterator.ensures.into_iter_gives ∙ c.iter-number-items.ensures.values in
    record {
      written = ap (λ (es : List (ℕ × ℕ × g.row.T.Denot)). flushed c.args.dirty.now (map number_and_block es) c.args.device.now) is;
      within = entries_within c.args.cache.now.machine c.facts.ensures.whole c.args.dirty.now c.args.device.now c.requires.in_step c.into_iter-number-iterator.result is;
      as_many = refl;
    }

pub write_if_dirty-requires-clause-within : goal.write_if_dirty-requires-clause-within
write_if_dirty-requires-clause-within g c =
    let inv = c.loop-number.invariant in
    let first = first_within {T = g.row.T.Denot} c.args.dirty.now c.loop-number.number-iterator c.next.new.self (length c.args.device.now)
    (c.in-Some.number.now, c.in-Some.field-0-1, c.in-Some.block.now) c.in-Some.ensures.steps inv.within in
    omega (arith, first.0, inv.as_many)

pub loop-number-preserved : goal.loop-number-preserved
loop-number-preserved g c =
    let inv = c.loop-number.invariant in
    record {
      written = one_flushed {T = g.row.T.Denot} c.args.dirty.now c.loop-number.number-iterator c.next.new.self
          (c.in-Some.number.now, c.in-Some.field-0-1, c.in-Some.block.now) c.in-Some.ensures.steps c.loop-number.device c.write_if_dirty.new.device c.write_if_dirty.ensures.written
          ∙ inv.written;
      within = (first_within {T = g.row.T.Denot} c.args.dirty.now c.loop-number.number-iterator c.next.new.self (length c.args.device.now)
          (c.in-Some.number.now, c.in-Some.field-0-1, c.in-Some.block.now) c.in-Some.ensures.steps inv.within).1;
      as_many = c.write_if_dirty.ensures.as_many ∙ inv.as_many;
    }

pub returns-clause-device : goal.returns-clause-device
returns-clause-device g c =
    sym (none_flushed {T = g.row.T.Denot} c.args.dirty.now c.loop-number.number-iterator c.next.new.self c.in-None.ensures.steps.0 c.loop-number.device)
    ∙ c.loop-number.invariant.written ∙ all_flushed c.args.cache.now.machine c.facts.ensures.whole c.args.dirty.now c.args.device.now c.requires.in_step

pub returns-clause-blocks : goal.returns-clause-blocks
returns-clause-blocks g c =
    let is : c.loop-number.device ≡ blocks c.args.cache.now.machine c.args.device.now =
    sym (none_flushed {T = g.row.T.Denot} c.args.dirty.now c.loop-number.number-iterator c.next.new.self c.in-None.ensures.steps.0 c.loop-number.device)
    ∙ c.loop-number.invariant.written ∙ all_flushed c.args.cache.now.machine c.facts.ensures.whole c.args.dirty.now c.args.device.now c.requires.in_step in
    ap (λ (d : List g.row.T.Denot). blocks c.args.cache.now.machine d) is
    ∙ blocks_flushed c.args.cache.now.machine c.args.dirty.now c.fill.new.self c.args.device.now c.requires.in_step

pub returns-clause-in_step : goal.returns-clause-in_step
returns-clause-in_step g c =
    let is : c.loop-number.device ≡ blocks c.args.cache.now.machine c.args.device.now =
    sym (none_flushed {T = g.row.T.Denot} c.args.dirty.now c.loop-number.number-iterator c.next.new.self c.in-None.ensures.steps.0 c.loop-number.device)
    ∙ c.loop-number.invariant.written ∙ all_flushed c.args.cache.now.machine c.facts.ensures.whole c.args.dirty.now c.args.device.now c.requires.in_step in
    subst (λ (d : List g.row.T.Denot). IsInStep c.args.cache.now.machine c.fill.new.self d) (sym is)
    (in_step_flushed c.args.cache.now.machine c.args.dirty.now c.fill.new.self c.args.device.now c.requires.in_step)

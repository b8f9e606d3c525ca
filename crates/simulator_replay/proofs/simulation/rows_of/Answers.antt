use Rattle.std.proofs.Common.{◌∙◌, ap, sym, subst, length, map, rules, arith}
use Rattle.std.specs.NonZero.{non_zero_usize_get}
use Rattle.std.proofs.lemmas.List.{take_all}
use Rattle.simulator_replay.specs.ExpectedRows.{IsExpected}
use Rattle.simulator_replay.specs.RowBytes.{HasBytes}
use Rattle.simulator_replay.specs.Rows.{IsRow}
use Rattle.simulator_traces.specs.Trace.{sizes_of}
use Rattle.simulator_interface.proofs.Zipped.{zipped-more, All-more}
use Rattle.simulator_replay.proofs.simulation.rows_of.Goals as goal

pub loop-index-preserved : goal.loop-index-preserved
loop-index-preserved g c =
    let row = c.in_ok-row.row in
    let is = c.in_ok-row.ensures.row in
    record {
      capacities = zipped-more (λ row. non_zero_usize_get row.capacity) non_zero_usize_get c.loop-index.rows.items row c.push.new.self.items c.in_ok-rooms.rooms.items c.loop-index.index _
          (omega (arith, c.loop-index-test.true, c.len-index-end.ensures)) c.in-Ok.ensures.items c.loop-index.invariant.capacities (is.capacity ∙ ap non_zero_usize_get c.index-capacity.ensures);
      bytes = All-more (λ row. HasBytes c.args.shares c.args.trace.now.numbers (sizes_of c.args.trace.now) (non_zero_usize_get row.capacity) c.args.skipped (length c.args.trace.now.numbers) row)
          c.loop-index.rows.items row c.push.new.self.items c.in-Ok.ensures.items c.loop-index.invariant.bytes
          (subst (λ room. HasBytes c.args.shares c.args.trace.now.numbers
          (sizes_of c.args.trace.now) room c.args.skipped (length c.args.trace.now.numbers) row)
          (sym is.capacity) c.in_ok-row.ensures.bytes);
      expected = All-more (λ row. IsExpected c.args.trace.now row) c.loop-index.rows.items row c.push.new.self.items c.in-Ok.ensures.items c.loop-index.invariant.expected c.in_ok-row.ensures.expected;
      each = All-more (λ row. IsRow c.args.policies.now c.args.shares c.args.skipped c.args.trace.now.numbers (non_zero_usize_get row.capacity) row) c.loop-index.rows.items row c.push.new.self.items
          c.in-Ok.ensures.items c.loop-index.invariant.each (subst (λ room. IsRow c.args.policies.now c.args.shares c.args.skipped c.args.trace.now.numbers room row) (sym is.capacity) is);
    }

pub returns : goal.returns
returns g c = record {
  rows = record {
    capacities = c.loop-index.invariant.capacities
        ∙ ap (map non_zero_usize_get) (take_all c.loop-index.index c.in_ok-rooms.rooms.items
        (omega (arith, c.loop-index-test.false, c.len-index-end.ensures)))
        ∙ c.in_ok-rooms.ensures.keys;
    each = c.loop-index.invariant.each;
  };
  bytes = c.loop-index.invariant.bytes;
  expected = c.loop-index.invariant.expected;
  devices = search rules;
}

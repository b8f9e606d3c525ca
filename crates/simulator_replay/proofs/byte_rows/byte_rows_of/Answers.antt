use Rattle.std.proofs.Common.{◌∙◌, ap, map, rules}
use Rattle.std.specs.NonZero.{non_zero_usize_get}
use Rattle.std.proofs.lemmas.List.{take_all}
use Rattle.simulator_replay.specs.ByteRows.{IsByteRow}
use Rattle.simulator_replay.specs.ExpectedRows.{IsExpected}
use Rattle.simulator_traces.specs.Trace.{sizes_of}
use Rattle.simulator_interface.proofs.Zipped.{zipped-more, All-more}
use Rattle.simulator_replay.proofs.byte_rows.byte_rows_of.Goals as goal

pub loop-capacity-preserved : goal.loop-capacity-preserved
loop-capacity-preserved g c = record {
  capacities = zipped-more (λ row. non_zero_usize_get row.capacity) non_zero_usize_get
      c.loop-capacity.rows.items c.in_ok-row.row c.push.new.self.items c.args.capacities.now
      c.loop-capacity.capacity-index _
      c.loop-capacity-test.true c.in-Ok.ensures.items c.loop-capacity.invariant.capacities (ap non_zero_usize_get (c.in_ok-row.ensures.capacity ∙ c.capacity-item.is));
  expected = All-more (λ row. IsExpected c.args.trace.now row) c.loop-capacity.rows.items c.in_ok-row.row c.push.new.self.items
      c.in-Ok.ensures.items c.loop-capacity.invariant.expected c.in_ok-row.ensures.expected;
  each = All-more (IsByteRow c.args.skipped c.args.trace.now.numbers (sizes_of c.args.trace.now) c.args.policies.now) c.loop-capacity.rows.items c.in_ok-row.row c.push.new.self.items
      c.in-Ok.ensures.items c.loop-capacity.invariant.each c.in_ok-row.ensures.row;
}

pub returns : goal.returns
returns g c = record {
  rows = record {
    capacities = c.loop-capacity.invariant.capacities ∙ ap (map non_zero_usize_get) (take_all c.loop-capacity.capacity-index c.args.capacities.now c.loop-capacity-test.false);
    each = c.loop-capacity.invariant.each;
  };
  expected = c.loop-capacity.invariant.expected;
  devices = search rules;
}

use Rattle.std.proofs.Common.{◌∙◌, ap, map, rules}
use Rattle.std.specs.NonZero.{non_zero_usize_get}
use Rattle.std.proofs.lemmas.List.{take_all}
use Rattle.simulator_replay.specs.ExpectedRows.{WindowsAreExpected}
use Rattle.simulator_replay.specs.RowBytes.{WindowsHaveBytes}
use Rattle.simulator_traces.specs.Trace.{sizes_of}
use Rattle.simulator_replay.specs.Windows.{AreWindows}
use Rattle.simulator_interface.proofs.Zipped.{zipped-more, All-more}
use Rattle.simulator_replay.proofs.window.all_windows_of.Goals as goal

pub loop-row-preserved : goal.loop-row-preserved
loop-row-preserved g c = record {
  capacities = zipped-more (λ windows. non_zero_usize_get windows.capacity) (λ row. non_zero_usize_get row.capacity) c.loop-row.all.items
      (record { capacity = c.row-item.result.capacity; windows = c.in_ok-windows.windows }) c.push.new.self.items c.args.rows.now c.loop-row.row-index c.row-item.result
      c.loop-row-test.true c.in-Ok.ensures.items c.loop-row.invariant.capacities (ap (λ row. non_zero_usize_get row.capacity) c.row-item.is);
  bytes = All-more (λ windows. WindowsHaveBytes c.args.shares c.args.trace.now.numbers (sizes_of c.args.trace.now) (non_zero_usize_get windows.capacity) windows.windows.items)
      c.loop-row.all.items (record { capacity = c.row-item.result.capacity; windows = c.in_ok-windows.windows }) c.push.new.self.items
      c.in-Ok.ensures.items c.loop-row.invariant.bytes c.in_ok-windows.ensures.bytes;
  expected = All-more (λ windows. WindowsAreExpected c.args.trace.now windows.windows.items)
      c.loop-row.all.items (record { capacity = c.row-item.result.capacity; windows = c.in_ok-windows.windows }) c.push.new.self.items
      c.in-Ok.ensures.items c.loop-row.invariant.expected c.in_ok-windows.ensures.expected;
  each = All-more (λ windows. AreWindows c.args.policies.now c.args.shares c.args.trace.now.numbers
      c.args.skipped (non_zero_usize_get windows.capacity)
      (non_zero_usize_get c.args.size) windows.windows.items)
      c.loop-row.all.items (record { capacity = c.row-item.result.capacity; windows = c.in_ok-windows.windows }) c.push.new.self.items
      c.in-Ok.ensures.items c.loop-row.invariant.each c.in_ok-windows.ensures.windows;
}

pub returns : goal.returns
returns g c = record {
  windows = record {
    capacities = c.loop-row.invariant.capacities ∙ ap (map (λ row. non_zero_usize_get row.capacity)) (take_all c.loop-row.row-index c.args.rows.now c.loop-row-test.false);
    each = c.loop-row.invariant.each;
  };
  bytes = c.loop-row.invariant.bytes;
  expected = c.loop-row.invariant.expected;
  devices = search rules;
}

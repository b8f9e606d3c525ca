use Rattle.std.proofs.Common.{◌≡◌, ◌∙◌, ◌+◌, ◌-◌, ap, subst, refl, length, min, arith, rules}
use Rattle.std.specs.NonZero.{non_zero_usize_get}
use Rattle.simulator_replay.specs.ExpectedRows.{IsExpected}
use Rattle.simulator_replay.specs.RowBytes.{HasBytes}
use Rattle.simulator_traces.specs.Trace.{expected_of, sizes_of}
use Rattle.simulator_replay.specs.Windows.{AreInTurn}
use Rattle.simulator_replay.proofs.Replaying.{all_within, bytes_are, row_is}
use Rattle.simulator_replay.proofs.WindowByWindow.{one_more}
use Rattle.simulator_interface.proofs.Zipped.{All-more}
use Rattle.simulator_replay.proofs.window.windows_of.Goals as goal

pub row_between-requires-clause-within : goal.row_between-requires-clause-within
row_between-requires-clause-within g c =
    let numbers = c.args.trace.now.numbers in
    let long : length c.numbers-accesses.result.now ≡ length numbers = ap length c.numbers-accesses.ensures.numbers in
    all_within c.args.policies.now c.args.shares numbers (non_zero_usize_get c.args.capacity) c.in_ok-replays.replays.items c.deref.result.now (c.loop-first.first + c.min-count.result)
    c.deref.ensures.value c.in_ok-replays.ensures.replays (omega (arith, c.min-count.ensures, c.loop-first-test.true, long))

pub loop-first-preserved : goal.loop-first-preserved
loop-first-preserved g c =
    let numbers = c.args.trace.now.numbers in
    let size = non_zero_usize_get c.args.size in
    let first = c.loop-first.first in
    let long : length c.numbers-accesses.result.now ≡ length numbers = ap length c.numbers-accesses.ensures.numbers in
    let count : c.min-count.result ≡ min size (length numbers - first) = omega (arith, c.min-count.ensures, c.get.ensures.value, long) in
    let row = row_is c.args.policies.now c.args.shares numbers (non_zero_usize_get c.args.capacity) (omega (arith, c.args.capacity.ok)) c.in_ok-replays.replays.items
    c.deref.result.now first (first + c.min-count.result) c.sizes-sizes.result.now c.in_ok-row.row
    c.deref.ensures.value c.in_ok-replays.ensures.replays (omega arith) (omega (arith, c.loop-first-test.true, count, long))
    c.in_ok-row.ensures.hits (ap non_zero_usize_get c.in_ok-row.ensures.capacity) c.in_ok-row.ensures.accesses in
    let counts : c.min-count.result ≡ c.in_ok-row.row.accesses = omega (arith, c.in_ok-row.ensures.accesses) in
    let next = one_more c.args.policies.now c.args.shares numbers (non_zero_usize_get c.args.capacity) size (min c.args.skipped (length numbers)) first c.min-count.result
    c.loop-first.windows.items c.push.new.self.items (record { first = first; row = c.in_ok-row.row }) refl (omega (arith, c.loop-first-test.true, long)) count row
    c.in-Ok.ensures.items c.loop-first.invariant.in_turn c.loop-first.invariant.each in
    record {
      within = omega (arith, c.loop-first-test.true, count, long);
      in_turn = next.in_turn;
      bytes = All-more (λ window. HasBytes c.args.shares numbers (sizes_of c.args.trace.now) (non_zero_usize_get c.args.capacity) window.first (window.first + window.row.accesses) window.row)
          c.loop-first.windows.items (record { first = first; row = c.in_ok-row.row }) c.push.new.self.items c.in-Ok.ensures.items c.loop-first.invariant.bytes
          (bytes_are c.args.policies.now c.args.shares numbers (non_zero_usize_get c.args.capacity) c.in_ok-replays.replays.items c.deref.result.now first (first + c.min-count.result)
          c.sizes-sizes.result.now (sizes_of c.args.trace.now) c.in_ok-row.row c.deref.ensures.value c.in_ok-replays.ensures.replays c.sizes-sizes.ensures.sizes (omega (arith, c.in_ok-row.ensures.accesses))
          c.in_ok-row.ensures.bytes c.in_ok-row.ensures.hits);
      expected = All-more (λ window. IsExpected c.args.trace.now window.row)
          c.loop-first.windows.items (record { first = first; row = c.in_ok-row.row }) c.push.new.self.items c.in-Ok.ensures.items c.loop-first.invariant.expected
          (c.in_ok-row.ensures.expected ∙ c.expected-expected.ensures.expected ∙ ap (expected_of c.args.trace.now) counts);
      each = next.each;
    }

pub returns : goal.returns
returns g c =
    let long : length c.numbers-accesses.result.now ≡ length c.args.trace.now.numbers = ap length c.numbers-accesses.ensures.numbers in
    record {
      windows = record {
        in_turn = subst (AreInTurn (min c.args.skipped (length c.args.trace.now.numbers)) c.loop-first.windows.items)
            (omega (arith, c.loop-first.invariant.within, c.loop-first-test.false, long)) c.loop-first.invariant.in_turn;
        each = c.loop-first.invariant.each;
      };
      bytes = c.loop-first.invariant.bytes;
      expected = c.loop-first.invariant.expected;
      devices = search rules;
    }

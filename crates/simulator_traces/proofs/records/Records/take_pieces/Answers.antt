use Rattle.std.proofs.Common.{◌≡◌, ◌∙◌, ◌++◌, ℕ, List, Err, ap}
use Rattle.std.proofs.lemmas.Result.{err_from_is_err_and}
use Rattle.simulator_traces.specs.Formats.{accesses_after}
use Rattle.simulator_traces.specs.Reading.{between}
use Rattle.simulator_traces.proofs.RecordByRecord.{bad-by, bytes-done, piece-bad}
use Rattle.simulator_traces.proofs.records.Records.take_pieces.Goals as goal

pub returns-in_err-end_record-clause-bad : goal.returns-in_err-end_record-clause-bad
returns-in_err-end_record-clause-bad g c =
    let self = c.args.self.now in
    let was = c.loop-byte.self in
    let new = c.push.new.self in
    let p = err_from_is_err_and c.from_residual-in_err-end_record.result c.from_residual-in_err-end_record.ensures.1 in
    rw (p.1, p.2)
    (bad-by c.in_err-end_record.field-0.0
    (λ (none : (next : List ℕ) → accesses_after new.format new.count (new.begun.items ++ (between new.format ++ next)) ≡ Err c.in_err-end_record.field-0.0).
    piece-bad self.format new.format self.trace.accesses was.trace.accesses self.count was.count new.count self.begun.items was.begun.items new.begun.items c.args.bytes.now c.loop-byte.byte-index
    c.loop-byte-test.true (c.in_ok-push.ensures.format ∙ c.loop-byte.invariant.format) c.requires.pieces c.in_ok-push.ensures.count c.in_ok-push.ensures.begun c.loop-byte.invariant.same c.in_err-end_record.field-0.0 none)
    c.in_err-end_record.ensures.bad)

pub returns-in_err-push-clause-sample : goal.returns-in_err-push-clause-sample
returns-in_err-push-clause-sample g c = ap (λ t. t.sample) c.in_err-push.ensures.trace ∙ c.loop-byte.invariant.sample

pub returns-in_err-push-clause-sized : goal.returns-in_err-push-clause-sized
returns-in_err-push-clause-sized g c = ap (λ t. t.is_sized) c.in_err-push.ensures.trace ∙ c.loop-byte.invariant.sized

pub returns-in_err-end_record-clause-sample : goal.returns-in_err-end_record-clause-sample
returns-in_err-end_record-clause-sample g c = c.in_err-end_record.ensures.sample ∙ ap (λ t. t.sample) c.in_ok-push.ensures.trace ∙ c.loop-byte.invariant.sample

pub returns-in_err-end_record-clause-sized : goal.returns-in_err-end_record-clause-sized
returns-in_err-end_record-clause-sized g c = c.in_err-end_record.ensures.sized ∙ ap (λ t. t.is_sized) c.in_ok-push.ensures.trace ∙ c.loop-byte.invariant.sized

pub returns-clause-taken : goal.returns-clause-taken
returns-clause-taken g c =
    let was = c.loop-byte.self in
    record {
      begun = c.loop-byte.invariant.begun;
      same = λ next. c.loop-byte.invariant.same next
          ∙ bytes-done c.args.self.now.format was.trace.accesses was.count was.begun.items
          c.args.bytes.now c.loop-byte.byte-index c.loop-byte-test.false next;
    }

use Rattle.std.proofs.Common.{◌≡◌, ◌∙◌, ◌+◌, ◌++◌, ℕ, List, [], Err, arith, append_assoc, drop, get_or, ap, sym, subst}
use Rattle.std.proofs.lemmas.Bool.{ne_eqb}
use Rattle.std.proofs.lemmas.List.{take_rest}
use Rattle.std.proofs.lemmas.List.Edits.{between_none}
use Rattle.std.proofs.lemmas.Result.{err_from_is_err_and}
use Rattle.std.specs.List.{between as part_of}
use Rattle.simulator_traces.specs.Formats.{accesses_after}
use Rattle.simulator_traces.specs.Reading.{HasNoEnd, between, joined}
use Rattle.simulator_traces.proofs.LineByLine.{line-bad, line-ended, line-left, line-more}
use Rattle.simulator_traces.proofs.RecordByRecord.{Ends, bad-by, begun-line, no-line, ok-result}
use Rattle.simulator_traces.proofs.records.Records.take_lines.Goals.{then-bytes-index-eq10+in_ok-end_line, else-bytes-index-eq10}
use Rattle.simulator_traces.proofs.records.Records.take_lines.Goals as goal

pub returns-in_err-end_line-clause-bad : goal.returns-in_err-end_line-clause-bad
returns-in_err-end_line-clause-bad g c =
    let self = c.args.self.now in
    let was = c.loop-index.self in
    let line = was.begun.items ++ part_of c.loop-index.start c.loop-index.index c.args.bytes.now in
    let p = err_from_is_err_and c.from_residual.result c.from_residual.ensures.1 in
    rw (p.1, p.2)
    (bad-by c.in_err-end_line.field-0.0
    (λ (none : (next : List ℕ) → accesses_after was.format was.count (line ++ (between was.format ++ next)) ≡ Err c.in_err-end_line.field-0.0).
    line-bad was.begun.items c.args.bytes.now c.loop-index.start c.loop-index.index c.loop-index.invariant.from
    self.format c.requires.lines c.loop-index-test.true c.if-bytes-index-eq10.true was.trace.accesses was.count
    was.format self.trace.accesses self.count self.begun.items c.loop-index.invariant.format c.loop-index.invariant.same c.in_err-end_line.field-0.0 none)
    c.in_err-end_line.ensures.bad)

pub returns-clause-taken : goal.returns-clause-taken
returns-clause-taken g c =
    let self = c.args.self.now in
    let was = c.loop-index.self in
    let bytes = c.args.bytes.now in
    let start = c.loop-index.start in
    let new = c.extend.new.self in
    let line : HasNoEnd (was.begun.items ++ drop start bytes) = line-left was.begun.items bytes start c.loop-index.index c.loop-index-test.false c.loop-index.invariant.line in
    ok-result c.extend.result
    (λ (longer : new.begun.items ≡ was.begun.items ++ drop start bytes). record {
      begun = begun-line self.format new.begun.items c.requires.lines (subst HasNoEnd (sym longer) line);
      same = λ next. c.loop-index.invariant.same next
          ∙ ap (λ xs. joined was.trace.accesses (accesses_after self.format was.count xs)) (sym (append_assoc was.begun.items (drop start bytes) next))
          ∙ ap (λ xs. joined was.trace.accesses (accesses_after self.format was.count (xs ++ next))) (sym longer)
          ∙ ap (λ t. joined t.accesses (accesses_after self.format was.count (new.begun.items ++ next))) (sym c.extend.ensures.trace)
          ∙ ap (λ n. joined new.trace.accesses (accesses_after self.format n (new.begun.items ++ next))) (sym c.extend.ensures.count);
    })
    (rw (take_rest bytes start) at c.extend.ensures.begun)

pub loop-index-preserved : goal.loop-index-preserved
loop-index-preserved g c =
    let format = c.args.self.now.format in
    let was = c.loop-index.self in
    let i = c.loop-index.index in
    let start = c.loop-index.start in
    let bytes = c.args.bytes.now in
    let line = was.begun.items ++ part_of start i bytes in
    elim c.if-bytes-index-eq10.branch [
      | then-bytes-index-eq10+in_ok-end_line w ↦
          let new = w.end_line.new.self in
          let ends : Ends was.trace.accesses new.trace.accesses was.count new.count line format =
          subst (Ends was.trace.accesses new.trace.accesses was.count new.count line) c.loop-index.invariant.format w.in_ok-end_line.ensures.ended in
          let none : c.if-bytes-index-eq10.self.begun.items ++ part_of c.if-bytes-index-eq10.start (i + 1) bytes ≡ [] =
          ap (λ s. s.begun.items ++ part_of c.if-bytes-index-eq10.start (i + 1) bytes) w.self-is
          ∙ ap (λ b. b ++ part_of c.if-bytes-index-eq10.start (i + 1) bytes) w.in_ok-end_line.ensures.begun
          ∙ ap (λ n. part_of n (i + 1) bytes) w.start-is ∙ between_none bytes (i + 1) in
          record {
            from = omega (arith, w.start-is);
            format = ap (λ s. s.format) w.self-is ∙ w.in_ok-end_line.ensures.format ∙ c.loop-index.invariant.format;
            sample = ap (λ s. s.trace.sample) w.self-is ∙ w.in_ok-end_line.ensures.sample ∙ c.loop-index.invariant.sample;
            sized = ap (λ s. s.trace.is_sized) w.self-is ∙ w.in_ok-end_line.ensures.sized ∙ c.loop-index.invariant.sized;
            line = subst HasNoEnd (sym none) no-line;
            same = λ next. c.loop-index.invariant.same next
                ∙ line-ended was.begun.items bytes start i c.loop-index.invariant.from format c.requires.lines c.loop-index-test.true
                w.if-bytes-index-eq10.true was.trace.accesses was.count new.trace.accesses new.count new.begun.items w.in_ok-end_line.ensures.begun ends next
                ∙ ap (λ s. joined s.trace.accesses (accesses_after format s.count (s.begun.items ++ (drop (i + 1) bytes ++ next)))) (sym w.self-is)
                ∙ ap (λ n. joined c.if-bytes-index-eq10.self.trace.accesses (accesses_after format c.if-bytes-index-eq10.self.count (c.if-bytes-index-eq10.self.begun.items ++ (drop n bytes ++ next)))) (sym w.start-is);
          }
      | else-bytes-index-eq10 w ↦
          let longer : HasNoEnd (was.begun.items ++ part_of start (i + 1) bytes) =
          line-more was.begun.items bytes start i c.loop-index.invariant.from c.loop-index-test.true c.loop-index.invariant.line (ne_eqb (get_or bytes i 0) 10 w.if-bytes-index-eq10.false) in
          record {
            from = omega (arith, w.start-is, c.loop-index.invariant.from);
            format = ap (λ s. s.format) w.self-is ∙ c.loop-index.invariant.format;
            sample = ap (λ s. s.trace.sample) w.self-is ∙ c.loop-index.invariant.sample;
            sized = ap (λ s. s.trace.is_sized) w.self-is ∙ c.loop-index.invariant.sized;
            line = rw (w.self-is, w.start-is) longer;
            same = λ next. rw (w.self-is, w.start-is) (c.loop-index.invariant.same next);
          }
    ]

use Rattle.std.proofs.Common.{◌≡◌, ◌∙◌, ◌++◌, ℕ, List, Err, false, take, ap, sym, subst, rules}
use Rattle.std.proofs.lemmas.Bool.{ne_eqb}
use Rattle.std.proofs.lemmas.Result.{err_from_is_err_and}
use Rattle.clock2q_ports.specs.Ports.{traffic_after}
use Rattle.std.specs.Prelude.{IfOk}
use Rattle.simulator_traces.specs.Formats.{accesses_after}
use Rattle.simulator_traces.specs.Reading.{TakesBytes}
use Rattle.simulator_traces.proofs.RecordByRecord.{finished, given-up, read-bad, read-given, read-more, read-new}
use Rattle.simulator_traces.proofs.reading.read_sample.Goals as goal

pub loop-index-init : goal.loop-index-init
loop-index-init g c =
    let made = c.new-records in
    record {
      format = made.ensures.format;
      sample = made.ensures.sample;
      sized = made.ensures.sized;
      read = read-new (g.R.Source.given c.args.reader.now)
          (g.R.Source.remaining c.args.reader.now) c.args.format made.result.trace.accesses
          made.result.count made.result.begun.items made.ensures.accesses made.ensures.count
          made.ensures.begun;
    }

pub loop-index-preserved : goal.loop-index-preserved
loop-index-preserved g c =
    let records = c.loop-index.records in
    let next = c.take.new.self in
    let format = c.args.format in
    let bytes = take c.in-Ok.count c.read.new.into in
    let is = c.loop-index.invariant.read in
    let old = g.R.Source.given c.args.reader.now in
    let mid = g.R.Source.given c.loop-index.reader in
    let new = g.R.Source.given c.read.new.self in
    let left = g.R.Source.remaining c.args.reader.now in
    let some = g.R.Source.remaining c.loop-index.reader in
    let remain = g.R.Source.remaining c.read.new.self in
    let given : new ≡ traffic_after mid bytes false false = c.in-Ok.ensures.given ∙ ap (λ b. traffic_after mid bytes b false) (ne_eqb c.in-Ok.count 0 c.if-count-eq0.false) in
    let taken : TakesBytes format records.trace.accesses records.count records.begun.items bytes next.trace.accesses next.count next.begun.items =
    subst (λ f. TakesBytes f records.trace.accesses records.count records.begun.items bytes next.trace.accesses next.count next.begun.items) c.loop-index.invariant.format c.in_ok-take.ensures.taken in
    record {
      format = c.in_ok-take.ensures.format ∙ c.loop-index.invariant.format;
      sample = c.in_ok-take.ensures.sample ∙ c.loop-index.invariant.sample;
      sized = c.in_ok-take.ensures.sized ∙ c.loop-index.invariant.sized;
      read = read-more old mid new left some remain
          format records.trace.accesses records.count records.begun.items bytes is
          next.trace.accesses next.count next.begun.items given c.in-Ok.ensures.bytes.0 taken;
    }

pub returns-then-count-eq0-clause-sample : goal.returns-then-count-eq0-clause-sample
returns-then-count-eq0-clause-sample g c = subst (λ sample. IfOk c.finish.result (λ trace. trace.sample ≡ sample)) c.loop-index.invariant.sample c.finish.ensures.sample

pub returns-then-count-eq0-clause-sized : goal.returns-then-count-eq0-clause-sized
returns-then-count-eq0-clause-sized g c = subst (λ sized. IfOk c.finish.result (λ trace. trace.is_sized ≡ sized)) c.loop-index.invariant.sized c.finish.ensures.sized

pub returns-then-count-eq0-clause-read : goal.returns-then-count-eq0-clause-read
returns-then-count-eq0-clause-read g c =
    let records = c.loop-index.records in
    finished (g.R.Source.given c.args.reader.now) (g.R.Source.given c.loop-index.reader) (g.R.Source.given c.read.new.self)
    (g.R.Source.remaining c.args.reader.now) (g.R.Source.remaining c.loop-index.reader) (g.R.Source.remaining c.read.new.self)
    c.args.format records.format records.trace.accesses records.count records.begun.items c.loop-index.invariant.read (λ trace. trace.accesses) c.finish.result c.loop-index.invariant.format
    (rw c.if-count-eq0.true at c.in-Ok.ensures.given) (rw c.if-count-eq0.true at c.in-Ok.ensures.bytes.0) (c.in-Ok.ensures.bytes.1 c.if-count-eq0.true (search rules))
    c.finish.ensures.accesses c.finish.ensures.bad

pub returns-in_err-take-clause-read : goal.returns-in_err-take-clause-read
returns-in_err-take-clause-read g c =
    let records = c.loop-index.records in
    let format = c.args.format in
    let bytes = take c.in-Ok.count c.read.new.into in
    let is = c.loop-index.invariant.read in
    let old = g.R.Source.given c.args.reader.now in
    let mid = g.R.Source.given c.loop-index.reader in
    let new = g.R.Source.given c.read.new.self in
    let left = g.R.Source.remaining c.args.reader.now in
    let some = g.R.Source.remaining c.loop-index.reader in
    let remain = g.R.Source.remaining c.read.new.self in
    let given : new ≡ traffic_after mid bytes false false = c.in-Ok.ensures.given ∙ ap (λ b. traffic_after mid bytes b false) (ne_eqb c.in-Ok.count 0 c.if-count-eq0.false) in
    let p = err_from_is_err_and c.from_residual.result c.from_residual.ensures.1 in
    rw (p.1, p.2)
    (given-up old new left remain format c.in_err-take.field-0.0
    (is.input ++ bytes, false, read-given old mid new left some remain format records.trace.accesses records.count records.begun.items bytes is false false given)
    (λ (none : (next : List ℕ) → accesses_after records.format records.count (records.begun.items ++ (bytes ++ next)) ≡ Err c.in_err-take.field-0.0).
    read-bad old mid new left some remain format records.trace.accesses records.count records.begun.items bytes is c.in_err-take.field-0.0 given
    (λ next. ap (λ f. accesses_after f records.count (records.begun.items ++ (bytes ++ next))) (sym c.loop-index.invariant.format) ∙ none next))
    c.in_err-take.ensures.bad)

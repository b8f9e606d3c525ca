use Rattle.std.proofs.Common.{◌≡◌, ◌∙◌, ◌∷◌, ◌++◌, ℕ, List, [], Err, refl, ap}
use Rattle.simulator_interface.specs.declared.format.TraceFormat.TheVariants.{Csv}
use Rattle.simulator_traces.specs.Formats.{accesses_after, next_number, record_of, unsized}
use Rattle.simulator_traces.specs.Reading.{between, joined}
use Rattle.simulator_traces.proofs.RecordByRecord.{bad-of-csv, bad-result, line-ends, line-of-csv, ok-result, piece-ends}
use Rattle.simulator_traces.proofs.records.Records.add_access.Goals as goal

pub returns-in-Csv-clause-ended : goal.returns-in-Csv-clause-ended
returns-in-Csv-clause-ended g c =
    let self = c.args.self.now in
    let columns = c.in-Csv.columns in
    let more = c.add_line.new.self.trace.accesses in
    ok-result c.add_line.result
    (λ (ends : (next : List ℕ) → joined self.trace.accesses (accesses_after (Csv columns) self.count (self.begun.items ++ 10 ∷ next)) ≡ joined more (accesses_after (Csv columns) (next_number self.count) next)).
    λ next. line-of-csv self.trace.accesses more self.count (next_number self.count) self.begun.items self.format columns c.in-Csv.is ends next)
    c.add_line.ensures.ended

pub returns-in-Csv-clause-bad : goal.returns-in-Csv-clause-bad
returns-in-Csv-clause-bad g c =
    let self = c.args.self.now in
    let columns = c.in-Csv.columns in
    bad-result c.add_line.result
    (λ refusal. (next : List ℕ) → accesses_after (Csv columns) self.count (self.begun.items ++ 10 ∷ next) ≡ Err refusal)
    (λ refusal. (next : List ℕ) → accesses_after self.format self.count (self.begun.items ++ (between self.format ++ next)) ≡ Err refusal)
    (λ refusal none next. bad-of-csv self.count self.begun.items self.format columns refusal c.in-Csv.is none next)
    c.add_line.ensures.bad

pub returns-in_ok-push-in-Lines-clause-ended : goal.returns-in_ok-push-in-Lines-clause-ended
returns-in_ok-push-in-Lines-clause-ended g c next =
    let self = c.args.self.now in
    let keys = self.trace.accesses in
    let more : c.push.new.self.accesses ≡ keys ++ unsized self.begun.items ∷ [] = c.in_ok-push-in-Lines.ensures.added ∙ ap (λ l. keys ++ unsized l ∷ []) c.deref.ensures.value in
    line-ends keys c.push.new.self.accesses self.count (next_number self.count) self.begun.items self.format c.in-Lines.is c.requires.whole more next

pub returns-in-OracleGeneral-clause-ended : goal.returns-in-OracleGeneral-clause-ended
returns-in-OracleGeneral-clause-ended g c =
    let self = c.args.self.now in
    let more = c.add_piece.new.self.trace.accesses in
    ok-result c.add_piece.result
    (λ (is : more ≡ self.trace.accesses ++ record_of self.begun.items ∷ []).
    λ next. piece-ends self.trace.accesses more self.count (next_number self.count) self.begun.items self.format c.in-OracleGeneral.is c.requires.whole is refl next)
    c.add_piece.ensures.added

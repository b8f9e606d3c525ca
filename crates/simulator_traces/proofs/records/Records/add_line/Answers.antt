use Rattle.std.proofs.Common.{◌≡◌, ◌<◌, ◌≤◌, ◌∷◌, ◌++◌, ℕ, List, [], Ok, Err, true, false, refl, arith, rules}
use Rattle.simulator_interface.specs.declared.format.TraceFormat.TheVariants.{Csv}
use Rattle.simulator_traces.specs.Formats.{Access, access_by, accesses_after, is_blank, next_number}
use Rattle.simulator_interface.specs.TraceFormats.{headers}
use Rattle.simulator_traces.proofs.RecordByRecord.{bad-result, blank-ends, fields-end, header-ends, no-field-ends, ok-result}
use Rattle.simulator_traces.proofs.records.Records.add_line.Goals as goal

pub returns-then-self-headers-clause-ended : goal.returns-then-self-headers-clause-ended
returns-then-self-headers-clause-ended g c next =
    let self = c.args.self.now in
    let is : self.count < headers c.args.columns = omega (arith, c.if-self-headers.true, c.headers.ensures.headers) in
    header-ends self.trace.accesses self.trace.accesses self.count self.begun.items c.args.columns c.requires.line is refl next

pub returns-then-is_blank-clause-ended : goal.returns-then-is_blank-clause-ended
returns-then-is_blank-clause-ended g c next =
    let self = c.args.self.now in
    let later : headers c.args.columns ≤ self.count = omega (arith, c.if-self-headers.false, c.headers.ensures.headers) in
    let blank : is_blank self.begun.items ≡ true = search rules in
    blank-ends self.trace.accesses self.trace.accesses self.count self.begun.items c.args.columns c.requires.line later blank refl next

pub returns-clause-ended : goal.returns-clause-ended
returns-clause-ended g c =
    let self = c.args.self.now in
    let columns = c.args.columns in
    let more = c.add_fields.new.self.trace.accesses in
    let later : headers columns ≤ self.count = omega (arith, c.if-self-headers.false, c.headers.ensures.headers) in
    let filled : is_blank self.begun.items ≡ false = search rules in
    ok-result c.add_fields.result
    (λ (is : (access : Access) × (access_by columns (next_number self.count) self.begun.items ≡ Ok access) × (more ≡ self.trace.accesses ++ access ∷ [])).
    λ next. fields-end self.trace.accesses more self.count self.begun.items columns c.requires.line is.0 later filled is.1 is.2 next)
    c.add_fields.ensures.access

pub returns-clause-bad : goal.returns-clause-bad
returns-clause-bad g c =
    let self = c.args.self.now in
    let columns = c.args.columns in
    let later : headers columns ≤ self.count = omega (arith, c.if-self-headers.false, c.headers.ensures.headers) in
    let filled : is_blank self.begun.items ≡ false = search rules in
    bad-result c.add_fields.result
    (λ refusal. access_by columns (next_number self.count) self.begun.items ≡ Err refusal)
    (λ refusal. (next : List ℕ) → accesses_after (Csv columns) self.count (self.begun.items ++ 10 ∷ next) ≡ Err refusal)
    (λ refusal none next. no-field-ends self.trace.accesses self.trace.accesses self.count self.begun.items columns c.requires.line refusal later filled none next)
    c.add_fields.ensures.bad

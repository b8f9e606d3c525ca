use Rattle.std.proofs.Common.{◌≡◌, ◌∙◌, ◌++◌, ℕ, List, [], Ok, Err, ap, append-nil, rules}
use Rattle.simulator_traces.specs.Formats.{accesses_after}
use Rattle.simulator_traces.specs.Reading.{IsOfLines, between, joined}
use Rattle.simulator_traces.proofs.RecordByRecord.{Ends, bad-result, last-ends, none-left, ok-result}
use Rattle.simulator_traces.proofs.records.Records.end_last.Goals as goal

pub returns-in-Lines : goal.returns-in-Lines
returns-in-Lines g c =
    let self = c.args.self.now in
    let new = c.end_record.new.self in
    let lined : IsOfLines self.format = search rules in
    let same : accesses_after self.format self.count self.begun.items ≡ accesses_after self.format self.count (self.begun.items ++ (between self.format ++ [])) =
    last-ends self.format self.begun.items self.count lined c.requires.begun c.requires.some in
    record {
      sample = c.end_record.ensures.sample;
      sized = c.end_record.ensures.sized;
      accesses = ok-result c.end_record.result
          (λ (ends : Ends self.trace.accesses new.trace.accesses self.count new.count self.begun.items self.format).
          ap (joined self.trace.accesses) same ∙ ends [] ∙ ap (joined new.trace.accesses) (none-left self.format new.count) ∙ ap Ok (append-nil new.trace.accesses))
          c.end_record.ensures.ended;
      bad = bad-result c.end_record.result
          (λ refusal. (next : List ℕ) → accesses_after self.format self.count (self.begun.items ++ (between self.format ++ next)) ≡ Err refusal)
          (λ refusal. accesses_after self.format self.count self.begun.items ≡ Err refusal)
          (λ refusal none. same ∙ none [])
          c.end_record.ensures.bad;
    }

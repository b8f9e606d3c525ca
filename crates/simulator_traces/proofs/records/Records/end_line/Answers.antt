use Rattle.std.proofs.Common.{◌≡◌, ◌∙◌, ◌∷◌, ◌++◌, [], ap, rules, sym}
use Rattle.simulator_traces.specs.Formats.{unsized}
use Rattle.simulator_traces.proofs.RecordByRecord.{begun-line, line-ends, no-elements, whole-line}
use Rattle.simulator_traces.proofs.records.Records.end_line.Goals as goal

pub returns-in_ok-push-in-Lines-clause-ended : goal.returns-in_ok-push-in-Lines-clause-ended
returns-in_ok-push-in-Lines-clause-ended g c next =
    let self = c.args.self.now in
    let last = c.args.last.now in
    let keys = self.trace.accesses in
    let line = self.begun.items ++ last in
    let none : self.begun.items ≡ [] = no-elements self.begun.items (search rules) in
    let more : c.push.new.self.accesses ≡ keys ++ unsized line ∷ [] = c.in_ok-push-in-Lines.ensures.added ∙ ap (λ b. keys ++ unsized (b ++ last) ∷ []) (sym none) in
    line-ends keys c.push.new.self.accesses self.count c.saturating_add-self.result line self.format c.in-Lines.is
    (whole-line self.format line c.requires.lines (begun-line self.format line c.requires.lines c.requires.line)) more next

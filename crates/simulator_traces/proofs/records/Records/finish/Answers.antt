use Rattle.std.proofs.Common.{◌≡◌, ◌∙◌, true, length, Ok, eqb, ap, sym, append-nil, arith}
use Rattle.std.proofs.lemmas.Bool.{eqb-true, eq-eqb}
use Rattle.simulator_traces.specs.Formats.{accesses_after}
use Rattle.simulator_traces.specs.Reading.{joined}
use Rattle.simulator_traces.proofs.RecordByRecord.{no-elements, none-left}
use Rattle.simulator_traces.proofs.records.Records.finish.Goals.{then-not-is_empty+in_ok-end_last, else-not-is_empty}
use Rattle.simulator_traces.proofs.records.Records.finish.Goals as goal

pub returns-clause-accesses : goal.returns-clause-accesses
returns-clause-accesses g c =
    let self = c.args.self in
    let keys = self.trace.accesses in
    let begun = self.begun in
    elim c.if-not-is_empty.branch [
      | then-not-is_empty+in_ok-end_last w ↦
          w.in_ok-end_last.ensures.accesses ∙ ap Ok (sym (ap (λ t. t.accesses) c.finish.ensures.same ∙ ap (λ r. r.trace.accesses) w.records-is))
      | else-not-is_empty w ↦
          let none : eqb (length begun.items) 0 ≡ true = eq-eqb (length begun.items) 0 (omega (arith, begun.ok.0, eqb-true begun.len 0 (sym c.is_empty.ensures ∙ w.if-not-is_empty.false))) in
          ap (λ p. joined keys (accesses_after self.format self.count p)) (no-elements begun.items none) ∙ ap (joined keys) (none-left self.format self.count) ∙ ap Ok (append-nil keys)
          ∙ ap Ok (sym (ap (λ t. t.accesses) c.finish.ensures.same ∙ ap (λ r. r.trace.accesses) w.records-is))
    ]

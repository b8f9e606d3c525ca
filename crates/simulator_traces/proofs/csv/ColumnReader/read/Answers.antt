use Rattle.std.proofs.Common.{◌≡◌, ◌∙◌, ◌+◌, ◌<◌, [], drop, ap, sym, arith}
use Rattle.std.specs.NonZero.{non_zero_usize_get}
use Rattle.std.proofs.lemmas.List.{drop_all, drop_more}
use Rattle.simulator_traces.specs.declared.csv.Place.TheVariants.{Start}
use Rattle.simulator_traces.specs.Fields.{found_in}
use Rattle.simulator_traces.specs.Formats.{field, fields_from}
use Rattle.simulator_traces.proofs.FieldByField.{found-first, found-last}
use Rattle.simulator_traces.proofs.csv.ColumnReader.read.Goals as goal

pub loop-byte-init : goal.loop-byte-init
loop-byte-init g c =
    let column = non_zero_usize_get c.args.column in
    let left : c.get-self.result ≡ column = c.get-self.ensures.value in
    let some : 0 < column = omega (arith, left, c.get-self.ensures.nonzero) in
    record {
      early = λ _. c.clear.ensures.items;
      found = ap (λ k. found_in c.get-self.result k (fields_from c.args.separator Start c.trimmed-text.result.now)) c.clear.ensures.items
          ∙ ap (λ n. found_in n [] (fields_from c.args.separator Start c.trimmed-text.result.now)) left
          ∙ ap (λ t. found_in column [] (fields_from c.args.separator Start t)) c.trimmed-text.ensures.trimmed
          ∙ found-first c.args.separator column c.args.line.now some;
    }

pub loop-byte-preserved : goal.loop-byte-preserved
loop-byte-preserved g c =
    let self = c.loop-byte.self in
    let text = c.trimmed-text.result.now in
    let i = c.loop-byte.byte-index in
    let more = rw c.if-not-branch.false at c.in_ok-take.ensures.taken in
    record {
      early = c.in_ok-take.ensures.early;
      found = sym (more (drop (i + 1) text)) ∙ ap (λ t. found_in self.left self.key.items (fields_from c.args.separator self.place t)) (sym (drop_more text i 0 c.loop-byte-test.true))
          ∙ c.loop-byte.invariant.found;
    }

pub returns-then-not-branch : goal.returns-then-not-branch
returns-then-not-branch g c =
    let self = c.loop-byte.self in
    let text = c.trimmed-text.result.now in
    let i = c.loop-byte.byte-index in
    let none = rw c.if-not-branch.true at c.in_ok-take.ensures.taken in
    record {
      field = sym c.loop-byte.invariant.found ∙ ap (λ t. found_in self.left self.key.items (fields_from c.args.separator self.place t)) (drop_more text i 0 c.loop-byte-test.true)
          ∙ ap (found_in self.left self.key.items) (none (drop (i + 1) text));
    }

pub returns-then-self-le1 : goal.returns-then-self-le1
returns-then-self-le1 g c =
    let self = c.loop-byte.self in
    let text = c.trimmed-text.result.now in
    let found : found_in self.left self.key.items (fields_from c.args.separator self.place []) ≡ field c.args.separator (non_zero_usize_get c.args.column) c.args.line.now =
    ap (λ t. found_in self.left self.key.items (fields_from c.args.separator self.place t)) (sym (drop_all c.loop-byte.byte-index text c.loop-byte-test.false)) ∙ c.loop-byte.invariant.found in
    record { field = found-last c.args.separator self.left self.key.items self.place c.may_end.result (field c.args.separator (non_zero_usize_get c.args.column) c.args.line.now) c.if-self-le1.true found (c.may_end.ensures.end c.args.separator) }

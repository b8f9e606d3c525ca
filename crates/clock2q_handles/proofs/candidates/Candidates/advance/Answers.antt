use Rattle.std.proofs.Common.{arith, sym, ap, ◌∙◌}
use Rattle.clock2q_handles.specs.Slots.{sought}
use Rattle.clock2q_handles.proofs.walks.Cursors.{standing, passed_on}
use Rattle.clock2q_handles.proofs.shifts.Carrying.{walks_on}
use Rattle.clock2q_handles.proofs.walks.Positions.{same_end}
use Rattle.clock2q_handles.proofs.candidates.Candidates.advance.Goals as goal

pub returns : goal.returns
returns g c =
    let slots = c.self.inside.view in
    let s = sought c.self.inside.wanted in
    let s' = sought c.next-self-inside.result in
    let n = c.self.inside.slot in
    let n' = c.after-self-inside.result in
    let peeked = ap (λ t. t.peeked) c.self.view_is ∙ c.requires.peeked in
    let here = standing slots s n c.self.invariant peeked in
    let passed = passed_on slots s s' n n' c.self.invariant peeked c.next-self-inside.ensures c.after-self-inside.ensures.after in
    record {
      some = grind (arith, passed);
      left = grind (arith, passed);
      end = sym (same_end slots s s' n n' here.some c.self.invariant
          (λ x walk. walks_on slots c.self.invariant.tidy x s s' n n' walk here.far c.next-self-inside.ensures c.after-self-inside.ensures.after)) ∙ ap (λ t. t.end) c.self.view_is;
      reads = grind arith;
      unread = grind (arith, passed);
      handles = grind arith;
    }

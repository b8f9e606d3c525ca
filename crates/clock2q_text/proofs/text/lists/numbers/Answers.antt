use Rattle.std.proofs.Common.{sym}
use Rattle.clock2q_text.specs.Text.{words_of, number_of}
use Rattle.clock2q_text.proofs.Listing.{IsReadUpTo, numbers-none, numbers-refused, numbers-all}
use Rattle.clock2q_text.proofs.text.lists.numbers.Goals as goal

pub returns-in_err-value : goal.returns-in_err-value
returns-in_err-value g c =
    let so : IsReadUpTo number_of (words_of c.args.words.now) (words_of c.in-Some.others.now) c.loop-rest.refused c.loop-rest.values.items = rw c.in-Some.is at c.loop-rest.invariant in
    rw c.from_residual.ensures (numbers-none c.args.words.now c.in-Some.others.now c.loop-rest.refused c.loop-rest.values.items so (sym c.in_err-value.ensures.first))

pub returns-then-refused-2 : goal.returns-then-refused-2
returns-then-refused-2 g c =
    numbers-refused c.args.words.now c.loop-rest.refused c.loop-rest.values.items (rw c.in_default.is at c.loop-rest.invariant)

pub returns : goal.returns
returns g c =
    numbers-all c.args.words.now c.loop-rest.refused c.loop-rest.values.items (rw c.in_default.is at c.loop-rest.invariant) c.if-refused-2.false

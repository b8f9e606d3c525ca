-- The place has its value, or keeps the one that it had.
use Rattle.clock2q_directory.proofs.Names.{ap, ◌∙◌, arith, sym, KeyPlaces, entry}
use Rattle.clock2q_directory.proofs.Entries.{written-push}
use Rattle.clock2q_directory.proofs.Taking.{brings-value}
use Rattle.clock2q_directory.proofs.keys.Keys.put.Goals as goal

pub returns-in-Some-clause-entries : goal.returns-in-Some-clause-entries
returns-in-Some-clause-entries g c =
    let old = c.args.self.now.entries in
    let next = written-push c.args.place (entry c.args.entry.hash c.args.entry.key c.in-Some.value) old (omega (arith, c.requires.next, c.if-place-len.false, c.len.ensures.len)) in
    rw c.in-Some.is (brings-value c.args.place c.args.entry.hash c.args.entry.key c.in-Some.value old c.push.new.self.entries (ap (λ (z : KeyPlaces _ _). z.entries) c.push.ensures.pushed ∙ sym next))

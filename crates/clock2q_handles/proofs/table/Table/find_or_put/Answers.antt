use Rattle.std.proofs.Common.{sym, subst, arith}
use Rattle.clock2q_handles.specs.Candidates.{EndsAt}
use Rattle.clock2q_handles.proofs.rebuild.Inserting.{finds_one, finds_none, finds_refused}
use Rattle.clock2q_handles.proofs.table.Table.find_or_put.Goals as goal

pub offer-requires-clause-slots : goal.offer-requires-clause-slots
offer-requires-clause-slots g c = omega (arith, c.requires.room)

pub insert_at-requires-clause-ends : goal.insert_at-requires-clause-ends
insert_at-requires-clause-ends g c = subst (λ t. EndsAt t.slots c.args.hash c.in-Err.end.mark c.in-Err.end.position) (sym c.offer.ensures.read.0) c.in-Err.ensures.gap

pub returns-in-Ok : goal.returns-in-Ok
returns-in-Ok g c =
    finds_one g.H.PartialEq.eq c.args.hash c.args.handle c.args.self.now g.M.FnMut c.args.matches.now c.offer.new.matches c.in-Ok.found.0 c.offer.new.self
    c.offer.ensures.read c.in-Ok.ensures.offers c.offer.ensures.laid

pub returns-in-Ok-insert_at : goal.returns-in-Ok-insert_at
returns-in-Ok-insert_at g c =
    finds_none g.H.PartialEq.eq c.args.hash c.args.handle c.args.self.now g.M.FnMut c.args.matches.now c.offer.new.matches c.offer.new.self
    c.offer.ensures.read c.in-Err.ensures.read_all c.in-Err.ensures.offers c.insert_at.new.self c.in-Ok-insert_at.ensures

pub returns-in-Err-insert_at : goal.returns-in-Err-insert_at
returns-in-Err-insert_at g c =
    finds_refused g.H.PartialEq.eq c.args.hash c.args.handle c.args.self.now g.M.FnMut c.args.matches.now c.offer.new.matches c.offer.new.self
    c.offer.ensures.read c.in-Err.ensures.read_all c.in-Err.ensures.offers c.insert_at.new.self c.in-Err-insert_at.refusal c.in-Err-insert_at.ensures

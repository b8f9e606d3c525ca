use Rattle.std.proofs.Common.{subst, arith}
use Rattle.clock2q_handles.specs.Layout.{homes_of}
use Rattle.clock2q_handles.specs.TableStep.{table_value}
use Rattle.clock2q_handles.proofs.offers.OfferedAll.{OffersAll, offers_all}
use Rattle.clock2q_handles.proofs.table.Table.offer.Goals as goal

pub returns : goal.returns
returns g c =
    let offered = c.offer.ensures in
    let is = c.view.ensures in
    subst (λ t. OffersAll g.M.FnMut c.args.matches.now c.offer.new.matches c.args.hash c.offer.result t
    (table_value (homes_of c.self.inside.slots.slots) c.self.inside.slots.slots c.self.inside.slots.writes c.offer.new.reads.total)) c.self.view_is
    (offers_all g.M.FnMut c.args.matches.now c.offer.new.matches c.args.hash c.offer.result c.self.inside.slots.slots c.self.inside.len c.self.invariant
    c.self.inside.slots.writes c.self.inside.reads.total c.offer.new.reads.total (rw is at offered.offers) (rw is at offered.ends)
    (omega (arith, offered.reads)) (rw is at offered.read) (rw is at offered.read_all))

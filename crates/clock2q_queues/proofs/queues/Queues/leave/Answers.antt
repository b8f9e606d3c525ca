use Rattle.clock2q_queues.proofs.Names.{arith, true, ap, ◌∙◌, eqb, list_any, QueueState, slots_of}
use Rattle.clock2q_queues.proofs.Locations.{in_small_alone}
use Rattle.clock2q_queues.proofs.Sharing.{after_small_left, after_main_left, in_small, in_main, queues_equal}
use Rattle.clock2q_queues.proofs.SlotLists.{without_slot-absent}
use Rattle.clock2q_queues.proofs.queues.Queues.leave.Goals as goal

pub unlink-requires-clause-present : goal.unlink-requires-clause-present
unlink-requires-clause-present g c =
    let read = c.location.ensures in
    let at = in_small_alone c.location.result c.args.slot c.args.self.now c.in-SmallYoung.is read.value in
    in_small c.self.inside.links c.self.inside.small c.self.inside.main _ c.args.slot true c.self.view_is
    (ap (λ (q : QueueState). list_any (eqb c.args.slot) (slots_of q.small)) read.queues ∙ at.0)

pub unlink-requires-in-Main-clause-present : goal.unlink-requires-in-Main-clause-present
unlink-requires-in-Main-clause-present g c =
    let read = c.in-Main.ensures in
    in_main c.self.inside.links c.self.inside.small c.self.inside.main _ c.args.slot true c.self.view_is
    (ap (λ (q : QueueState). list_any (eqb c.args.slot) (slots_of q.main)) read.queues ∙ read.value.1)

pub invariant_of-self : goal.invariant_of-self
invariant_of-self g c =
    let u = c.unlink in
    (after_small_left c.self.inside.links c.self.inside.small c.self.inside.main c.self.invariant u.new.links u.new.self c.args.slot
    u.ensures.whole u.ensures.freed u.ensures.entries u.ensures.others u.ensures.made u.ensures.window u.ensures.inspections).queues

pub invariant_of-self-in-Main : goal.invariant_of-self-in-Main
invariant_of-self-in-Main g c =
    let u = c.unlink-in-Main in
    (after_main_left c.self.inside.links c.self.inside.small c.self.inside.main c.self.invariant u.new.links u.new.self c.args.slot
    u.ensures.whole u.ensures.freed u.ensures.entries u.ensures.others u.ensures.made u.ensures.window).queues

pub returns-in-Free-clause-queues : goal.returns-in-Free-clause-queues
returns-in-Free-clause-queues g c = grind (arith, queues_equal, without_slot-absent, c.in-Free.ensures)

pub returns-in-SmallYoung-clause-queues : goal.returns-in-SmallYoung-clause-queues
returns-in-SmallYoung-clause-queues g c = grind (arith, in_small_alone, after_small_left, queues_equal, without_slot-absent, c.location.ensures, c.in-SmallYoung.is, c.self.invariant, c.self.view_is)

pub returns-in-Main-clause-queues : goal.returns-in-Main-clause-queues
returns-in-Main-clause-queues g c = grind (arith, after_main_left, queues_equal, without_slot-absent, c.in-Main.ensures, c.self.invariant, c.self.view_is)

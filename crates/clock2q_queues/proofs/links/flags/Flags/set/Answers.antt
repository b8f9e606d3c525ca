use Rattle.clock2q_queues.proofs.Names.{sym, Flag}
use Rattle.clock2q_queues.proofs.AllRecords.{all-set, flags-in}
use Rattle.clock2q_queues.proofs.links.flags.Flags.set.Goals as goal

pub returns-clause-flags : goal.returns-clause-flags
returns-clause-flags g c =
    let fs = c.self.inside.flags.items in
    rw (← c.self.view_is) (sym (all-set Flag.Free fs c.self.inside.slots c.args.slot c.args.flag (flags-in fs c.self.inside.slots c.args.slot (rw (← c.self.view_is) at c.requires))))

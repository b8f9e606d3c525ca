use Rattle.clock2q_queues.proofs.Flagged.{flag_linked}
use Rattle.clock2q_queues.proofs.links.Links.look.Goals as goal

pub look-requires : goal.look-requires
look-requires g c = record {
  linked = flag_linked c.self.invariant c.args.slot (rw (← c.self.view_is) at c.requires);
  made = c.self.invariant.made c.args.slot (rw (← c.self.view_is) at c.requires);
}

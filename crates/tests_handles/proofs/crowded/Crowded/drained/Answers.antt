use Rattle.std.proofs.Common.{rules, ◌<◌, ap, arith, length}
use Rattle.clock2q_handles.specs.Homes.{total}
use Rattle.tests_handles.proofs.OneHash.{all_candidates, walk_of_all}
use Rattle.tests_handles.proofs.crowded.Crowded.drained.Goals as goal

pub drain-requires : goal.drain-requires
drain-requires c =
    let counted : c.len.result < 18446744073709551616 = search rules in
    omega (arith, counted, c.len.ensures.len, ap length c.get.ensures.candidates, all_candidates c.self.inside.hash c.self.inside.table.homes c.self.invariant c.facts.ensures.whole.room)

pub returns-clause-all : goal.returns-clause-all
returns-clause-all c =
    omega (arith, c.drain.ensures.all, ap length c.get.ensures.candidates, all_candidates c.self.inside.hash c.self.inside.table.homes c.self.invariant c.facts.ensures.whole.room, c.self.view_is)

pub returns-clause-reads : goal.returns-clause-reads
returns-clause-reads c some =
    let more : 0 < total c.self.inside.table.homes = omega (arith, some, c.self.view_is) in
    omega (
      arith,
      c.drain.ensures.reads,
      c.get.ensures.reads,
      c.get.ensures.unread,
      walk_of_all c.self.inside.hash c.self.inside.table.homes c.self.invariant c.facts.ensures.whole.room more,
      c.self.view_is,
    )

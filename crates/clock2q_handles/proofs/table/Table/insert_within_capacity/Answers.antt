use Rattle.std.proofs.Common.{subst, arith}
use Rattle.clock2q_handles.proofs.rebuild.Inserting.{InsertsWithin, inserts_within}
use Rattle.clock2q_handles.proofs.walks.Finding.{ends_reads}
use Rattle.clock2q_handles.proofs.table.Table.insert_within_capacity.Goals as goal

pub returns : goal.returns
returns g c =
    let read = ends_reads c.self.inside.slots.slots c.self.invariant.tidy c.args.hash c.gap-gap.result.position c.gap-gap.result.mark c.gap-gap.ensures.ends in
    subst (λ t. InsertsWithin g.H.PartialEq.eq c.args.hash c.args.handle t c.insert_at.result c.insert_at.new.self) c.self.view_is
    (inserts_within g.H.PartialEq.eq c.args.hash c.args.handle _ c.gap-gap.new.reads.total (omega (arith, read, c.gap-gap.ensures.reads)) c.insert_at.result c.insert_at.new.self c.insert_at.ensures)

use Rattle.std.proofs.Common.{sym, ◌∙◌}
use Rattle.clock2q_handles.proofs.rebuild.Growing.{makes_room, has_room}
use Rattle.clock2q_handles.proofs.table.Table.make_room.Goals as goal

pub returns-then-len-capacity : goal.returns-then-len-capacity
returns-then-len-capacity g c =
    makes_room g.F.FnMut c.args.rehash.now c.args.self.now (sym c.len.ensures.len ∙ c.if-len-capacity.true ∙ c.capacity.ensures.capacity) c.grow.new.rehash c.grow.new.self c.grow.result c.grow.ensures

pub returns : goal.returns
returns g c =
    has_room g.F.FnMut c.args.rehash.now c.args.self.now c.facts.ensures.whole (λ full. c.if-len-capacity.false (c.len.ensures.len ∙ full ∙ sym c.capacity.ensures.capacity))

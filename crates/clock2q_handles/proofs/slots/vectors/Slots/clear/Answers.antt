use Rattle.std.proofs.Common.{length, arith}
use Rattle.std.proofs.lemmas.List.{length-replicate}
use Rattle.clock2q_handles.specs.declared.metadata.Metadata.{Metadata}
use Rattle.clock2q_handles.proofs.shifts.Cells.{kept_whole, words, cells-emptied}
use Rattle.clock2q_handles.proofs.slots.vectors.Slots.clear.Goals as goal

pub returns : goal.returns
returns g c =
    let whole = words c.self.inside.metadata.items c.self.inside.handles.items c.self.invariant.same c.self.view_is in
    let slots = length c.args.self.now.slots in
    let empty : Metadata = record { word = 0 } in
    grind (arith, whole, kept_whole, length-replicate slots empty, cells-emptied c.fill.new.metadata c.self.inside.handles.items slots)

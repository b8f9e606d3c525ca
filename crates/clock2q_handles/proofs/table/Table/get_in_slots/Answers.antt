use Rattle.std.proofs.Common.{◌<◌, Some, refl, ap, ◌∙◌, arith, length}
use Rattle.clock2q_handles.specs.Homes.{top}
use Rattle.clock2q_handles.proofs.layout.TidyLayout.{length-homes_of}
use Rattle.clock2q_handles.proofs.shifts.Carrying.{walks_begin}
use Rattle.clock2q_handles.proofs.walks.Cursors.{begins_whole}
use Rattle.clock2q_handles.proofs.walks.Positions.{end_of}
use Rattle.clock2q_handles.proofs.walks.Yields.{left_at_start}
use Rattle.clock2q_handles.proofs.table.Table.get_in_slots.Goals as goal

pub returns : goal.returns
returns g c =
    let slots = c.self.inside.slots.slots in
    let x = c.args.hash in
    let n = c.home.result in
    let some : 0 < length slots = omega (arith, c.requires.slots, length-homes_of slots, ap (λ t. length t.homes) c.self.view_is) in
    let home = rw c.view-view.ensures at (c.home.ensures.home (rw c.view-view.ensures some)) in
    let begins = begins_whole slots x n c.self.invariant.tidy c.self.invariant.near some home in
    let walk = walks_begin slots c.self.invariant.tidy x (Some (0, top x)) n some home refl in
    rw (← c.self.view_is, c.view-view.ensures, c.new.ensures) (record {
      candidates = begins.0 ∙ left_at_start slots x;
      reads = c.new-2.ensures.zero;
      unread = omega (arith, begins.1);
      handles = c.new-3.ensures.zero;
      end = end_of slots x (Some (0, top x)) n walk;
    })

use Rattle.std.proofs.Common.{rules, ◌≡◌, suc, slice_get, Some, subst, ap, ◌∙◌}
use Rattle.clock2q_handles.proofs.Held.{candidate_held}
use Rattle.clock2q_bench.proofs.tables.find.Goals as goal

pub loop-handle-init : goal.loop-handle-init
loop-handle-init c i at there = c.requires.held.1 at (candidate_held c.args.table.now.homes c.args.hash i at (subst (λ hs. slice_get hs i ≡ Some at) c.get-candidates.ensures.candidates there))

pub offset_bounds-hashes-handle : goal.offset_bounds-hashes-handle
offset_bounds-hashes-handle c =
    let within = c.loop-handle.invariant 0 c.in-Some.handle (ap (λ l. slice_get l 0) c.in-Some.ensures.steps.0) in
    search rules

pub bounds-hashes-handle : goal.bounds-hashes-handle
bounds-hashes-handle c = c.loop-handle.invariant 0 c.in-Some.handle (ap (λ l. slice_get l 0) c.in-Some.ensures.steps.0)

pub loop-handle-preserved : goal.loop-handle-preserved
loop-handle-preserved c i at there = c.loop-handle.invariant (suc i) at (ap (λ l. slice_get l (suc i)) c.in-Some.ensures.steps.0 ∙ there)

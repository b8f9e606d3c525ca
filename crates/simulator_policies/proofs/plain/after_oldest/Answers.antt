use Rattle.std.proofs.Common.{◌<◌, ◌≤◌, sym, ◌∙◌, arith, add-one}
use Rattle.simulator_policies.proofs.Stamping.{held-stale, held-oldest, held-none, front-taken, none-taken}
use Rattle.simulator_policies.proofs.plain.after_oldest.Goals as goal

pub returns-then-stamps-trace-clause-front : goal.returns-then-stamps-trace-clause-front
returns-then-stamps-trace-clause-front c =
    let before : c.loop-index.index < c.args.at = omega arith in
    rw add-one (front-taken _ _ _ (sym c.loop-index.invariant ∙ held-oldest c.args.trace.now c.args.stamps.now c.loop-index.index c.args.at (omega arith) before))

pub loop-index-preserved : goal.loop-index-preserved
loop-index-preserved c = rw add-one (held-stale c.args.trace.now c.args.stamps.now c.loop-index.index c.args.at (λ e. c.if-stamps-trace.false (omega (arith, e))) ∙ c.loop-index.invariant)

pub returns-clause-front : goal.returns-clause-front
returns-clause-front c =
    let past : c.args.at ≤ c.loop-index.index = omega arith in
    held-none c.args.trace.now c.args.stamps.now c.args.at c.args.at (omega arith)
    ∙ none-taken _ (sym c.loop-index.invariant
    ∙ held-none c.args.trace.now c.args.stamps.now c.loop-index.index c.args.at past)

use Rattle.std.proofs.Common.{◌≡◌, ◌∙◌, ap, sym, subst, length}
use Rattle.std.specs.NonZero.{non_zero_usize_get}
use Rattle.std.specs.Prelude.{IfSome}
use Rattle.simulator_traces.specs.Bytes.{hit_between}
use Rattle.simulator_traces.specs.Trace.{sizes_of}
use Rattle.simulator_replay.specs.ByteRows.{IsByteReplay}
use Rattle.simulator_replay.proofs.ByteRows.{hits_are}
use Rattle.simulator_replay.proofs.byte_rows.byte_hits_with.Goals as goal

pub returns-clause-hits : goal.returns-clause-hits
returns-clause-hits g c =
    let trace = c.args.trace.now in
    let policy = c.args.policy in
    let capacity = non_zero_usize_get c.args.capacity in
    let numbers = c.numbers-numbers.result.now in
    let sizes = c.sizes-sizes.result.now in
    let outcomes = c.in-Some.outcomes.items in
    let seen = c.deref.result.now in
    let found : IsByteReplay numbers sizes c.get-room.result policy outcomes =
    subst (λ replay. IfSome replay (λ all. IsByteReplay numbers sizes c.get-room.result policy all.items)) c.in-Some.is c.in_ok-outcomes.ensures.replay in
    let replay : IsByteReplay trace.numbers (sizes_of trace) capacity policy outcomes =
    subst (λ ns. IsByteReplay ns (sizes_of trace) capacity policy outcomes) c.numbers-numbers.ensures.numbers
    (subst (λ ss. IsByteReplay numbers ss capacity policy outcomes) c.sizes-sizes.ensures.sizes
    (subst (λ n. IsByteReplay numbers sizes n policy outcomes) c.get-room.ensures.value found)) in
    let bytes : c.hit_bytes.result ≡ hit_between c.args.skipped (length numbers) seen (sizes_of trace) = c.hit_bytes.ensures.bytes
    ∙ ap (λ all. hit_between c.args.skipped (length numbers) all sizes) (c.deref-2.ensures.value ∙ sym c.deref.ensures.value)
    ∙ ap (hit_between c.args.skipped (length numbers) seen) c.sizes-sizes.ensures.sizes in
    hits_are trace.numbers (sizes_of trace) capacity policy outcomes c.args.skipped c.min.result (length numbers) c.hits_between.result c.hit_bytes.result seen
    replay c.deref.ensures.value (ap length c.numbers-numbers.ensures.numbers) c.min.ensures c.hits_between.ensures.hits bytes

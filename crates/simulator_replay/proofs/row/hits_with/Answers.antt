use Rattle.std.proofs.Common.{◌≡◌, ◌∙◌, ap, sym, false, arith, length}
use Rattle.std.specs.NonZero.{non_zero_usize_get}
use Rattle.simulator_traces.specs.Sampled.{sampled}
use Rattle.simulator_traces.specs.Trace.{kept_sizes, sizes_of}
use Rattle.simulator_replay.proofs.RowBytes.{known-bytes, replay-bytes}
use Rattle.simulator_replay.proofs.KnownHits.{known-hits, known-replay}
use Rattle.simulator_replay.proofs.Replaying.{after_are}
use Rattle.simulator_replay.proofs.row.hits_with.Goals as goal

pub hits_between-hits-requires-clause-within : goal.hits_between-hits-requires-clause-within
hits_between-hits-requires-clause-within g c = omega (arith, ap length c.deref.ensures.value, ap length c.numbers-accesses.ensures.numbers, c.in_ok-replay.ensures.replay.long)

pub returns-clause-hits : goal.returns-clause-hits
returns-clause-hits g c =
    let long : length c.numbers-accesses.result.now ≡ length c.in_ok-replay.replay.outcomes.items = omega (arith, ap length c.numbers-accesses.ensures.numbers, c.in_ok-replay.ensures.replay.long) in
    after_are c.args.shares c.args.trace.now.numbers (non_zero_usize_get c.args.capacity) (omega (arith, c.args.capacity.ok)) c.in_ok-replay.replay.policy
    c.in_ok-replay.replay.outcomes.items c.in_ok-replay.ensures.replay c.args.skipped c.min-first.result (length c.numbers-accesses.result.now)
    c.deref.result.now c.hits_between-hits.result c.deref.ensures.value long c.min-first.ensures c.hits_between-hits.ensures.hits

pub returns-clause-bytes : goal.returns-clause-bytes
returns-clause-bytes g c =
    replay-bytes c.args.shares c.args.trace.now.numbers (sizes_of c.args.trace.now) (non_zero_usize_get c.args.capacity) c.args.skipped c.in_ok-replay.replay.policy
    c.in_ok-replay.replay.outcomes.items c.in_ok-replay.ensures.replay c.deref-2.result.now c.numbers-accesses.result.now c.sizes.result.now c.hit_bytes-bytes.result
    c.deref-2.ensures.value c.numbers-accesses.ensures.numbers c.sizes.ensures.sizes c.hit_bytes-bytes.ensures.bytes

pub returns-then-not-has_sizes-clause-hits : goal.returns-then-not-has_sizes-clause-hits
returns-then-not-has_sizes-clause-hits g c =
    known-hits c.args.shares c.args.trace.now.numbers (non_zero_usize_get c.args.capacity) c.args.known c.args.skipped c.requires.known c.args.policy c.in-Some.ensures.known

pub returns-then-not-has_sizes-clause-bytes : goal.returns-then-not-has_sizes-clause-bytes
returns-then-not-has_sizes-clause-bytes g c =
    let trace = c.args.trace.now in
    let room = non_zero_usize_get c.args.capacity in
    let unsized : trace.is_sized ≡ false = sym c.has_sizes.ensures.sized ∙ c.if-not-has_sizes.true in
    let replay = known-replay c.args.shares trace.numbers room c.args.known c.args.policy c.in-Some.ensures.known in
    known-bytes c.args.shares trace.numbers (sizes_of trace) room c.args.skipped (length trace.numbers) c.args.policy replay.0 replay.1
    (ap (λ sized. kept_sizes sized (sampled trace.sample trace.accesses)) unsized)

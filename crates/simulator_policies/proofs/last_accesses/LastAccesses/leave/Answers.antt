use Rattle.std.proofs.Common.{◌≡◌, ◌-◌, suc, ap, sym, ◌∙◌, arith, get_or, length}
use Rattle.std.specs.Prelude.{Some}
use Rattle.std.proofs.lemmas.List.{get_or_default}
use Rattle.simulator_policies.specs.Stamps.{held_at}
use Rattle.simulator_policies.proofs.LastAccesses.{distance-held, distance-new, left-none, left-one, left-some}
use Rattle.simulator_policies.proofs.last_accesses.LastAccesses.leave.Goals as goal

pub newer-distance-requires-clause-from : goal.newer-distance-requires-clause-from
newer-distance-requires-clause-from g c =
    let read : get_or c.args.self.now.stamps.items (get_or c.args.trace.now c.args.at 0) 0 ≡ c.index-stamp.result.now =
    get_or_default c.args.self.now.stamps.items (get_or c.args.trace.now c.args.at 0) 0 c.index-stamp.result.now
    (c.requires.counting.known c.args.at c.requires.at) ∙ sym c.index-stamp.ensures in
    omega (arith, read, c.requires.counting.stamped.bound (get_or c.args.trace.now c.args.at 0))

pub remove-requires-clause-block : goal.remove-requires-clause-block
remove-requires-clause-block g c =
    let read : get_or c.args.self.now.stamps.items (get_or c.args.trace.now c.args.at 0) 0 ≡ c.index-stamp.result.now =
    get_or_default c.args.self.now.stamps.items (get_or c.args.trace.now c.args.at 0) 0 c.index-stamp.result.now
    (c.requires.counting.known c.args.at c.requires.at) ∙ sym c.index-stamp.ensures in
    omega (arith, read, c.requires.counting.stamped.bound (get_or c.args.trace.now c.args.at 0), c.requires.counting.counts.covers)

pub remove-requires-clause-some : goal.remove-requires-clause-some
remove-requires-clause-some g c =
    let read : get_or c.args.self.now.stamps.items (get_or c.args.trace.now c.args.at 0) 0 ≡ c.index-stamp.result.now =
    get_or_default c.args.self.now.stamps.items (get_or c.args.trace.now c.args.at 0) 0 c.index-stamp.result.now
    (c.requires.counting.known c.args.at c.requires.at) ∙ sym c.index-stamp.ensures in
    let last : get_or c.args.self.now.stamps.items (get_or c.args.trace.now c.args.at 0) 0 ≡ suc (c.index-stamp.result.now - 1) = omega (arith, read) in
    left-some c.args.trace.now c.args.self.now.stamps.items c.args.at
    (get_or c.args.trace.now c.args.at 0) c.args.self.now.counts c.args.self.now.counts c.requires.counting.stamped
    (c.index-stamp.result.now - 1) last c.requires.counting.counts
    (omega (arith, read, c.requires.counting.stamped.bound (get_or c.args.trace.now c.args.at 0), c.requires.counting.counts.covers))

pub returns-then-stamp-eq0-clause-distance : goal.returns-then-stamp-eq0-clause-distance
returns-then-stamp-eq0-clause-distance g c =
    let read : get_or c.args.self.now.stamps.items (get_or c.args.trace.now c.args.at 0) 0 ≡ c.index-stamp.result.now =
    get_or_default c.args.self.now.stamps.items (get_or c.args.trace.now c.args.at 0) 0 c.index-stamp.result.now
    (c.requires.counting.known c.args.at c.requires.at) ∙ sym c.index-stamp.ensures in
    sym (distance-new c.args.trace.now c.args.self.now.stamps.items (get_or c.args.trace.now c.args.at 0) c.args.at c.requires.counting.stamped (omega (arith, read)))

pub returns-then-stamp-eq0-clause-counts : goal.returns-then-stamp-eq0-clause-counts
returns-then-stamp-eq0-clause-counts g c =
    let read : get_or c.args.self.now.stamps.items (get_or c.args.trace.now c.args.at 0) 0 ≡ c.index-stamp.result.now =
    get_or_default c.args.self.now.stamps.items (get_or c.args.trace.now c.args.at 0) 0 c.index-stamp.result.now
    (c.requires.counting.known c.args.at c.requires.at) ∙ sym c.index-stamp.ensures in
    left-none c.args.trace.now c.args.self.now.stamps.items c.args.at
    (get_or c.args.trace.now c.args.at 0) c.args.self.now.counts c.args.self.now.counts c.requires.counting.stamped
    (omega (arith, read)) c.requires.counting.counts

pub returns-clause-distance : goal.returns-clause-distance
returns-clause-distance g c =
    let read : get_or c.args.self.now.stamps.items (get_or c.args.trace.now c.args.at 0) 0 ≡ c.index-stamp.result.now =
    get_or_default c.args.self.now.stamps.items (get_or c.args.trace.now c.args.at 0) 0 c.index-stamp.result.now
    (c.requires.counting.known c.args.at c.requires.at) ∙ sym c.index-stamp.ensures in
    let count : length
    (held_at c.args.trace.now c.args.self.now.stamps.items
    (get_or c.args.self.now.stamps.items (get_or c.args.trace.now c.args.at 0) 0) c.args.at) ≡ c.newer-distance.result =
    ap (λ from. length (held_at c.args.trace.now c.args.self.now.stamps.items from c.args.at)) read
    ∙ sym c.newer-distance.ensures in
    sym (distance-held c.args.trace.now c.args.self.now.stamps.items (get_or c.args.trace.now c.args.at 0) c.args.at c.requires.counting.stamped (omega (arith, read)) ∙ ap Some count)

pub returns-clause-counts : goal.returns-clause-counts
returns-clause-counts g c =
    let read : get_or c.args.self.now.stamps.items (get_or c.args.trace.now c.args.at 0) 0 ≡ c.index-stamp.result.now =
    get_or_default c.args.self.now.stamps.items (get_or c.args.trace.now c.args.at 0) 0 c.index-stamp.result.now
    (c.requires.counting.known c.args.at c.requires.at) ∙ sym c.index-stamp.ensures in
    let last : get_or c.args.self.now.stamps.items (get_or c.args.trace.now c.args.at 0) 0 ≡ suc (c.index-stamp.result.now - 1) = omega (arith, read) in
    left-one c.args.trace.now c.args.self.now.stamps.items c.args.at
    (get_or c.args.trace.now c.args.at 0) c.args.self.now.counts c.remove.new.self c.requires.counting.stamped
    (c.index-stamp.result.now - 1) last c.requires.counting.counts
    c.remove.ensures.tree c.remove.ensures.blocks c.remove.ensures.counted c.remove.ensures.others c.remove.ensures.most

use Rattle.clock2q_directory.proofs.Names.{ap, drop, sym, ◌∙◌, arith, find, slots_among, is_key_at, comparisons_of}
use Rattle.clock2q_directory.proofs.Looking.{compared-slot}
use Rattle.clock2q_directory.proofs.Lookups.{compared-found, is_empty}
use Rattle.clock2q_directory.proofs.keys.Keys.find_counting_in.Goals as goal

pub is_counting_in-requires : goal.is_counting_in-requires
is_counting_in-requires g c = record { used = (compared-slot c.loop-handle.handles.left c.loop-handle.invariant c.in-Some.ensures.candidate c.in-Resident.ensures.unpacked).there.0 }

pub returns-then-is_counting_in-clause-found : goal.returns-then-is_counting_in-clause-found
returns-then-is_counting_in-clause-found g c =
    (compared-found c.in-Resident.slot (slots_among (drop 1 c.loop-handle.handles.left))
    (compared-slot c.loop-handle.handles.left c.loop-handle.invariant c.in-Some.ensures.candidate c.in-Resident.ensures.unpacked) (sym c.if-is_counting_in.true ∙ c.is_counting_in.ensures.value)).0

pub returns-then-is_counting_in-clause-counted : goal.returns-then-is_counting_in-clause-counted
returns-then-is_counting_in-clause-counted g c =
    c.is_counting_in.ensures.counted ∙ (compared-found c.in-Resident.slot (slots_among (drop 1 c.loop-handle.handles.left))
    (compared-slot c.loop-handle.handles.left c.loop-handle.invariant c.in-Some.ensures.candidate c.in-Resident.ensures.unpacked) (sym c.if-is_counting_in.true ∙ c.is_counting_in.ensures.value)).1

pub returns-clause-found : goal.returns-clause-found
returns-clause-found g c =
    let test = is_key_at g.K.PartialEq.eq c.args.key.now c.args.self.now.entries in
    sym (c.loop-handle.invariant.found ∙ ap (λ hs. find test (slots_among hs)) (is_empty c.in_default.ensures.candidate))

pub returns-clause-counted : goal.returns-clause-counted
returns-clause-counted g c =
    let test = is_key_at g.K.PartialEq.eq c.args.key.now c.args.self.now.entries in
    omega (arith, c.loop-handle.invariant.comparisons, ap (λ hs. comparisons_of test (slots_among hs)) (is_empty c.in_default.ensures.candidate))

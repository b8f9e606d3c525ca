use Rattle.clock2q_directory.proofs.Names.{◌≡◌, ◌+◌, ℕ, Bool, drop, ap, sym, ◌∙◌, subst, arith, IsSome, find, slots_among, KeyPlaces, is_key_at, comparisons_of}
use Rattle.clock2q_directory.proofs.Looking.{compared-slot}
use Rattle.clock2q_directory.proofs.Lookups.{compared-found}
use Rattle.clock2q_directory.proofs.keys.Keys.find.Goals as goal

pub peek_or_gap-requires : goal.peek_or_gap-requires
peek_or_gap-requires g c = record { walking = subst IsSome (sym c.loop-handle.invariant.2) c.requires.walking }

pub key_equals-requires : goal.key_equals-requires
key_equals-requires g c = record {
  used = rw (ap (λ (z : KeyPlaces _ _). z.entries) c.loop-handle.invariant.1)
      (compared-slot c.loop-handle.handles.left c.loop-handle.invariant.0 (sym c.in-Ok.ensures.candidate) c.in-Resident.ensures.unpacked).there.0;
}

pub returns-then-key_equals : goal.returns-then-key_equals
returns-then-key_equals g c =
    let old = c.args.self.now in
    let it = ap (λ (z : KeyPlaces _ _). is_key_at g.K.PartialEq.eq c.args.key.now z.entries c.in-Resident.slot) c.loop-handle.invariant.1 in
    let r = compared-found c.in-Resident.slot (slots_among (drop 1 c.loop-handle.handles.left))
    (compared-slot c.loop-handle.handles.left c.loop-handle.invariant.0 (sym c.in-Ok.ensures.candidate) c.in-Resident.ensures.unpacked) (sym c.if-key_equals.true ∙ c.key_equals.ensures.value ∙ it) in
    record {
      found = r.0;
      counted = c.key_equals.ensures.counted
          ∙ ap (λ (z : KeyPlaces _ _). record z { comparisons = c.loop-handle.self.comparisons + 1 }) c.loop-handle.invariant.1
          ∙ ap (λ n. record old { comparisons = n }) r.1;
    }

pub returns : goal.returns
returns g c =
    let old = c.args.self.now in
    let test : ℕ → Bool = is_key_at g.K.PartialEq.eq c.args.key.now old.entries in
    let none = c.in_default.ensures.none in
    let compared : c.loop-handle.self.comparisons ≡ old.comparisons + comparisons_of test (slots_among c.args.handles.left) =
    omega (arith, c.loop-handle.invariant.0.comparisons, ap (λ hs. comparisons_of test (slots_among hs)) none) in
    record {
      found = sym (c.loop-handle.invariant.0.found ∙ ap (λ hs. find test (slots_among hs)) none);
      counted = c.loop-handle.invariant.1 ∙ ap (λ n. record old { comparisons = n }) compared;
    }

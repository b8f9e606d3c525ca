use Rattle.clock2q_directory.proofs.Names.{ap, sym, ◌∙◌, subst, arith, IsSome, Found, first_known, is_key_at}
use Rattle.clock2q_directory.proofs.Looking.{looks-next, resident-there, resident-found, place-there, place-found}
use Rattle.clock2q_directory.proofs.directory.lookups.look_among.Goals as goal

pub key_equals-requires : goal.key_equals-requires
key_equals-requires g c =
    record {
      used = rw (ap (λ r. r.entries) c.loop-handle.invariant.residents)
          (resident-there _ _ _ (looks-next _ _ _ c.loop-handle.invariant.looks (sym c.in-Ok.ensures.candidate)) c.in-Resident.ensures.unpacked);
    }

pub returns-then-key_equals-clause-found : goal.returns-then-key_equals-clause-found
returns-then-key_equals-clause-found g c =
    let it = sym c.if-key_equals.true ∙ c.key_equals.ensures.value ∙ ap (λ r. is_key_at g.K.PartialEq.eq c.args.key.now r.entries c.in-Resident.slot) c.loop-handle.invariant.residents in
    (resident-found _ _ _ (looks-next _ _ _ c.loop-handle.invariant.looks (sym c.in-Ok.ensures.candidate)) c.in-Resident.ensures.unpacked it).0

pub returns-then-key_equals-clause-compared : goal.returns-then-key_equals-clause-compared
returns-then-key_equals-clause-compared g c =
    let it = sym c.if-key_equals.true ∙ c.key_equals.ensures.value ∙ ap (λ r. is_key_at g.K.PartialEq.eq c.args.key.now r.entries c.in-Resident.slot) c.loop-handle.invariant.residents in
    let on = looks-next _ _ _ c.loop-handle.invariant.looks (sym c.in-Ok.ensures.candidate) in
    let counted = ap (λ r. r.comparisons) c.key_equals.ensures.counted in
    (omega (arith, on.compared_from, counted), omega (arith, (resident-found _ _ _ on c.in-Resident.ensures.unpacked it).1, counted))

pub key_equals-requires-in-Remembered : goal.key_equals-requires-in-Remembered
key_equals-requires-in-Remembered g c =
    record {
      used = rw (ap (λ r. r.entries) c.loop-handle.invariant.remembered)
          (place-there _ _ _ (looks-next _ _ _ c.loop-handle.invariant.looks (sym c.in-Ok.ensures.candidate)) c.in-Remembered.ensures.unpacked);
    }

pub returns-then-key_equals-2-clause-found : goal.returns-then-key_equals-2-clause-found
returns-then-key_equals-2-clause-found g c =
    let is = c.key_equals-in-Remembered.ensures in
    let it = sym c.if-key_equals-2.true ∙ is.value ∙ ap (λ r. is_key_at g.K.PartialEq.eq c.args.key.now r.entries c.in-Remembered.place) c.loop-handle.invariant.remembered in
    (place-found _ _ _ (looks-next _ _ _ c.loop-handle.invariant.looks (sym c.in-Ok.ensures.candidate)) c.in-Remembered.ensures.unpacked it).0

pub returns-then-key_equals-2-clause-comparisons : goal.returns-then-key_equals-2-clause-comparisons
returns-then-key_equals-2-clause-comparisons g c =
    let is = c.key_equals-in-Remembered.ensures in
    let it = sym c.if-key_equals-2.true ∙ is.value ∙ ap (λ r. is_key_at g.K.PartialEq.eq c.args.key.now r.entries c.in-Remembered.place) c.loop-handle.invariant.remembered in
    let on = looks-next _ _ _ c.loop-handle.invariant.looks (sym c.in-Ok.ensures.candidate) in
    let counted = ap (λ r. r.comparisons) is.counted in
    (omega (arith, on.comparisons_from, counted), omega (arith, (place-found _ _ _ on c.in-Remembered.ensures.unpacked it).2, counted))

pub peek_or_gap-requires : goal.peek_or_gap-requires
peek_or_gap-requires g c = record { walking = subst IsSome (sym c.loop-handle.invariant.end) c.requires.walking }

pub returns-in-Err-clause-found : goal.returns-in-Err-clause-found
returns-in-Err-clause-found g c =
    let a = is_key_at g.K.PartialEq.eq c.args.key.now c.args.residents.now.entries in
    let b = is_key_at g.K.PartialEq.eq c.args.key.now c.args.remembered.now.entries in
    let end = c.loop-handle.invariant.end in
    ap (λ e. Found.Absent e) (sym c.in-Err.ensures.gap ∙ end) ∙ sym (c.loop-handle.invariant.looks.first ∙ ap (λ hs. first_known a b c.args.handles.end hs) c.in-Err.ensures.none)

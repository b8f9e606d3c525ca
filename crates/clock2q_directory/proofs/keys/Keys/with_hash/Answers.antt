use Rattle.clock2q_directory.proofs.Names.{ap, drop, sym, ◌∙◌, slice_get, filter, slots_among, has_hash}
use Rattle.clock2q_directory.proofs.Lookups.{is_empty}
use Rattle.clock2q_directory.proofs.WithHash.{sought-slot, sought-found, hash-compared}
use Rattle.clock2q_directory.proofs.keys.Keys.with_hash.Goals as goal

pub hash-requires : goal.hash-requires
hash-requires g c = record { used = (sought-slot c.loop-handle.handles.left c.loop-handle.invariant c.in-Some.ensures.candidate c.in-Resident.ensures.unpacked).there.0 }

pub returns-then-more-eq0 : goal.returns-then-more-eq0
returns-then-more-eq0 g c = record {
  found = sought-found c.in-Resident.slot (slots_among (drop 1 c.loop-handle.handles.left))
      (sought-slot c.loop-handle.handles.left c.loop-handle.invariant c.in-Some.ensures.candidate c.in-Resident.ensures.unpacked)
      (hash-compared c.args.self.now.entries c.args.hash c.in-Resident.slot c.hash.ensures.hash c.if-hash.true) c.if-more-eq0.true;
}

pub returns : goal.returns
returns g c = record {
  found = sym (c.loop-handle.invariant.found
      ∙ ap (λ hs. slice_get (filter (has_hash c.args.self.now.entries c.args.hash) (slots_among hs)) c.loop-handle.more)
      (is_empty c.in_default.ensures.candidate));
}

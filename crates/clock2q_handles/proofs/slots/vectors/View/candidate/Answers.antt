use Rattle.std.proofs.Common.{ℕ, ◌<◌, ◌≤◌, List, length, Option, Some, None, refl, sym, ◌∙◌, arith}
use Rattle.std.specs.Prelude.{IsSome}
use Rattle.clock2q_handles.specs.Candidates.{IsLookup}
use Rattle.clock2q_handles.specs.Layout.{Placed, slot_at, reach}
use Rattle.clock2q_handles.specs.Slots.{Mark, meaning, sought, mark_reach}
use Rattle.clock2q_handles.proofs.shifts.Carrying.{walks_on}
use Rattle.clock2q_handles.proofs.shifts.Moves.{reach_of_meaning, refused}
use Rattle.clock2q_handles.proofs.walks.Cursors.{lookup_ends, lookup_steps, goes_on, HasStepped}
use Rattle.clock2q_handles.proofs.slots.vectors.View.candidate.Given.{Over}
use Rattle.clock2q_handles.proofs.slots.vectors.View.candidate.Goals.{After-next-wanted, At-loop-metadata}
use Rattle.clock2q_handles.proofs.slots.vectors.View.candidate.Goals as goal

pub loop-metadata-init : goal.loop-metadata-init
loop-metadata-init g c = record { lookup = c.requires.lookup; some = c.requires.some; walks = λ x walk. walk; reads = omega arith; left = refl; read = refl }

-- a lookup that looks for something is in a slot
lookup_within : {H : Type 0} (slots : List (Option (Placed (ℕ × H)))) (s : Mark) (n : ℕ) → IsSome s → IsLookup slots s n → n < length slots
lookup_within slots None n some lookup = absurd (cc)
lookup_within slots (Some s) n some lookup = omega (arith, lookup.walk.slot, lookup.walk.within)

-- the slot that the walk has reached
within : (g : Over) (c : At-loop-metadata g) → c.loop-metadata.slot < length c.args.self.now
within g c = lookup_within c.args.self.now (sought c.loop-metadata.wanted) c.loop-metadata.slot c.loop-metadata.invariant.some c.loop-metadata.invariant.lookup

pub read-metadata-requires : goal.read-metadata-requires
read-metadata-requires g c = within g (goal.at.read-metadata-requires g c).At-loop-metadata

pub returns-then-is : goal.returns-then-is
returns-then-is g c =
    let l = c.loop-metadata.invariant in
    record {
      lookup = l.lookup;
      within = within g (goal.at.returns-then-is g c).At-loop-metadata;
      some = l.some;
      found = sym c.read-metadata.ensures.meaning ∙ c.is.ensures.0 c.if-is.true;
      left = l.left;
      read = omega (arith, l.read, c.read-metadata.ensures.counted);
      reads = omega (arith, l.reads, c.read-metadata.ensures.counted);
      none = tt;
      read_all = tt;
      walks = λ x walk. l.walks x walk;
      ends = λ x walk. tt;
    }

pub returns-then-ends_walk_for : goal.returns-then-ends_walk_for
returns-then-ends_walk_for g c =
    let slots = c.args.self.now in
    let n = c.loop-metadata.slot in
    let wanted = sought c.loop-metadata.wanted in
    let l = c.loop-metadata.invariant in
    let stop : reach (slot_at slots n) < mark_reach wanted = omega (arith, c.ends_walk_for.ensures.0 c.if-ends_walk_for.true, reach_of_meaning (meaning c.read-metadata.result) (slot_at slots n) c.read-metadata.ensures.meaning) in
    let ended = lookup_ends slots wanted n l.some l.lookup stop in
    record {
      lookup = tt;
      within = tt;
      some = tt;
      found = tt;
      left = tt;
      read = tt;
      reads = omega (arith, l.reads, c.read-metadata.ensures.counted);
      none = l.left ∙ ended.0;
      read_all = omega (arith, l.read, ended.1, c.read-metadata.ensures.counted);
      walks = λ x walk. tt;
      ends = λ x walk. record { walk = l.walks x walk; stop = stop };
    }

-- the walk goes on to the next slot
gone : (g : Over) (c : After-next-wanted g) → let slots = c.args.self.now in
    (mark_reach (sought c.loop-metadata.wanted) ≤ reach (slot_at slots c.loop-metadata.slot))
    × HasStepped slots (sought c.loop-metadata.wanted) (sought c.next-wanted.result) c.loop-metadata.slot c.after-slot.result
gone g c =
    let slots = c.args.self.now in
    let l = c.loop-metadata.invariant in
    let far = goes_on slots c.ends_walk_for.result (sought c.loop-metadata.wanted) (meaning c.read-metadata.result) c.loop-metadata.slot c.ends_walk_for.ensures c.if-ends_walk_for.false c.read-metadata.ensures.meaning in
    (far, lookup_steps slots (sought c.loop-metadata.wanted) (sought c.next-wanted.result) c.loop-metadata.slot c.after-slot.result l.some c.next-wanted.ensures c.after-slot.ensures.after l.lookup far)

pub loop-metadata-smaller : goal.loop-metadata-smaller
loop-metadata-smaller g c = let next = gone g (goal.at.loop-metadata-smaller g c).After-next-wanted in omega (arith, next.1.read)

pub loop-metadata-preserved : goal.loop-metadata-preserved
loop-metadata-preserved g c =
    let next = gone g (goal.at.loop-metadata-preserved g c).After-next-wanted in
    let l = c.loop-metadata.invariant in
    record {
      lookup = next.1.lookup;
      some = next.1.some;
      walks = λ x walk. walks_on _ l.lookup.tidy x _ _ _ _ (l.walks x walk) next.0 c.next-wanted.ensures c.after-slot.ensures.after;
      reads = omega arith;
      left = grind (arith, next, refused c.is.result c.is.ensures c.if-is.false);
      read = omega (arith, next.1.read);
    }

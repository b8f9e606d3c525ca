use Rattle.std.proofs.Common.{◌≡◌, ◌+◌, ◌%◌, [], ◌∷◌, ◌++◌, length, true, false, Some, None, refl, sym, ap, ◌∙◌, subst, arith}
use Rattle.std.proofs.lemmas.List.{append_assoc}
use Rattle.std.specs.Fn.{Called}
use Rattle.clock2q_handles.specs.Candidates.{left_at}
use Rattle.clock2q_handles.specs.Offers.{Offers, TakesInTurn}
use Rattle.clock2q_handles.specs.Slots.{sought, mark_on}
use Rattle.clock2q_handles.proofs.offers.Accepting.{Offers-push, offered_met}
use Rattle.clock2q_handles.proofs.shifts.Carrying.{walks_begin, walks_on}
use Rattle.clock2q_handles.proofs.walks.Cursors.{HasStepped, HasFound, has_found, begins_whole, lookup_begins}
use Rattle.clock2q_handles.proofs.walks.Finding.{candidate}
use Rattle.clock2q_handles.proofs.slots.vectors.View.offer.Given.{Over}
use Rattle.clock2q_handles.proofs.slots.vectors.View.offer.Goals.{After-handle-handle}
use Rattle.clock2q_handles.proofs.slots.vectors.View.offer.Goals as goal

pub loop-gap-init : goal.loop-gap-init
loop-gap-init g c =
    let whole = begins_whole c.args.self.now c.args.hash c.home-slot.result c.requires.tidy c.requires.near c.requires.some (c.home-slot.ensures.home c.requires.some) in
    grind (arith, lookup_begins c.args.self.now c.args.hash, walks_begin c.args.self.now c.requires.tidy c.args.hash)

pub returns-in-Err : goal.returns-in-Err
returns-in-Err g c =
    let f = c.loop-gap.matches in
    let l = c.loop-gap.invariant in
    let ended = c.in-Err.ensures in
    record {
      offers = l.offers None f (subst (λ hs. Offers g.F.FnMut f hs None f) (sym ended.none) (refl, refl));
      at = tt;
      ends = ended.ends c.args.hash l.walk;
      reads = omega (arith, l.reads, c.candidate.ensures.reads);
      read = omega (arith, l.read, ended.read_all);
      read_all = omega (arith, l.read, ended.read_all);
    }

-- the candidate that was found
found : (g : Over) (c : After-handle-handle g)
    → HasFound c.args.self.now (sought c.loop-gap.wanted) (sought c.in-Ok.found)
    c.loop-gap.slot c.in-Ok.here c.handle-handle.result c.loop-gap.reads.total c.candidate.new.reads.total
found g c = let is = c.in-Ok.ensures in has_found c.args.self.now c.handle-handle.result is.lookup is.some is.found is.left c.handle-handle.ensures.handle is.read

-- it is the first that is left, and the walk goes on after it
first : (g : Over) (c : After-handle-handle g) → let slots = c.args.self.now in let next = (c.in-Ok.here + 1) % length slots in
    HasStepped slots (sought c.in-Ok.found) (mark_on (sought c.in-Ok.found)) c.in-Ok.here next
    × (left_at slots (sought c.loop-gap.wanted) c.loop-gap.slot ≡ c.handle-handle.result ∷ left_at slots (mark_on (sought c.in-Ok.found)) next)
first g c = (found g c).on (mark_on (sought c.in-Ok.found)) ((c.in-Ok.here + 1) % length c.args.self.now) refl refl

pub matches-requires : goal.matches-requires
matches-requires g c =
    let next = first g (goal.at.matches-requires g c).After-handle-handle in (subst (λ hs. TakesInTurn g.F.FnMut c.loop-gap.matches hs) next.1 c.loop-gap.invariant.callable).0

pub returns-then-matches : goal.returns-then-matches
returns-then-matches g c =
    let slots = c.args.self.now in
    let l = c.loop-gap.invariant in
    let before = (goal.at.returns-then-matches g c).After-handle-handle in
    let next = first g before in
    let walk = c.in-Ok.ensures.walks c.args.hash l.walk in
    let r = c.handle-handle.result in
    let f = c.matches.new.self in
    let called = subst (λ b. Called g.F.FnMut c.loop-gap.matches (r, tt) b f) c.if-matches.true c.matches.ensures in
    let met = offered_met slots c.requires.tidy c.args.hash (sought c.in-Ok.found) c.in-Ok.here l.rejected.0 walk (l.rejected.1 ∙ ap (λ hs. l.rejected.0 ++ hs) c.in-Ok.ensures.left) in
    record {
      offers = l.offers (Some r) f (subst (λ hs. Offers g.F.FnMut c.loop-gap.matches hs (Some r) f) (sym next.1) (true, f, called, (refl, refl)));
      at = record {
        at = record { distance = walk.distance; come = walk.come; here = candidate c.args.hash _ _ _ _ (sym c.in-Ok.ensures.found) walk.mark c.handle-handle.ensures.handle };
        accepts = record {
          asked = c.loop-gap.matches;
          last = f;
          rejects = subst (λ hs. Offers g.F.FnMut c.args.matches.now hs None c.loop-gap.matches) met l.rejected.2;
          accepts = called;
        };
      };
      ends = tt;
      reads = omega (arith, l.reads, c.candidate.ensures.reads);
      read = omega (arith, l.read, (found g before).read, next.0.read);
      read_all = tt;
    }

pub loop-gap-smaller : goal.loop-gap-smaller
loop-gap-smaller g c =
    let here = found g (goal.at.loop-gap-smaller g c).After-handle-handle in
    let next = here.on (sought c.next-wanted.result) c.after-slot.result c.next-wanted.ensures c.after-slot.ensures.after in
    omega (arith, here.read, next.0.read, c.candidate.ensures.reads)

pub loop-gap-preserved : goal.loop-gap-preserved
loop-gap-preserved g c =
    let slots = c.args.self.now in
    let l = c.loop-gap.invariant in
    let here = found g (goal.at.loop-gap-preserved g c).After-handle-handle in
    let next = here.on (sought c.next-wanted.result) c.after-slot.result c.next-wanted.ensures c.after-slot.ensures.after in
    let walk = c.in-Ok.ensures.walks c.args.hash l.walk in
    let r = c.handle-handle.result in
    let f = c.matches.new.self in
    let called = subst (λ b. Called g.F.FnMut c.loop-gap.matches (r, tt) b f) c.if-matches.false c.matches.ensures in
    record {
      lookup = next.0.lookup;
      some = next.0.some;
      walk = walks_on slots c.requires.tidy c.args.hash (sought c.in-Ok.found) (sought c.next-wanted.result) c.in-Ok.here c.after-slot.result walk here.far c.next-wanted.ensures c.after-slot.ensures.after;
      reads = omega arith;
      read = omega (arith, here.read, next.0.read);
      rejected = (
        l.rejected.0 ++ r ∷ [],
        l.rejected.1 ∙ ap (λ hs. l.rejected.0 ++ hs) next.1 ∙ sym (append_assoc l.rejected.0 (r ∷ []) _),
        Offers-push g.F.FnMut c.args.matches.now l.rejected.0 c.loop-gap.matches r f l.rejected.2 called,
      );
      callable = (subst (λ hs. TakesInTurn g.F.FnMut c.loop-gap.matches hs) next.1 l.callable).1 f called;
      offers = λ found last given. l.offers found last (subst (λ hs. Offers g.F.FnMut c.loop-gap.matches hs found last) (sym next.1) (false, f, called, given));
    }

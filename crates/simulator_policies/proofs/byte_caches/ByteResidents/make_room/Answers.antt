use Rattle.std.proofs.Common.{◌≡◌, ◌∙◌, ◌+◌, [], refl, sym, ap, arith}
use Rattle.simulator_policies.specs.declared.byte_caches.ByteResidents.{ByteResidents}
use Rattle.simulator_policies.specs.ByteCaches.{fitting, total}
use Rattle.simulator_policies.specs.ByteResidents.{entries_by}
use Rattle.simulator_policies.proofs.ByteHolding.{all-fit, evicted, none-held, passed-on, pays}
use Rattle.simulator_policies.proofs.byte_caches.ByteResidents.make_room.Goals.{then-index-self, else-index-self}
use Rattle.simulator_policies.proofs.byte_caches.ByteResidents.make_room.Goals as goal

pub overflow_sub-self : goal.overflow_sub-self
overflow_sub-self g c =
    let s = c.loop-self.self in
    let paid = pays c.args.trace.now c.args.at c.args.room s
    (record { stamps = s.stamps; sizes = s.sizes; left = s.left + 1; used = s.used })
    c.loop-self.invariant.holding c.requires.at c.if-self-at.true
    refl refl refl c.index.result.now c.index.ensures c.if-index-self.true c.index-then-index-self.result.now c.index-then-index-self.ensures in
    omega (arith, paid)

pub loop-self-preserved : goal.loop-self-preserved
loop-self-preserved g c =
    let s = c.loop-self.self in
    let is = c.loop-self.invariant in
    let at = c.if-index-self.self in
    let new : ByteResidents _ = record { stamps = at.stamps; sizes = at.sizes; left = at.left + 1; used = at.used } in
    elim c.if-index-self.branch [
      | then-index-self w ↦
          let step = evicted c.args.trace.now c.args.at c.args.room s new is.holding c.requires.at c.if-self-at.true
          (ap (λ r. r.stamps) w.self-is) (ap (λ r. r.sizes) w.self-is) (ap (λ r. r.left + 1) w.self-is) c.index.result.now c.index.ensures w.if-index-self.true
          w.index-then-index-self.result.now w.index-then-index-self.ensures c.loop-self-test.true (ap (λ r. r.used) w.self-is) in
          record {
            holding = step.0;
            stamps = ap (λ r. r.stamps) w.self-is ∙ is.stamps;
            sizes = ap (λ r. r.sizes) w.self-is ∙ is.sizes;
            order = omega (arith, ap (λ r. r.left) w.self-is, is.order);
            fits = step.1 ∙ is.fits;
          }
      | else-index-self w ↦
          let step = passed-on c.args.trace.now c.args.at c.args.room s new is.holding c.requires.at c.if-self-at.true
          (ap (λ r. r.stamps) w.self-is) (ap (λ r. r.sizes) w.self-is) (ap (λ r. r.left + 1) w.self-is) c.index.result.now c.index.ensures w.if-index-self.false (ap (λ r. r.used) w.self-is) in
          record {
            holding = step.0;
            stamps = ap (λ r. r.stamps) w.self-is ∙ is.stamps;
            sizes = ap (λ r. r.sizes) w.self-is ∙ is.sizes;
            order = omega (arith, ap (λ r. r.left) w.self-is, is.order);
            fits = step.1 ∙ is.fits;
          }
    ]

pub returns-else-self-at-clause-held : goal.returns-else-self-at-clause-held
returns-else-self-at-clause-held g c =
    let s = c.loop-self.self in
    let none : entries_by c.args.trace.now c.args.at s ≡ [] = none-held c.args.trace.now s.stamps.items s.sizes.items s.left c.args.at (omega (arith, c.if-self-at.false)) in
    none ∙ sym (ap (fitting c.args.room) none) ∙ c.loop-self.invariant.fits

pub returns-else-self-at-clause-room : goal.returns-else-self-at-clause-room
returns-else-self-at-clause-room g c =
    let s = c.loop-self.self in
    let none : entries_by c.args.trace.now c.args.at s ≡ [] = none-held c.args.trace.now s.stamps.items s.sizes.items s.left c.args.at (omega (arith, c.if-self-at.false)) in
    omega (arith, c.loop-self.invariant.holding.used, ap total none)

pub returns-after-loop-self-clause-held : goal.returns-after-loop-self-clause-held
returns-after-loop-self-clause-held g c =
    let s = c.loop-self.self in
    sym (all-fit c.args.room (entries_by c.args.trace.now c.args.at s) (omega (arith, c.loop-self-test.false, c.loop-self.invariant.holding.used))) ∙ c.loop-self.invariant.fits

use Rattle.std.proofs.Common.{◌≡◌, refl, arith, subst, length, take, ◌-◌}
use Rattle.simulator_policies.specs.Stamps.{held_at}
use Rattle.simulator_policies.proofs.Holding.{came-room, came-full, holds-room, holds-full}
use Rattle.simulator_policies.proofs.plain.Residents.bring.Goals.{then-self-get, else-self-get}
use Rattle.simulator_policies.proofs.plain.Residents.bring.Goals as goal

pub returns-clause-held : goal.returns-clause-held
returns-clause-held g c = elim c.if-self-get.branch [
  | then-self-get w ↦
      let front = subst
      (λ stamps. held_at c.args.trace.now stamps w.after_oldest-self.result c.args.at ≡
      take (length (held_at c.args.trace.now stamps c.args.self.now.left c.args.at) - 1)
      (held_at c.args.trace.now stamps c.args.self.now.left c.args.at)) w.deref.ensures.value
      w.after_oldest-self.ensures.front in
      rw w.self-is (came-full _ _ _ c.args.self.now c.requires.holding c.requires.at c.requires.absent _ w.after_oldest-self.ensures.within (omega arith) (omega arith) front)
  | else-self-get w ↦ rw w.self-is (came-room _ _ _ c.args.self.now c.requires.holding c.requires.at c.requires.absent (omega arith))
]

pub returns-clause-holding : goal.returns-clause-holding
returns-clause-holding g c = elim c.if-self-get.branch [
  | then-self-get w ↦
      let front = subst
      (λ stamps. held_at c.args.trace.now stamps w.after_oldest-self.result c.args.at ≡
      take (length (held_at c.args.trace.now stamps c.args.self.now.left c.args.at) - 1)
      (held_at c.args.trace.now stamps c.args.self.now.left c.args.at)) w.deref.ensures.value
      w.after_oldest-self.ensures.front in
      rw w.self-is (holds-full _ _ _ c.args.self.now c.requires.holding c.requires.at _ refl w.after_oldest-self.ensures.within refl c.requires.absent (omega arith) (omega arith) front)
  | else-self-get w ↦ rw w.self-is (holds-room _ _ _ c.args.self.now c.requires.holding c.requires.at _ refl refl refl c.requires.absent (omega arith))
]

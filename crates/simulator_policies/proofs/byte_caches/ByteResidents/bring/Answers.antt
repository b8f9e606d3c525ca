use Rattle.std.proofs.Common.{◌∙◌, ◌∷◌, get_or, refl, ap, arith}
use Rattle.std.proofs.lemmas.Bool.{le-leb}
use Rattle.simulator_policies.proofs.ByteHolding.{byte-came, byte-holds-came, still-absent}
use Rattle.simulator_policies.proofs.byte_caches.ByteResidents.bring.Goals as goal

pub returns-clause-held : goal.returns-clause-held
returns-clause-held g c =
    let made = c.make_room.ensures in
    let absent = still-absent c.args.trace.now c.args.at c.args.self.now c.make_room.new.self c.requires.holding c.requires.at made.stamps made.order c.requires.absent in
    rw (le-leb c.args.size c.args.capacity (omega (arith, c.if-capacity-size.false)))
    (byte-came c.args.trace.now c.args.at c.make_room.new.self made.holding c.requires.at c.args.size absent
    ∙ ap (λ rest. record { key = get_or c.args.trace.now c.args.at 0; size = c.args.size } ∷ rest) made.held)

pub returns-clause-holding : goal.returns-clause-holding
returns-clause-holding g c =
    let made = c.make_room.ensures in
    let absent = still-absent c.args.trace.now c.args.at c.args.self.now c.make_room.new.self c.requires.holding c.requires.at made.stamps made.order c.requires.absent in
    byte-holds-came c.args.trace.now c.args.at c.make_room.new.self made.holding c.requires.at c.args.size absent _ refl refl refl refl

use Rattle.clock2q_queues.proofs.Names.{◌<◌, ◌∷◌, length, drop, ap, subst, ◌∙◌, sym, arith, end_of, slots_from, PlaceOrder, free_places}
use Rattle.clock2q_queues.proofs.Orders.{Chooses, Pushed, IsOrder-from, whole_order, order_shown-is, head_made, takes_head, takes_unused, place_in, first_made, place_next, pushes-attached, pushes-alone}
use Rattle.clock2q_queues.proofs.order.Order.push.Given.{Over}
use Rattle.clock2q_queues.proofs.order.Order.push.Goals.{Joined-self-gt0, Joined-self-eq0}
use Rattle.clock2q_queues.proofs.order.Order.push.Goals as goal
use Rattle.clock2q_queues.proofs.order.Order.push.Goals.{then-self-gt0, else-self-gt0, then-self-eq0, else-self-eq0}

pub read-requires : goal.read-requires
read-requires g c =
    let i = c.self.inside in
    head_made i.ring (end_of i.len i.newest) i.len i.chain c.self.invariant (omega (arith, c.if-self-gt0.true))

-- the place is the head of the chain, or the first unused one
chosen : (g : Over) (c : Joined-self-gt0 g) → Chooses c.self.inside.ring (end_of c.self.inside.len c.self.inside.newest) c.self.inside.len c.self.inside.chain c.self.invariant
    c.if-self-gt0.self-inside.ring c.if-self-gt0.self-inside.newest c.if-self-gt0.self-inside.len c.if-self-gt0.self-inside.chain c.if-self-gt0.place
chosen g c = grind (arith, takes_head, takes_unused, c.self.invariant)

-- there is a place
room : (g : Over) (c : Joined-self-gt0 g) → length (slots_from c.self.inside.ring.cells.items (end_of c.self.inside.len c.self.inside.newest) c.self.inside.len) < length c.self.inside.ring.cells.items
room g c = subst (λ (z : PlaceOrder). length z.places < z.limit) (sym c.self.view_is) c.requires

pub write-requires : goal.write-requires
write-requires g c =
    let i = c.self.inside in
    let j = (goal.at.write-requires g c).Joined-self-gt0 in
    record { place_in = place_in i.ring (end_of i.len i.newest) i.len i.chain c.self.invariant (chosen g j) (room g j); next = place_next i.ring (end_of i.len i.newest) i.len i.chain c.self.invariant (chosen g j) (room g j) }

pub attach-requires : goal.attach-requires
attach-requires g c =
    let i = c.self.inside in
    let j = (goal.at.attach-requires g c).Joined-self-gt0 in
    let first = first_made i.ring (end_of i.len i.newest) i.len i.chain c.self.invariant (chosen g j) (room g j) (omega (arith, c.if-self-eq0.false)) in
    record { place_in = place_in i.ring (end_of i.len i.newest) i.len i.chain c.self.invariant (chosen g j) (room g j); next = place_next i.ring (end_of i.len i.newest) i.len i.chain c.self.invariant (chosen g j) (room g j); before_in = first.0; previous_in = first.1 }

pushed : (g : Over) (c : Joined-self-eq0 g) → Pushed c.self.inside.ring (end_of c.self.inside.len c.self.inside.newest) c.self.inside.len c.self.inside.chain c.self.invariant
    c.if-self-gt0.place c.if-self-eq0.self-inside.len c.if-self-eq0.self-inside.chain c.if-self-eq0.self-inside.ring
pushed g c =
    let i = c.self.inside in
    let k = chosen g c.before in
    let r = room g c.before in
    elim c.if-self-eq0.branch [
      | then-self-eq0 w ↦ rw w.self-inside-is (pushes-alone i.ring (end_of i.len i.newest) i.len i.chain c.self.invariant k r w.write.new.self (omega (arith, w.if-self-eq0.true)) w.write.ensures.written w.write.ensures.made)
      | else-self-eq0 w ↦ rw w.self-inside-is (pushes-attached i.ring (end_of i.len i.newest) i.len i.chain c.self.invariant k r w.attach.new.self (omega (arith, w.if-self-eq0.false)) w.attach.ensures.attached w.attach.ensures.made)
    ]

pub invariant_of-self : goal.invariant_of-self
invariant_of-self g c = IsOrder-from (pushed g (goal.at.invariant_of-self g c).Joined-self-eq0).order

pub returns-clause-whole : goal.returns-clause-whole
returns-clause-whole g c = whole_order _ _ _ _ (IsOrder-from (pushed g (goal.at.returns-clause-whole g c).Joined-self-eq0).order)

pub returns-clause-place : goal.returns-clause-place
returns-clause-place g c = rw (← c.self.view_is) (chosen g (goal.at.returns-clause-place g c).Joined-self-gt0).is

pub returns-clause-order : goal.returns-clause-order
returns-clause-order g c =
    let i = c.self.inside in
    let p = pushed g (goal.at.returns-clause-order g c).Joined-self-eq0 in
    rw (← c.self.view_is)
    (order_shown-is _ p.order
    ∙ ap (λ n. record {
      places = c.if-self-gt0.place ∷ slots_from i.ring.cells.items (end_of i.len i.newest) i.len;
      free = drop 1 (free_places i.ring.cells.items i.chain);
      limit = n;
      accesses = c.if-self-eq0.self-inside.ring.cells.accesses;
    }) p.as_many)

pub returns-clause-accesses : goal.returns-clause-accesses
returns-clause-accesses g c = rw (← c.self.view_is) (pushed g (goal.at.returns-clause-accesses g c).Joined-self-eq0).counted

use Rattle.clock2q_queues.proofs.Names.{◌≡◌, ℕ, Option, ◌+◌, ◌-◌, ◌∷◌, cond, eqb, refl, ap, ◌∙◌, arith, eq-eqb, ne_eqb, list_any, Free, written, without, Record, end_of, next_at, slots_from}
use Rattle.clock2q_queues.proofs.Names.{PlaceOrder, IsOrderOf, free_places, order_shown}
use Rattle.clock2q_queues.proofs.Orders.{IsOrder-from, whole_order, order_shown-is, place_fits, place_made, not_free, chain_fits, chain-put, Unlinks, unlinked_counts}
use Rattle.clock2q_queues.proofs.Joining.{first_left}
use Rattle.clock2q_queues.proofs.order.Order.unlink.Given.{Over}
use Rattle.clock2q_queues.proofs.order.Order.unlink.Goals.{After-write, Then-self-place, Else-self-place}
use Rattle.clock2q_queues.proofs.order.Order.unlink.Goals as goal

pub detach-was-requires : goal.detach-was-requires
detach-was-requires g c =
    let i = c.self.inside in
    let there = ap (λ (z : PlaceOrder). list_any (eqb c.args.place) z.places) c.self.view_is ∙ c.requires in
    let n = place_made i.ring (end_of i.len i.newest) i.len i.chain c.self.invariant c.args.place there in
    record { place_in = n.0; next_in = n.1; previous_in = n.2 }

pub write-requires : goal.write-requires
write-requires g c = grind (arith, place_made, c.self.view_is, c.requires, c.detach-was.ensures.made, c.self.invariant)

pub overflow_add-self : goal.overflow_add-self
overflow_add-self g c = grind (arith, chain_fits, c.self.view_is, c.requires, c.self.invariant, c.detach-was.ensures.detached)

-- its neighbours were written, and none was made
put : (g : Over) (c : After-write g) → (c.write.new.self.cells ≡ written c.args.place (record { previous = 0; next = c.self.inside.chain.head; held = Free }) c.detach-was.new.self.cells)
    × (c.write.new.self.made ≡ c.self.inside.ring.made)
put g c =
    let i = c.self.inside in
    let there = ap (λ (z : PlaceOrder). list_any (eqb c.args.place) z.places) c.self.view_is ∙ c.requires in
    let made = (place_made i.ring (end_of i.len i.newest) i.len i.chain c.self.invariant c.args.place there).0 in
    (c.write.ensures.written, omega (arith, made, c.write.ensures.made, c.detach-was.ensures.made))

module _ (g : Over) (c : After-write g) (newest : ℕ)
    (is : newest ≡ cond (eqb c.self.inside.newest c.args.place) (next_at c.self.inside.ring.cells.items c.args.place) c.self.inside.newest) where
  abbrev first : Option ℕ
  first = end_of c.self.inside.len c.self.inside.newest

  -- the other places are in order, and this one is at the head of the chain
  left : IsOrderOf c.write.new.self (end_of (c.self.inside.len - 1) newest) (c.self.inside.len - 1) (record { head = c.args.place; len = c.self.inside.chain.len + 1 })
      (without c.args.place (slots_from c.self.inside.ring.cells.items first c.self.inside.len)) (c.args.place ∷ free_places c.self.inside.ring.cells.items c.self.inside.chain)
  left =
      let i = c.self.inside in
      let place = c.args.place in
      let there = ap (λ (z : PlaceOrder). list_any (eqb place) z.places) c.self.view_is ∙ c.requires in
      let mid = c.detach-was.new.self in
      let d = c.detach-was.ensures.detached in
      Unlinks i.ring first i.len i.chain c.self.invariant place there mid d c.write.new.self _ (end_of (i.len - 1) newest) _ (put g c).0 (put g c).1
      (chain-put mid.cells c.write.new.self.cells i.chain place _ (put g c).0 refl (rw d.as_many (place_fits i.ring first i.len i.chain c.self.invariant place there))
      (not_free i.ring first i.len i.chain c.self.invariant place there mid d))
      (first_left i.ring.cells.items i.len i.newest newest (slots_from i.ring.cells.items first i.len) place c.self.invariant.queue there is)

  order : order_shown c.write.new.self (end_of (c.self.inside.len - 1) newest) (c.self.inside.len - 1) (record { head = c.args.place; len = c.self.inside.chain.len + 1 })
      ≡ record c.args.self.now { places = without c.args.place c.args.self.now.places; free = c.args.place ∷ c.args.self.now.free; accesses = c.args.self.now.accesses + 7 }
  order =
      let i = c.self.inside in
      rw (← c.self.view_is)
      (order_shown-is _ left ∙ unlinked_counts i.ring.cells c.detach-was.new.self.cells c.write.new.self.cells c.args.place _
      (without c.args.place (slots_from i.ring.cells.items first i.len)) (c.args.place ∷ free_places i.ring.cells.items i.chain) c.detach-was.ensures.detached (put g c).0)

-- the place was the newest one
next_is : (g : Over) (c : Then-self-place g) → c.detach-was.result.next ≡ cond (eqb c.self.inside.newest c.args.place) (next_at c.self.inside.ring.cells.items c.args.place) c.self.inside.newest
next_is g c = ap (λ (r : Record). r.next) c.detach-was.ensures.value ∙ rw (eq-eqb c.self.inside.newest c.args.place c.if-self-place.true) refl

-- it was another one
stays : (g : Over) (c : Else-self-place g) → c.self.inside.newest ≡ cond (eqb c.self.inside.newest c.args.place) (next_at c.self.inside.ring.cells.items c.args.place) c.self.inside.newest
stays g c = rw (ne_eqb c.self.inside.newest c.args.place c.if-self-place.false) refl

pub invariant_of-self : goal.invariant_of-self
invariant_of-self g c = let at = goal.at.invariant_of-self g c in IsOrder-from (left g at.After-write _ (next_is g at.Then-self-place))

pub invariant_of-self-else-self-place : goal.invariant_of-self-else-self-place
invariant_of-self-else-self-place g c = let at = goal.at.invariant_of-self-else-self-place g c in IsOrder-from (left g at.After-write _ (stays g at.Else-self-place))

pub returns-then-self-place : goal.returns-then-self-place
returns-then-self-place g c =
    let at = goal.at.returns-then-self-place g c in
    record { whole = whole_order _ _ _ _ (IsOrder-from (left g at.After-write _ (next_is g at.Then-self-place))); order = order g at.After-write _ (next_is g at.Then-self-place) }

pub returns-else-self-place : goal.returns-else-self-place
returns-else-self-place g c =
    let at = goal.at.returns-else-self-place g c in
    record { whole = whole_order _ _ _ _ (IsOrder-from (left g at.After-write _ (stays g at.Else-self-place))); order = order g at.After-write _ (stays g at.Else-self-place) }

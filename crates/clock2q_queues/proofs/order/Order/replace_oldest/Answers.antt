use Rattle.clock2q_queues.proofs.Names.{◌∷◌, ◌-◌, ◌<◌, None, length, take, refl, ap, sym, subst, ◌∙◌, last_or, Record, end_of, RingState, PlaceOrder, order_shown}
use Rattle.clock2q_queues.proofs.Orders.{IsOrder-from, whole_order, order_shown-is, reuses}
use Rattle.clock2q_queues.proofs.order.Order.replace_oldest.Goals as goal

pub invariant_of-self : goal.invariant_of-self
invariant_of-self g c =
    let i = c.self.inside in
    IsOrder-from (reuses i.ring (end_of i.len i.newest) i.len i.chain c.self.invariant c.read-oldest.new.self i.newest c.read-oldest.result.previous c.read-oldest.ensures.counted
    (subst (λ (z : PlaceOrder). 0 < length z.places) (sym c.self.view_is) c.requires) refl (ap (λ (z : Record). z.previous) c.read-oldest.ensures.value)).order

pub returns : goal.returns
returns g c =
    let i = c.self.inside in
    let oldest = c.read-oldest.result.previous in
    let r =
    reuses i.ring (end_of i.len i.newest) i.len i.chain c.self.invariant c.read-oldest.new.self i.newest oldest c.read-oldest.ensures.counted
    (subst (λ (z : PlaceOrder). 0 < length z.places) (sym c.self.view_is) c.requires) refl (ap (λ (z : Record). z.previous) c.read-oldest.ensures.value) in
    let q = order_shown i.ring (end_of i.len i.newest) i.len i.chain in
    record {
      whole = whole_order _ _ _ _ (IsOrder-from r.order);
      oldest = ap (λ (z : PlaceOrder). last_or None z.places) (sym c.self.view_is) ∙ r.oldest_was;
      order = rw (← c.self.view_is) (order_shown-is _ r.order
          ∙ ap (λ (z : RingState). record { places = oldest ∷ take (length q.places - 1) q.places; free = q.free; limit = length z.cells.items; accesses = z.cells.accesses })
          c.read-oldest.ensures.counted);
    }

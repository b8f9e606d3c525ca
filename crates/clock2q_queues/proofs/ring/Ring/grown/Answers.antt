use Rattle.clock2q_queues.proofs.Names.{refl, sym, ap, map, ◌∙◌, arith, length-map, map-id, take_all, record_of}
use Rattle.clock2q_queues.proofs.Copies.{ring-grown}
use Rattle.clock2q_queues.proofs.ring.Ring.grown.Goals as goal

pub returns : goal.returns
returns g c =
    let i = c.self.inside in
    let es = i.entries.items in
    let of = record_of g.T.Held.location_of in
    let items = c.deref-entry-items in
    let k = c.loop-entry.entry-index in
    let done = c.loop-entry-test.false in
    ring-grown (λ e. e) refl (map of es) (map of c.loop-entry.entries.items)
    (ap (λ z. map of z) (c.loop-entry.invariant.copied ∙ take_all k items.result.now done ∙ items.ensures.value) ∙ sym (map-id (map of es)))
    i.places c.args.places i.accesses.total c.loop-entry.accesses.total c.args.self.now c.self.view_is
    (omega (arith, length-map es of, c.self.invariant.0)) c.requires
    (omega (arith, length-map es of, c.loop-entry.invariant.counted, c.loop-entry.auto.entry-index-end, done, items.ensures.len))

use Rattle.clock2q_queues.proofs.Names.{List, length, refl, sym, ap, map, ◌∙◌, arith, length-map, moved_record, Record, location_at, record_at, RingState}
use Rattle.clock2q_queues.proofs.Copies.{all-copied, record-in, ring-grown}
use Rattle.clock2q_queues.proofs.ring.Ring+Location+A.grown_past_gap.Goals as goal

pub past_gap-requires : goal.past_gap-requires
past_gap-requires g c =
    let i = c.self.inside in
    let k = c.loop-entry.entry-index in
    record {
      fits = λ position e. c.requires.positions k position
          (ap (λ (z : RingState). location_at z.cells.items k) (sym c.self.view_is)
          ∙ ap (λ (r : Record). r.held) (record-in i.entries.items i.places k ∙ ap (λ z. record_at z k) (sym c.deref-entry-items.ensures.value)) ∙ e);
    }

pub returns : goal.returns
returns g c =
    let i = c.self.inside in
    let es = i.entries.items in
    let items = c.deref-entry-items in
    let change = moved_record c.args.cursor c.args.gap in
    let copies = c.loop-entry.entries.items in
    let done = c.loop-entry-test.false in
    ring-grown change refl (map (λ (r : Record). r) es) (map (λ (r : Record). r) copies)
    (all-copied change es items.result.now copies c.loop-entry.entry-index c.loop-entry.invariant.moved items.ensures.value done)
    i.places c.args.slots i.accesses.total c.loop-entry.accesses.total c.args.self.now c.self.view_is
    (omega (arith, length-map es (λ (r : Record). r), c.self.invariant.0)) c.requires.slots
    (omega (arith, length-map es (λ (r : Record). r), c.loop-entry.invariant.counted, c.loop-entry.auto.entry-index-end, done, ap (λ (z : List Record). length z) items.ensures.value))

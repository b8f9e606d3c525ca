-- One more slot, below the others.
use Rattle.clock2q_cache.proofs.Names.{◌≡◌, ◌+◌, ◌-◌, ◌++◌, ◌∷◌, [], reverse, arith, ap, sym, ◌∙◌, range_with_len}
use Rattle.clock2q_cache.proofs.Filled.{freed-more}
use Rattle.clock2q_cache.proofs.cache.filling.free_down.Goals as goal

pub loop-slot-preserved : goal.loop-slot-preserved
loop-slot-preserved g c =
    let e : c.loop-slot.slot - 1 + 1 ≡ c.loop-slot.slot = omega (arith, c.loop-slot-test.true) in
    let p = c.push_reserved.ensures in (
      omega (arith, c.loop-slot-test.true),
      omega (arith, c.loop-slot.invariant.1),
      p.items ∙ ap (λ z. z ++ (c.loop-slot.slot - 1) ∷ []) (c.loop-slot.invariant.2 ∙ sym (ap (λ z. c.args.free.now.items ++ reverse (range_with_len z (c.args.to - z))) e))
          ∙ freed-more c.args.free.now.items (c.loop-slot.slot - 1) c.args.to (omega (arith, c.loop-slot-test.true, c.loop-slot.invariant.1)),
      omega (arith, p.len, c.loop-slot.invariant.3, c.loop-slot-test.true),
      p.capacity ∙ c.loop-slot.invariant.4,
    )

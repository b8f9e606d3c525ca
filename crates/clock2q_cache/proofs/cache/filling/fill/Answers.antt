-- One more entry, with the next value.
use Rattle.clock2q_cache.proofs.Names.{◌+◌, ◌-◌, arith, refl, sym, ap, ◌∙◌, subst, KeyPlaces, FillsUp, TakesTimes}
use Rattle.clock2q_cache.specs.Hashes.{hash_of}
use Rattle.clock2q_cache.proofs.Filled.{FillsUp-none, FillsUp-more, FillsUp-length}
use Rattle.clock2q_cache.proofs.Makers.{next_call}
use Rattle.clock2q_cache.proofs.cache.filling.fill.Goals as goal

pub loop-init : goal.loop-init
loop-init g c = (subst (λ n. TakesTimes g.F.FnMut (c.args.many - n) c.args.make) (sym c.made-counter.ensures.made) c.requires.callable, FillsUp-none c.made-counter.ensures.made, refl, refl, refl)

pub prepare-requires : goal.prepare-requires
prepare-requires g c = record { room = omega (arith, c.loop-test.true, c.requires.room, FillsUp-length c.loop.invariant.1, c.loop.invariant.2) }

pub make-requires : goal.make-requires
make-requires g c = (next_call g.F.FnMut c.args.many c.loop.counter c.loop.make c.loop-test.true c.loop.invariant.0).0

pub loop-preserved : goal.loop-preserved
unfolding hash_of
loop-preserved g c =
    let pushed = ap (λ (z : KeyPlaces _ _). z.entries) c.prepare.ensures.prepared in (
      (next_call g.F.FnMut c.args.many c.loop.counter c.loop.make c.loop-test.true c.loop.invariant.0).1 c.make.result c.make.new.self c.make.ensures,
      subst (λ z. FillsUp g.F.FnMut c.args.make (λ k. hash_of g.S.BuildHasher g.S.Hasher.Hasher c.args.hasher.now (g.K.Hash.hash_input k))
          (c.loop.counter + 1) c.args.directory.now.residents.entries z c.make.new.self) (sym pushed) (FillsUp-more c.loop.invariant.1 c.hash_one-hash.ensures c.make.ensures),
      ap (λ (z : KeyPlaces _ _). z.room) c.prepare.ensures.prepared ∙ c.loop.invariant.2,
      ap (λ (z : KeyPlaces _ _). z.comparisons) c.prepare.ensures.prepared ∙ c.loop.invariant.3,
      c.prepare.ensures.kept ∙ c.loop.invariant.4,
    )

pub returns-clause-filled : goal.returns-clause-filled
returns-clause-filled g c = grind (arith, c.loop-test.false, c.loop.invariant.1)

use Rattle.clock2q_cache.proofs.Names.{◌≡◌, ◌-◌, FillsUp, hash_of, TakesTimes}
use Rattle.clock2q_cache.proofs.cache.filling.fill.Given as goal

abbrev pub invariant-loop : goal.invariant-loop
invariant-loop g l = TakesTimes g.F.FnMut (l.many - l.counter) l.make
    × FillsUp g.F.FnMut l.initial.make
    (λ k. hash_of g.S.BuildHasher g.S.Hasher.Hasher l.hasher (g.K.Hash.hash_input k)) l.counter
    l.initial.directory.residents.entries l.directory.residents.entries l.make
    × (l.directory.residents.room ≡ l.initial.directory.residents.room) × (l.directory.residents.comparisons ≡ l.initial.directory.residents.comparisons)
    × (l.directory.history ≡ l.initial.directory.history)

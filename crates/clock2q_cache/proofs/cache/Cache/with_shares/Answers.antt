-- Nothing is resident, remembered or free, and the layers are as large as the shares say.
use Rattle.clock2q_cache.proofs.Names.{[], ◌^◌, ◌<◌, ◌≡◌, ap, ◌∙◌, arith, ⊎_elim, cases_lt, KeyPlaces, Remembered, QueueState, for-new, new-none, emptied-slots, Known, hash_of}
use Rattle.clock2q_cache.proofs.Changed.{kept-empty}
use Rattle.clock2q_cache.proofs.cache.Cache.with_shares.Goals as goal

pub invariant_of-result : goal.invariant_of-result
invariant_of-result g c =
    let is = c.shares.view_is in
    let policy = rw is at c.shares.invariant in
    let p = c.args.shares.history in
    let least : 0 < c.args.shares.capacity = omega (arith, policy.below) in
    let few : c.args.shares.capacity < 2 ^ 24 = omega (arith, c.requires) in
    let short : p < 2 ^ 24 = omega (arith, few, policy.remembered) in
    let d = rw (ap (λ z. z.capacity) is, ap (λ z. z.history) is) at c.in_ok-directory.ensures.made in
    let windowed : 0 < c.args.shares.small → 0 < c.args.shares.window = λ some. ⊎_elim (λ above. above)
    (λ below. let none : c.args.shares.small ≡ 0 = policy.both.1 (omega (arith, below)) in omega (arith, some, none)) (cases_lt 0 c.args.shares.window) in
    let h = ap (λ (z : Known _ _). z.history) d in
    let keys = ap (λ (z : Known _ _). z.residents) d in
    let n = new-none c.args.shares.capacity p least few short in
    let room = for-new c.args.shares.capacity p least few short in
    (kept-empty {hash = λ x. hash_of g.S.BuildHasher g.S.Hasher.Hasher c.args.hasher (g.K.Hash.hash_input x)} g.met.K.Eq.laws policy.below
    (ap (λ (z : QueueState). z.small) c.in_ok-queues.ensures.made) (ap (λ (z : QueueState). z.main) c.in_ok-queues.ensures.made) (ap (λ (z : Remembered _). z.entries) h)
    (rw (h, n.2) (emptied-slots n.0 n.1 [])) (ap (λ (z : KeyPlaces _ _). z.entries) keys) c.in_ok-free.ensures.items
    (record {
      as_many = ap (λ (z : QueueState). z.slots) c.in_ok-queues.ensures.made ∙ ap (λ z. z.capacity) is;
      window = ap (λ (z : QueueState). z.window) c.in_ok-queues.ensures.made ∙ ap (λ z. z.window) is;
      windowed = windowed;
      remembers = ap (λ (z : Remembered _). z.limit) h;
      spacious = rw h room.slots;
      room_for_keys = omega (arith, ap (λ (z : KeyPlaces _ _). z.room) keys);
      room_for_free = omega (arith, c.in_ok-free.ensures.capacity, ap (λ z. z.capacity) is);
      short = few;
      few = rw h room.few;
    })).0

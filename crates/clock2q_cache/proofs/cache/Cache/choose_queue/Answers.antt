-- If there is a vacancy, the length of Small decides; otherwise whether Small has a share.
use Rattle.clock2q_cache.proofs.Names.{arith, ◌≡◌, length, sym, ap, ◌∙◌, CacheState, if◌then◌else◌}
use Rattle.clock2q_cache.proofs.CacheInvariant.{length_in_small}
use Rattle.clock2q_cache.proofs.Changed.{admits-main, admits-small}
use Rattle.clock2q_cache.proofs.Insertions.{sent-by}
use Rattle.clock2q_cache.proofs.Spent.{spends-more}
use Rattle.clock2q_cache.proofs.Making.{still-unknown, small-unknown}
use Rattle.clock2q_cache.proofs.cache.Cache.choose_queue.Goals.{then-has_room, else-has_room}
use Rattle.clock2q_cache.proofs.cache.Cache.choose_queue.Goals as goal

pub returns-then-forget-clause-unknown : goal.returns-then-forget-clause-unknown
returns-then-forget-clause-unknown g c = let f = c.if-forget.ensures in still-unknown c.requires.found c.requires.absent f.machine f.hasher f.places

pub returns-then-self-in_small-clause-sent : goal.returns-then-self-in_small-clause-sent
returns-then-self-in_small-clause-sent g c =
    let f = c.if-forget.ensures in
    let at = ap (λ z. z.shares.small) c.self-inside.view_is ∙ ap (λ (z : CacheState _ _ _). z.machine.shares.small) c.self.view_is in
    let is : c.if-has_room.in_small ≡ (if c.has_room.result then length c.forget.new.self.machine.small else 0) = elim c.if-has_room.branch [
      | then-has_room w ↦ rw w.if-has_room.true (w.in_small-is ∙ w.small_len-in_small.ensures.len ∙ ap (λ z. length z.queues.small) c.self-inside.view_is
          ∙ sym (length_in_small g.met.K.Eq.laws c.self.invariant) ∙ ap (λ (z : CacheState _ _ _). length z.machine.small) c.self.view_is)
      | else-has_room w ↦ rw w.if-has_room.false w.in_small-is
    ] in
    let goes = sent-by f.known f.machine (admits-main c.forget.new.self.machine at c.has_room.ensures.room is c.if-self-in_small.true) in
    record { sent = goes; known = f.places; hasher = f.hasher; counts = spends-more f.counts (omega arith) (omega arith) }

pub returns-then-self-in_small-clause-unknown : goal.returns-then-self-in_small-clause-unknown
returns-then-self-in_small-clause-unknown g c = let f = c.if-forget.ensures in still-unknown c.requires.found c.requires.absent f.machine f.hasher f.places

pub returns-clause-sent : goal.returns-clause-sent
returns-clause-sent g c =
    let f = c.if-forget.ensures in
    let at = ap (λ z. z.shares.small) c.self-inside.view_is ∙ ap (λ (z : CacheState _ _ _). z.machine.shares.small) c.self.view_is in
    let is : c.if-has_room.in_small ≡ (if c.has_room.result then length c.forget.new.self.machine.small else 0) = elim c.if-has_room.branch [
      | then-has_room w ↦ rw w.if-has_room.true (w.in_small-is ∙ w.small_len-in_small.ensures.len ∙ ap (λ z. length z.queues.small) c.self-inside.view_is
          ∙ sym (length_in_small g.met.K.Eq.laws c.self.invariant) ∙ ap (λ (z : CacheState _ _ _). length z.machine.small) c.self.view_is)
      | else-has_room w ↦ rw w.if-has_room.false w.in_small-is
    ] in
    let goes = sent-by f.known f.machine (admits-small c.forget.new.self.machine at c.has_room.ensures.room is c.if-self-in_small.false) in
    record { sent = goes; known = f.places; hasher = f.hasher; counts = spends-more f.counts (omega arith) (omega arith) }

pub returns-clause-unknown : goal.returns-clause-unknown
returns-clause-unknown g c = let f = c.if-forget.ensures in still-unknown c.requires.found c.requires.absent f.machine f.hasher f.places

pub returns-clause-small : goal.returns-clause-small
returns-clause-small g c = small-unknown g.K.PartialEq.eq c.args.key.now (returns-clause-sent g c).sent

use Rattle.clock2q_queues.proofs.Names.{◌≡◌, None, Some, length, refl, ap, sym, ◌∙◌, arith, rules, last_or, Small, Record, accesses_of, QueueState, queues_shown, slots_of, without_slot}
use Rattle.clock2q_queues.proofs.Names.{admitted, small_entries, small_slots}
use Rattle.clock2q_queues.proofs.Locations.{tail_out, tail_linked}
use Rattle.clock2q_queues.proofs.Sharing.{Becomes, after_reuse, small_slots-of, some_small}
use Rattle.clock2q_queues.proofs.Turning.{Turns, Turns-from, oldest_is, slot_fits, there, aged_linked}
use Rattle.clock2q_queues.proofs.Window.{aged_before, position_taken}
use Rattle.clock2q_queues.proofs.queues.Queues.replace_tail.Given.{Over}
use Rattle.clock2q_queues.proofs.queues.Queues.replace_tail.Goals.{After-self, After-relocate}
use Rattle.clock2q_queues.proofs.queues.Queues.replace_tail.Goals as goal

module _ (g : Over) (c : After-self g) where
  oldest : last_or None (small_slots c.self.inside.links c.self.inside.small) ≡ Some c.self.inside.small.oldest
  oldest = oldest_is c.self.invariant.small (some_small c.self.inside.links c.self.inside.small c.self.inside.main _ c.self.view_is c.requires.some)

pub look-requires : goal.look-requires
look-requires g c =
    let i = c.self.inside in
    tail_linked i.links i.small i.main c.self.invariant i.small.oldest (oldest g (goal.at.look-requires g c).After-self)

pub leave_position-requires : goal.leave_position-requires
leave_position-requires g c = λ position e.
    let i = c.self.inside in
    let here = there i.small.oldest i.links i.small c.self.invariant.small (oldest g (goal.at.leave_position-requires g c).After-self) in
    rw c.look.ensures.counted ((c.self.invariant.small.placed i.small.oldest position here (ap (λ (r : Record). r.held) (sym c.look.ensures.entry) ∙ e)).0)

-- the slot has a number that a position can hold
pub take_position-self-inside-requires-clause-countable : goal.take_position-self-inside-requires-clause-countable
take_position-self-inside-requires-clause-countable g c =
    let i = c.self.inside in
    let fits = slot_fits i.small.oldest i.links i.small c.self.invariant.small (oldest g (goal.at.take_position-self-inside-requires-clause-countable g c).After-self) in
    omega (arith, fits, c.self.invariant.small.queue.countable)

pub relocate-requires-clause-slot_in : goal.relocate-requires-clause-slot_in
relocate-requires-clause-slot_in g c =
    let i = c.self.inside in
    let left = c.leave_position.new.self in
    let aged = c.take_position-self-inside in
    aged_linked i.small.oldest i.links i.small c.self.invariant.small (oldest g (goal.at.relocate-requires-clause-slot_in g c).After-self) left
    (rw (c.look.ensures.entry, c.look.ensures.counted) at c.leave_position.ensures)
    (aged_before left aged.new.self) aged.new.self aged.ensures.older (position_taken left aged.new.self i.small.cursor i.small.oldest aged.ensures.taken)

module _ (g : Over) (c : After-relocate g) where
  reused : Becomes c.relocate.new.self (record { newest = c.self.inside.small.oldest; oldest = c.look.result.0.previous; len = c.self.inside.small.len; cursor = c.take_position-self-inside.result })
      c.self.inside.main (record (queues_shown c.self.inside.links c.self.inside.small c.self.inside.main) {
        small = admitted (length c.self.inside.links.window.items) c.self.inside.small.oldest (without_slot c.self.inside.small.oldest (small_entries c.self.inside.links c.self.inside.small));
        accesses = accesses_of c.relocate.new.self;
      })
  reused =
      let i = c.self.inside in
      let left = c.leave_position.new.self in
      let aged = c.take_position-self-inside in
      let small' : Small = record { newest = i.small.oldest; oldest = c.look.result.0.previous; len = i.small.len; cursor = aged.result } in
      let turned : Turns i.small.oldest i.links i.small c.relocate.new.self small' =
      Turns-from i.small.oldest i.links i.small c.self.invariant.small (oldest_is c.self.invariant.small (some_small i.links i.small i.main _ c.self.view_is c.requires.some)) left
      (rw (c.look.ensures.entry, c.look.ensures.counted) at c.leave_position.ensures) (aged_before left aged.new.self) aged.new.self c.relocate.new.self small' (rw (ap (λ (q : QueueState). q.window) c.self.view_is) c.requires.window)
      aged.ensures.older (position_taken left aged.new.self i.small.cursor i.small.oldest aged.ensures.taken) c.relocate.ensures.moved c.relocate.ensures.cleared
      refl (ap (λ (r : Record). r.previous) c.look.ensures.entry) refl aged.ensures.next in
      after_reuse i.links i.small i.main c.self.invariant c.relocate.new.self small' i.small.oldest (length i.links.window.items)
      turned.whole turned.entries turned.others (search rules) turned.window (search rules)

pub invariant_of-self : goal.invariant_of-self
invariant_of-self g c = (reused g (goal.at.invariant_of-self g c).After-relocate).queues

pub returns-clause-tail : goal.returns-clause-tail
returns-clause-tail g c =
    let i = c.self.inside in
    ap (λ (q : QueueState). last_or None (slots_of q.small)) (sym c.self.view_is) ∙ ap (λ z. last_or None z) (small_slots-of i.links i.small) ∙ oldest g (goal.at.returns-clause-tail g c).After-self

pub returns-clause-queues : goal.returns-clause-queues
returns-clause-queues g c =
    let i = c.self.inside in
    let out = tail_out i.links i.small i.main c.self.invariant i.small.oldest (oldest g (goal.at.returns-clause-queues g c).After-self) in
    rw (← c.self.view_is, ← out) (reused g (goal.at.returns-clause-queues g c).After-relocate).is

use Rattle.clock2q_queues.proofs.Names.{◌≡◌, ◌+◌, ◌<◌, CellsState, LinkState, Option, QueueState, SetsBit, Small, Some, accesses_of, admitted, ap, arith, false, length, length-set, made_below}
use Rattle.clock2q_queues.proofs.Names.{queues_shown, refl, small_entries, ℕ, ◌∙◌, small_slots}
use Rattle.clock2q_queues.proofs.Joining.{count_fits}
use Rattle.clock2q_queues.proofs.Window.{Admits, Admits-attached, Admits-alone, aged_before, first_linked, position_taken}
use Rattle.clock2q_queues.proofs.Sharing.{Becomes, after_admission, in_small, in_main}
use Rattle.clock2q_queues.proofs.queues.Queues.admit.Given.{Over}
use Rattle.clock2q_queues.proofs.queues.Queues.admit.Goals.{Joined-self-eq0, then-self-eq0, else-self-eq0}
use Rattle.clock2q_queues.proofs.queues.Queues.admit.Goals as goal

pub attach-requires-clause-previous_in : goal.attach-requires-clause-previous_in
attach-requires-clause-previous_in g c =
    let i = c.self.inside in
    let t = c.take_position-self-inside in
    (first_linked c.args.slot i.links i.small (aged_before i.links t.new.self) t.new.self c.self.invariant.small t.ensures.older
    (position_taken i.links t.new.self i.small.cursor c.args.slot t.ensures.taken) (omega (arith, c.if-self-eq0.false))).1

pub overflow_add-self : goal.overflow_add-self
overflow_add-self g c =
    let i = c.self.inside in
    let fits = count_fits i.links.records.items _ i.small.len _ c.args.slot c.self.invariant.small.queue (in_small i.links i.small i.main _ c.args.slot false c.self.view_is c.requires.not_in_small)
    (rw (ap (λ (q : QueueState). q.slots) c.self.view_is) c.requires.slot_in) in
    grind (arith, fits)

-- Small and the links with the slot put in
module _ (g : Over) (c : Joined-self-eq0 g) where
  becomes : (new : LinkState) (small' : Small) → Admits c.args.slot c.self.inside.links c.self.inside.small.cursor (small_slots c.self.inside.links c.self.inside.small) new small'
      → new.made ≡ made_below (c.args.slot + 1) c.take_position-self-inside.new.self.made
      → SetsBit c.args.slot false c.take_position-self-inside.new.self (record new { records = c.take_position-self-inside.new.self.records; made = c.take_position-self-inside.new.self.made })
      → Becomes new small' c.self.inside.main (record (queues_shown c.self.inside.links c.self.inside.small c.self.inside.main) {
        small = admitted (length c.self.inside.links.window.items) c.args.slot (small_entries c.self.inside.links c.self.inside.small);
        made = made_below (c.args.slot + 1) c.self.inside.links.made;
        accesses = accesses_of new;
      })
  becomes new small' admits made cleared =
      let i = c.self.inside in
      let t = c.take_position-self-inside.ensures in
      after_admission i.links i.small i.main c.self.invariant new small' c.args.slot (in_main i.links i.small i.main _ c.args.slot false c.self.view_is c.requires.not_in_main) admits
      (made ∙ ap (λ n. made_below (c.args.slot + 1) n) t.made)
      (ap (λ (w : CellsState (Option ℕ)). length w.items) (cleared.window ∙ t.taken) ∙ length-set i.links.window.items i.small.cursor (Some c.args.slot))
      (cleared.inspections ∙ t.older.inspections)

  put : Becomes c.if-self-eq0.self-inside.links
      (record { newest = c.args.slot; oldest = c.if-self-eq0.self-inside.small.oldest; len = c.if-self-eq0.self-inside.small.len + 1; cursor = c.if-self-eq0.self-inside.small.cursor })
      c.if-self-eq0.self-inside.main (record (queues_shown c.self.inside.links c.self.inside.small c.self.inside.main) {
        small = admitted (length c.self.inside.links.window.items) c.args.slot (small_entries c.self.inside.links c.self.inside.small);
        made = made_below (c.args.slot + 1) c.self.inside.links.made;
        accesses = accesses_of c.if-self-eq0.self-inside.links;
      })
  put =
      let i = c.self.inside in
      let slot = c.args.slot in
      let t = c.take_position-self-inside in
      let aged = t.new.self in
      let taken = position_taken i.links aged i.small.cursor slot t.ensures.taken in
      let within : slot < length i.links.records.items = rw (ap (λ (q : QueueState). q.slots) c.self.view_is) c.requires.slot_in in
      let absent = in_small i.links i.small i.main _ slot false c.self.view_is c.requires.not_in_small in
      let window : 0 < length i.links.window.items = rw (ap (λ (q : QueueState). q.window) c.self.view_is) c.requires.window in
      elim c.if-self-eq0.branch [
        | then-self-eq0 w ↦
            let a = w.attach_alone in
            let small : Small = record { newest = slot; oldest = slot; len = i.small.len + 1; cursor = t.result } in
            let admits = Admits-alone slot i.links i.small (aged_before i.links aged) aged c.self.invariant.small t.ensures.older taken a.new.self small within absent window
            a.ensures.cleared refl refl t.ensures.next (omega (arith, w.if-self-eq0.true)) a.ensures.items refl in
            rw w.self-inside-is (becomes a.new.self small admits a.ensures.made a.ensures.cleared)
        | else-self-eq0 w ↦
            let a = w.attach in
            let small : Small = record { newest = slot; oldest = i.small.oldest; len = i.small.len + 1; cursor = t.result } in
            let admits = Admits-attached slot i.links i.small (aged_before i.links aged) aged c.self.invariant.small t.ensures.older taken a.new.self small within absent window
            a.ensures.cleared refl refl t.ensures.next (omega (arith, w.if-self-eq0.false)) a.ensures.attached refl in
            rw w.self-inside-is (becomes a.new.self small admits a.ensures.made a.ensures.cleared)
      ]

pub invariant_of-self : goal.invariant_of-self
invariant_of-self g c = (put g (goal.at.invariant_of-self g c).Joined-self-eq0).queues

pub returns-clause-queues : goal.returns-clause-queues
returns-clause-queues g c = rw (← c.self.view_is) (put g (goal.at.returns-clause-queues g c).Joined-self-eq0).is

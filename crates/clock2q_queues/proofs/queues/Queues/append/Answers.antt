use Rattle.clock2q_queues.proofs.Names.{◌+◌, ◌<◌, ◌++◌, ◌∷◌, [], Main, QueueState, Some, accesses_of, ap, arith, false, length, main_entries, made_below, queues_shown, refl}
use Rattle.clock2q_queues.proofs.Joining.{count_fits}
use Rattle.clock2q_queues.proofs.Main.{PushesMain-attached, PushesMain-alone, hand_linked}
use Rattle.clock2q_queues.proofs.Sharing.{Becomes, after_append, in_small, in_main}
use Rattle.clock2q_queues.proofs.queues.Queues.append.Given.{Over}
use Rattle.clock2q_queues.proofs.queues.Queues.append.Goals.{Joined-self, in-None, in-Some}
use Rattle.clock2q_queues.proofs.queues.Queues.append.Goals as goal

pub attach-requires-clause-previous_in : goal.attach-requires-clause-previous_in
attach-requires-clause-previous_in g c = (hand_linked c.self.inside.links c.self.inside.main c.in-Some.hand c.self.invariant.main c.in-Some.is).previous

appended : (g : Over) (c : Joined-self g) → Becomes c.match-self.self-inside.links c.match-self.self-inside.small
    (record { hand = c.match-self.self-inside.main.hand; len = c.match-self.self-inside.main.len + 1 })
    (record (queues_shown c.self.inside.links c.self.inside.small c.self.inside.main) {
      main = main_entries c.self.inside.links c.self.inside.main ++ (c.args.slot, false) ∷ [];
      made = made_below (c.args.slot + 1) c.self.inside.links.made;
      accesses = accesses_of c.match-self.self-inside.links;
    })
appended g c =
    let i = c.self.inside in
    let slot = c.args.slot in
    let within : slot < length i.links.records.items = rw (ap (λ (q : QueueState). q.slots) c.self.view_is) c.requires.slot_in in
    let in_no_main = in_main i.links i.small i.main _ slot false c.self.view_is c.requires.not_in_main in
    let in_no_small = in_small i.links i.small i.main _ slot false c.self.view_is c.requires.not_in_small in
    elim c.match-self.branch [
      | in-None w ↦
          let a = w.attach_alone in
          let main : Main = record { hand = Some slot; len = i.main.len + 1 } in
          let pushed = PushesMain-alone slot i.links i.main a.new.self main c.self.invariant.main within in_no_main a.ensures.cleared refl w.in-None.is a.ensures.items refl in
          rw w.self-inside-is (after_append i.links i.small i.main c.self.invariant a.new.self main slot in_no_small pushed a.ensures.made a.ensures.cleared)
      | in-Some w ↦
          let a = w.attach in
          let main : Main = record { hand = i.main.hand; len = i.main.len + 1 } in
          let pushed = PushesMain-attached slot i.links i.main a.new.self main c.self.invariant.main within in_no_main a.ensures.cleared refl
          w.in-Some.hand w.in-Some.is a.ensures.attached w.in-Some.is in
          rw w.self-inside-is (after_append i.links i.small i.main c.self.invariant a.new.self main slot in_no_small pushed a.ensures.made a.ensures.cleared)
    ]

pub overflow_add-self : goal.overflow_add-self
overflow_add-self g c =
    let i = c.self.inside in
    let fits = count_fits i.links.records.items i.main.hand i.main.len _ c.args.slot c.self.invariant.main.queue
    (in_main i.links i.small i.main _ c.args.slot false c.self.view_is c.requires.not_in_main) (rw (ap (λ (q : QueueState). q.slots) c.self.view_is) c.requires.slot_in) in
    grind (arith, fits)

pub invariant_of-self : goal.invariant_of-self
invariant_of-self g c = (appended g (goal.at.invariant_of-self g c).Joined-self).queues

pub returns-clause-queues : goal.returns-clause-queues
returns-clause-queues g c = rw (← c.self.view_is) (appended g (goal.at.returns-clause-queues g c).Joined-self).is

use Rattle.clock2q_queues.proofs.Names.{◌≡◌, ℕ, ◌-◌, cond, eqb, refl, sym, ap, ◌∙◌, rules, eq-eqb, ne_eqb, Small, Record, next_at, previous_at}
use Rattle.clock2q_queues.proofs.InQueue.{small_linked}
use Rattle.clock2q_queues.proofs.Leaving.{UnlinksSmall, UnlinksSmall-from}
use Rattle.clock2q_queues.proofs.small.Small.unlink.Given.{Over}
use Rattle.clock2q_queues.proofs.small.Small.unlink.Goals.{Joined-self-slot}
use Rattle.clock2q_queues.proofs.small.Small.unlink.Goals as goal
use Rattle.clock2q_queues.proofs.small.Small.unlink.Goals.{then-self-slot, else-self-slot}

pub detach-was-requires : goal.detach-was-requires
detach-was-requires g c =
    let in_small = small_linked c.args.links.now c.args.self.now c.requires.whole c.args.slot c.requires.present in
    record { slot_in = in_small.own; next_in = in_small.next; previous_in = in_small.previous }

pub leave_position-requires : goal.leave_position-requires
leave_position-requires g c = λ position e.
    let p = (c.requires.whole.placed c.args.slot position c.requires.present (ap (λ (r : Record). r.held) (sym c.detach-was.ensures.value) ∙ e)).0 in
    rw c.detach-was.ensures.cleared.window p

module _ (g : Over) (c : Joined-self-slot g) where
  -- the queue with its newest slot as it is then
  newest : c.if-self-slot.self.newest ≡ cond (eqb c.args.self.now.newest c.args.slot) (next_at c.args.links.now.records.items c.args.slot) c.args.self.now.newest
  newest = elim c.if-self-slot.branch [
    | then-self-slot w ↦ ap (λ (m : Small). m.newest) w.self-is ∙ ap (λ (r : Record). r.next) c.detach-was.ensures.value ∙ rw (eq-eqb c.args.self.now.newest c.args.slot w.if-self-slot.true) refl
    | else-self-slot w ↦ ap (λ (m : Small). m.newest) w.self-is ∙ rw (ne_eqb c.args.self.now.newest c.args.slot w.if-self-slot.false) refl
  ]

  kept : (c.if-self-slot.self.oldest ≡ c.args.self.now.oldest) × (c.if-self-slot.self.len ≡ c.args.self.now.len - 1) × (c.if-self-slot.self.cursor ≡ c.args.self.now.cursor)
  kept = elim c.if-self-slot.branch [
    | then-self-slot w ↦ (ap (λ (m : Small). m.oldest) w.self-is, ap (λ (m : Small). m.len) w.self-is, ap (λ (m : Small). m.cursor) w.self-is)
    | else-self-slot w ↦ (ap (λ (m : Small). m.oldest) w.self-is, ap (λ (m : Small). m.len) w.self-is, ap (λ (m : Small). m.cursor) w.self-is)
  ]

  unlinked : (oldest : ℕ) → oldest ≡ cond (eqb c.args.self.now.oldest c.args.slot) (previous_at c.args.links.now.records.items c.args.slot) c.args.self.now.oldest
      → UnlinksSmall c.args.slot c.args.links.now c.args.self.now c.leave_position.new.self (record c.if-self-slot.self { oldest = oldest })
  unlinked oldest is = UnlinksSmall-from c.args.slot c.args.links.now c.args.self.now c.detach-was.new.self c.leave_position.new.self c.requires.whole c.requires.present
      c.detach-was.ensures.detached c.detach-was.ensures.cleared c.detach-was.result.held (ap (λ (r : Record). r.held) c.detach-was.ensures.value) c.leave_position.ensures
      (record c.if-self-slot.self { oldest = oldest }) kept.1 kept.2 newest is

pub returns-then-self-slot-2 : goal.returns-then-self-slot-2
returns-then-self-slot-2 g c =
    let j = (goal.at.returns-then-self-slot-2 g c).Joined-self-slot in
    let u = unlinked g j c.detach-was.result.previous (ap (λ (r : Record). r.previous) c.detach-was.ensures.value
    ∙ rw (eq-eqb c.args.self.now.oldest c.args.slot (sym (kept g j).0 ∙ c.if-self-slot-2.true)) refl) in
    record { whole = u.whole; entries = u.entries; freed = u.freed; others = u.others; window = u.window; inspections = search rules; made = search rules; accesses = search rules }

pub returns-else-self-slot-2 : goal.returns-else-self-slot-2
returns-else-self-slot-2 g c =
    let j = (goal.at.returns-else-self-slot-2 g c).Joined-self-slot in
    let u = unlinked g j c.if-self-slot.self.oldest ((kept g j).0 ∙ rw (ne_eqb c.args.self.now.oldest c.args.slot (λ e. c.if-self-slot-2.false ((kept g j).0 ∙ e))) refl) in
    record { whole = u.whole; entries = u.entries; freed = u.freed; others = u.others; window = u.window; inspections = search rules; made = search rules; accesses = search rules }

use Rattle.clock2q_queues.proofs.Names.{ltb, ◌-◌, refl, ap, ◌∙◌, rules, then_some, Record, main_slots}
use Rattle.clock2q_queues.proofs.InQueue.{main_linked}
use Rattle.clock2q_queues.proofs.Joining.{is_first, not_first, first_gone, first_stays}
use Rattle.clock2q_queues.proofs.Main.{UnlinksMain-from}
use Rattle.clock2q_queues.proofs.main_queue.Main.unlink.Goals as goal

pub detach-was-requires : goal.detach-was-requires
detach-was-requires g c =
    let in_main = main_linked c.args.links.now c.args.self.now c.requires.whole c.args.slot c.requires.present in
    record { slot_in = in_main.own; next_in = in_main.next; previous_in = in_main.previous }

-- the hand was at the slot, and is at the next one now
pub returns-then-eq : goal.returns-then-eq
returns-then-eq g c =
    let old = c.args.links.now in
    let main = c.args.self.now in
    let was = c.detach-was in
    let hand = c.then_some-self.ensures ∙ ap (λ (r : Record). then_some (ltb 0 (main.len - 1)) r.next) was.ensures.value
    ∙ first_gone old.records.items main.hand main.len (main_slots old main) c.args.slot c.requires.whole.queue (is_first main.hand c.args.slot c.if-eq.ensures) in
    let u = UnlinksMain-from c.args.slot old main was.new.self (record { hand = c.then_some-self.result; len = main.len - 1 }) c.requires.whole c.requires.present was.ensures.detached was.ensures.cleared hand refl in
    record { whole = u.whole; entries = u.entries; freed = u.freed; others = u.others; window = search rules; inspections = search rules; made = search rules; accesses = search rules }

-- it was at another slot, and stays there
pub returns-else-eq : goal.returns-else-eq
returns-else-eq g c =
    let old = c.args.links.now in
    let main = c.args.self.now in
    let was = c.detach-was in
    let hand = first_stays old.records.items main.hand main.len (main_slots old main) c.args.slot c.requires.whole.queue (not_first main.hand c.args.slot c.if-eq.ensures) in
    let u = UnlinksMain-from c.args.slot old main was.new.self (record { hand = main.hand; len = main.len - 1 }) c.requires.whole c.requires.present was.ensures.detached was.ensures.cleared hand refl in
    record { whole = u.whole; entries = u.entries; freed = u.freed; others = u.others; window = search rules; inspections = search rules; made = search rules; accesses = search rules }

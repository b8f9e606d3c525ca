use Rattle.clock2q_queues.proofs.Names.{arith, ℕ, Bool, false, List, drop, ap, ◌∙◌, rules, accesses_of, main_entries, from_victim, QueueState, queues_shown}
use Rattle.clock2q_queues.proofs.Sharing.{after_choice, after_main_left}
use Rattle.clock2q_queues.proofs.Locations.{first_there}
use Rattle.clock2q_queues.proofs.queues.Queues.take_victim.Goals as goal

pub unlink-requires-clause-present : goal.unlink-requires-clause-present
unlink-requires-clause-present g c = grind (arith, after_choice, first_there, c.self.invariant)

pub invariant_of-self : goal.invariant_of-self
invariant_of-self g c =
    let i = c.self.inside in
    let s = c.select-victim in
    let u = c.unlink in
    let chosen = after_choice i.links i.small i.main c.self.invariant s.new.links s.new.self s.ensures.whole s.ensures.entries s.ensures.others s.ensures.made s.ensures.window in
    (after_main_left s.new.links i.small s.new.self chosen.queues u.new.links u.new.self s.result
    u.ensures.whole u.ensures.freed u.ensures.entries u.ensures.others u.ensures.made u.ensures.window).queues

pub returns-clause-queues : goal.returns-clause-queues
returns-clause-queues g c =
    let i = c.self.inside in
    let s = c.select-victim in
    let u = c.unlink in
    let chosen = after_choice i.links i.small i.main c.self.invariant s.new.links s.new.self s.ensures.whole s.ensures.entries s.ensures.others s.ensures.made s.ensures.window in
    let left =
    after_main_left s.new.links i.small s.new.self chosen.queues u.new.links u.new.self s.result
    u.ensures.whole u.ensures.freed u.ensures.entries u.ensures.others u.ensures.made u.ensures.window in
    let first = (first_there s.new.links i.small s.new.self chosen.queues s.result false s.ensures.victim).1 in
    let now = (λ (q : QueueState) (main : List (ℕ × Bool)). record q { main = main; accesses = accesses_of u.new.links; inspections = u.new.links.bits.inspections }) in
    rw (← c.self.view_is) (left.is
    ∙ ap (λ z. now (queues_shown s.new.links i.small s.new.self) z) (first ∙ ap (λ (z : List (ℕ × Bool)). drop 1 z) s.ensures.entries)
    ∙ ap (λ q. now q (drop 1 (from_victim (main_entries i.links i.main)))) chosen.is)

pub returns-clause-victim : goal.returns-clause-victim
returns-clause-victim g c = search rules

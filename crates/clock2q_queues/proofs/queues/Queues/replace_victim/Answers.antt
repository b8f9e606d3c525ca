use Rattle.clock2q_queues.proofs.Names.{◌∷◌, [], ◌++◌, Main, QueueState, Record, Some, accesses_of, ap, drop, false, from_victim, main_entries, queues_shown, ◌∙◌}
use Rattle.clock2q_queues.proofs.Hand.{whole_passed, entries_passed}
use Rattle.clock2q_queues.proofs.Sharing.{Becomes, after_choice, after_pass}
use Rattle.clock2q_queues.proofs.Locations.{first_there}
use Rattle.clock2q_queues.proofs.queues.Queues.replace_victim.Given.{Over}
use Rattle.clock2q_queues.proofs.queues.Queues.replace_victim.Goals.{After-look}
use Rattle.clock2q_queues.proofs.queues.Queues.replace_victim.Goals as goal

passed : (g : Over) (c : After-look g) → Becomes c.look.new.self c.self.inside.small (record { hand = Some c.look.result.0.next; len = c.select-victim.new.self.len })
    (record (queues_shown c.self.inside.links c.self.inside.small c.self.inside.main) {
      main = drop 1 (from_victim (main_entries c.self.inside.links c.self.inside.main)) ++ (c.select-victim.result, false) ∷ [];
      accesses = accesses_of c.look.new.self;
      inspections = c.look.new.self.bits.inspections;
    })
passed g c =
    let i = c.self.inside in
    let s = c.select-victim in
    let l = c.look in
    let chosen = after_choice i.links i.small i.main c.self.invariant s.new.links s.new.self s.ensures.whole s.ensures.entries s.ensures.others s.ensures.made s.ensures.window in
    let out = (first_there s.new.links i.small s.new.self chosen.queues s.result false s.ensures.victim).1 in
    let next = ap (λ (r : Record). r.next) l.ensures.entry in
    let whole = whole_passed s.new.links l.new.self s.new.self s.result s.ensures.whole s.ensures.victim l.ensures.counted in
    let entries = entries_passed s.new.links l.new.self s.new.self s.result s.ensures.whole s.ensures.victim l.ensures.counted in
    let main : Main = record { hand = Some l.result.0.next; len = s.new.self.len } in
    let p = after_pass s.new.links i.small s.new.self chosen.queues l.new.self main s.result out (rw next whole) (rw next entries) l.ensures.counted in
    record {
      queues = p.queues;
      is = p.is ∙ ap (λ (q : QueueState). record q { main = drop 1 q.main ++ (s.result, false) ∷ []; accesses = accesses_of l.new.self; inspections = l.new.self.bits.inspections }) chosen.is;
    }

pub invariant_of-self : goal.invariant_of-self
invariant_of-self g c = (passed g (goal.at.invariant_of-self g c).After-look).queues

pub returns-clause-queues : goal.returns-clause-queues
returns-clause-queues g c = rw (← c.self.view_is) (passed g (goal.at.returns-clause-queues g c).After-look).is

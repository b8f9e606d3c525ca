use Rattle.clock2q_queues.proofs.Names.{◌<◌, List, length, ap, ◌∙◌, arith, rules, Flag, all_flags}
use Rattle.clock2q_queues.proofs.AllRecords.{all-more, length-all}
use Rattle.clock2q_queues.proofs.links.flags.Flags.make_below.Goals as goal

pub loop-self-preserved : goal.loop-self-preserved
loop-self-preserved g c =
    let i = c.loop-self.self-inside in
    let k = c.loop-self.invariant in
    let fs = i.flags.items in
    let more : length fs < c.args.bound = search rules in
    let below : length fs < i.slots = omega (arith, ap (λ (xs : List Flag). length xs) k.same, length-all Flag.Free fs i.slots k.within, c.requires, more) in
    record {
      same = ap (λ (xs : List Flag). all_flags xs i.slots) c.push_reserved.ensures.items ∙ all-more Flag.Free fs i.slots 1 (omega (arith, below)) ∙ k.same;
      more = search rules;
      fewest = search rules;
      within = search rules;
      enough = search rules;
    }

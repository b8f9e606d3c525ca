use Rattle.clock2q_queues.proofs.Names.{◌<◌, List, length, map, ap, ◌∙◌, arith, refl, rules, length-map, Record, all_records, record_of, vacant}
use Rattle.clock2q_queues.proofs.AllRecords.{entry-vacant, length-all}
use Rattle.clock2q_queues.proofs.ring.Ring.make_below.Goals as goal

pub loop-self-preserved : goal.loop-self-preserved
loop-self-preserved g c =
    let i = c.loop-self.self-inside in
    let k = c.loop-self.invariant in
    let es = i.entries.items in
    let of = record_of g.T.Held.location_of in
    let counts = length-map es of in
    let more : length es < c.args.bound = search rules in
    let below : length es < i.places = omega (arith, ap (λ (rs : List Record). length rs) k.same, length-all vacant (map of es) i.places (omega (arith, counts, k.within)), c.requires, more) in
    record {
      same = ap (λ xs. all_records (map of xs) i.places) c.push_reserved.ensures.items ∙ entry-vacant of es i.places _ (rw (c.VACANT.ensures, g.T.Held.vacant) refl) below ∙ k.same;
      more = search rules;
      fewest = search rules;
      counted = search rules;
      within = search rules;
      enough = search rules;
    }

use Rattle.std.proofs.Common.{rules, arith, ◌≡◌, ◌+◌, [], ◌∷◌, ◌++◌, get_or, take, sym, subst, ap, ◌∙◌}
use Rattle.std.proofs.lemmas.List.{take_more}
use Rattle.std.proofs.lemmas.Grind.{common_steps}
use Rattle.clock2q_uses.specs.Expiring.{AreInTime, after_request, after_requests, replies, reply_to}
use Rattle.clock2q_uses.proofs.LiveValues.{after_more, from_empty, replies_more}
use Rattle.clock2q_uses.proofs.expiring.serve.Goals as goal

pub loop-now-preserved : goal.loop-now-preserved
loop-now-preserved g c =
    let inv = c.loop-now.invariant in
    let requests = c.args.requests.now in
    let i = c.loop-now.now-index in
    let item = c.loop-now-item.result in
    let is : get_or requests i item ≡ item = search rules in
    let more : take (i + 1) requests ≡ take i requests ++ item ∷ [] = take_more requests i item c.loop-now-test.true ∙ ap (λ x. take i requests ++ x ∷ []) is in
    record {
      served = c.push_reserved.ensures.items
          ∙ ap (λ r. c.loop-now.served.items ++ r ∷ []) (c.serve_one.ensures.reply ∙ ap (reply_to item.0 item.1) inv.machine)
          ∙ ap (λ done. done ++ reply_to item.0 item.1 (after_requests (take i requests) c.args.cache.now.machine) ∷ []) inv.served
          ∙ sym (replies_more (take i requests) item.0 item.1 c.args.cache.now.machine)
          ∙ ap (λ rs. replies rs c.args.cache.now.machine) (sym more);
      machine = c.serve_one.ensures.machine ∙ ap (after_request item.0 item.1) inv.machine
          ∙ sym (after_more (take i requests) item.0 item.1 c.args.cache.now.machine)
          ∙ ap (λ rs. after_requests rs c.args.cache.now.machine) (sym more);
      room = search (rules, inv.room);
    }

pub returns-clause-in_time : goal.returns-clause-in_time
returns-clause-in_time g c empty =
    let all : c.loop-now.served.items ≡ replies c.args.requests.now c.args.cache.now.machine = grind (arith, common_steps) in
    subst (AreInTime [] c.args.requests.now) (sym all) (from_empty c.args.requests.now c.args.cache.now.machine c.facts.ensures.whole empty)

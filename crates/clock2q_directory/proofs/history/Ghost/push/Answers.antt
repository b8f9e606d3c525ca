use Rattle.clock2q_directory.proofs.Names.{◌<◌, ◌≤◌, length, arith}
use Rattle.clock2q_directory.proofs.MakingPlaces.{MakesPlace-new, MakesPlace-oldest, oldest_held, place-next}
use Rattle.clock2q_directory.proofs.history.Ghost.push.Goals as goal

pub put-requires-clause-next : goal.put-requires-clause-next
put-requires-clause-next g c =
    let room : length c.args.self.now.order.places < c.args.self.now.order.limit = omega (arith, c.if-len-limit.true, c.len.ensures.len, c.limit.ensures) in
    rw c.requires.as_many (place-next c.args.self.now.order c.push-place.result c.len.ensures.whole room c.push-place.ensures.place)

pub returns-then-len-limit-clause-made : goal.returns-then-len-limit-clause-made
returns-then-len-limit-clause-made g c index indexed =
    let room : length c.args.self.now.order.places < c.args.self.now.order.limit = omega (arith, c.if-len-limit.true, c.len.ensures.len, c.limit.ensures) in
    MakesPlace-new indexed c.requires.as_many c.len.ensures.whole room c.push-place.ensures.place c.push-place.ensures.order c.push-place.ensures.accesses

pub returns-clause-held : goal.returns-clause-held
returns-clause-held g c = λ index indexed. oldest_held c.len.ensures.whole indexed c.replace_oldest-place.ensures.oldest c.replace-oldest.ensures.hash

pub returns-clause-made : goal.returns-clause-made
returns-clause-made g c index indexed =
    let full : c.args.self.now.order.limit ≤ length c.args.self.now.order.places = omega (arith, c.if-len-limit.false, c.len.ensures.len, c.limit.ensures) in
    MakesPlace-oldest indexed c.requires.as_many c.len.ensures.whole full c.replace_oldest-place.ensures.oldest c.replace_oldest-place.ensures.order c.replace-oldest.ensures.hash

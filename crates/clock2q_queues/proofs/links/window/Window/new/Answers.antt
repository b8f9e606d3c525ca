use Rattle.clock2q_queues.proofs.Names.{◌≡◌, replicate, refl, rules, no_slot, mapped-same}
use Rattle.clock2q_queues.proofs.links.window.Window.new.Goals as goal

pub returns : goal.returns
returns g c =
    let all : c.in_ok-numbers.numbers.items ≡ replicate c.args.len no_slot = search rules in
    rw (all, c.new.ensures.zero, mapped-same) refl

use Rattle.std.proofs.Common.{◌∙◌, ap, map, rules}
use Rattle.std.specs.NonZero.{non_zero_usize_get}
use Rattle.std.proofs.lemmas.List.{take_all}
use Rattle.simulator_interface.specs.Amounts.{keys_of}
use Rattle.simulator_interface.proofs.Zipped.{zipped-more}
use Rattle.simulator_replay.proofs.simulation.rooms_of.Goals as goal

pub loop-asked-preserved : goal.loop-asked-preserved
loop-asked-preserved g c =
    zipped-more non_zero_usize_get
    (λ amount. keys_of amount c.args.trace.now.different) c.loop-asked.rooms.items
    c.in_ok-keys.keys c.push.new.self.items c.args.capacities.now c.loop-asked.asked-index _
    c.loop-asked-test.true c.in-Ok.ensures.items c.loop-asked.invariant c.in_ok-keys.ensures.keys

pub returns : goal.returns
returns g c = record {
  keys = c.loop-asked.invariant ∙ ap (map (λ amount. keys_of amount c.args.trace.now.different)) (take_all c.loop-asked.asked-index c.args.capacities.now c.loop-asked-test.false);
  devices = search rules;
}

-- The policies so far and those that the rest names are those before and all that are named.
use Rattle.std.proofs.Common.{◌≡◌, ◌++◌, map, drop}
use Rattle.std.specs.Option.{option_map}
use Rattle.simulator_interface.specs.AskedOptions.{policies_named}
use Rattle.simulator_interface.proofs.chosen.add_policies.Given as goal

abbrev pub invariant-loop-name : goal.invariant-loop-name
invariant-loop-name g l =
    option_map (λ more. l.policies.items ++ more) (policies_named (drop l.name-index (map (λ name. name.now) l.names)))
    ≡ option_map (λ more. l.initial.policies.items ++ more) (policies_named (map (λ name. name.now) l.names))

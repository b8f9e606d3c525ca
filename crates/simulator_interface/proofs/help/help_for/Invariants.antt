-- The words from here on ask for the text that all words ask for.
use Rattle.std.proofs.Common.{◌≡◌, map, drop}
use Rattle.std.specs.String.{string_bytes}
use Rattle.simulator_interface.specs.Help.{asked_help}
use Rattle.simulator_interface.proofs.help.help_for.Given as goal

abbrev pub invariant-loop-index : goal.invariant-loop-index
invariant-loop-index l = asked_help (drop l.index (map string_bytes l.arguments)) ≡ asked_help (map string_bytes l.arguments)

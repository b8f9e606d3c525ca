-- The capacities so far and those that the rest asks for are all the capacities asked for.
use Rattle.std.proofs.Common.{◌≡◌, ◌++◌, [], None, Some, false, map, drop}
use Rattle.std.specs.List.{All, fold}
use Rattle.std.specs.Option.{is_some}
use Rattle.std.specs.String.{string_bytes}
use Rattle.std.specs.NonZero.{non_zero_usize_get}
use Rattle.simulator_interface.specs.Amounts.{IsCapacity, asked_from, joined}
use Rattle.simulator_interface.specs.AskedOptions.{choices_so_far, chosen_by, names_from, set, settings_from}
use Rattle.simulator_interface.specs.ByteAmounts.{bytes_from, joined_bytes}
use Rattle.simulator_interface.proofs.options.parse_options.Given as goal

abbrev pub invariant-loop-index : goal.invariant-loop-index
invariant-loop-index g l = record {
  within : All IsCapacity l.asked.capacities.items;
  asked : joined (Some l.asked.capacities.items)
      (asked_from (is_some l.asked.awaited) (drop l.index (map string_bytes l.arguments)))
      ≡ joined (Some []) (asked_from false (map string_bytes l.arguments));
  bytes : joined_bytes (map non_zero_usize_get l.asked.byte_capacities.items)
      (bytes_from (is_some l.asked.awaited) (drop l.index (map string_bytes l.arguments)))
      ≡ joined_bytes [] (bytes_from false (map string_bytes l.arguments));
  chosen : fold set (choices_so_far l.asked.chosen) (settings_from l.asked.awaited (drop l.index (map string_bytes l.arguments)))
      ≡ chosen_by (map string_bytes l.arguments);
  names : l.asked.traces.items ++ names_from l.index l.asked.awaited (drop l.index (map string_bytes l.arguments))
      ≡ names_from 0 None (map string_bytes l.arguments);
}

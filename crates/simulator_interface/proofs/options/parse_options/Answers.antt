use Rattle.std.proofs.Common.{◌≡◌, ◌∙◌, ◌+◌, ◌++◌, ◌<◌, ◌∷◌, [], Some, ℕ, List, length, map, drop, get_or, ap, sym, arith, rules}
use Rattle.std.specs.Option.{is_some}
use Rattle.std.specs.String.{string_bytes}
use Rattle.std.proofs.lemmas.List.{drop_more, get_or-map, length-map}
use Rattle.std.specs.NonZero.{non_zero_usize_get}
use Rattle.simulator_interface.specs.Amounts.{asked_from, joined}
use Rattle.std.specs.List.{fold}
use Rattle.simulator_interface.specs.AskedOptions.{choices_so_far, names_from, set, settings_from}
use Rattle.simulator_interface.proofs.AskedOptions.{names_more, settled_more}
use Rattle.simulator_interface.specs.ByteAmounts.{bytes_from, joined_bytes}
use Rattle.simulator_interface.proofs.options.parse_options.Goals as goal

pub loop-index-preserved : goal.loop-index-preserved
loop-index-preserved g c =
    let words : List (List ℕ) = map string_bytes c.args.arguments.now in
    let place = c.loop-index.index in
    let asked = c.loop-index.asked in
    let within : place < length words = omega (arith, c.loop-index-test.true, length-map c.args.arguments.now string_bytes) in
    let word : get_or words place [] ≡ c.as_str.result.now =
    get_or-map string_bytes c.args.arguments.now place c.index-arguments-index.result []
    c.loop-index-test.true ∙ search (
      rules,
      c.index-arguments-index.is,
      c.as_str.ensures.value,
    ) in
    let here : drop place words ≡ c.as_str.result.now ∷ drop (place + 1) words = drop_more words place [] within ∙ ap (λ w. w ∷ drop (place + 1) words) word in
    record {
      within = c.in_ok-take.ensures.within;
      asked = c.in_ok-take.ensures.asked (drop (place + 1) words)
          ∙ sym (ap (λ ws. joined (Some asked.capacities.items) (asked_from (is_some asked.awaited) ws)) here)
          ∙ c.loop-index.invariant.asked;
      bytes = c.in_ok-take.ensures.bytes (drop (place + 1) words)
          ∙ sym (ap (λ ws. joined_bytes (map non_zero_usize_get asked.byte_capacities.items)
          (bytes_from (is_some asked.awaited) ws)) here)
          ∙ c.loop-index.invariant.bytes;
      chosen = settled_more (choices_so_far asked.chosen) (choices_so_far c.take.new.self.chosen) asked.awaited c.take.new.self.awaited c.as_str.result.now (drop (place + 1) words)
          c.in_ok-take.ensures.awaited c.in_ok-take.ensures.chosen
          ∙ sym (ap (λ ws. fold set (choices_so_far asked.chosen) (settings_from asked.awaited ws)) here)
          ∙ c.loop-index.invariant.chosen;
      names = names_more asked.traces.items c.take.new.self.traces.items place asked.awaited c.take.new.self.awaited c.as_str.result.now (drop (place + 1) words)
          c.in_ok-take.ensures.awaited c.in_ok-take.ensures.names
          ∙ sym (ap (λ ws. asked.traces.items ++ names_from place asked.awaited ws) here)
          ∙ c.loop-index.invariant.names;
    }

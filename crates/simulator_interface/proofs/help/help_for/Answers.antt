use Rattle.std.proofs.Common.{◌≡◌, ◌∙◌, ◌+◌, ◌<◌, [], Some, ℕ, true, false, List, length, map, drop, get_or, refl, ap, sym, arith, rules}
use Rattle.std.specs.String.{string_bytes}
use Rattle.std.proofs.lemmas.List.{drop_more, get_or-drop, get_or-map, length-map}
use Rattle.simulator_interface.specs.Help.{asked_help, help_on, is_help}
use Rattle.simulator_interface.proofs.help.help_for.Goals as goal

-- a word that doesn't ask for help
later : (words : List (List ℕ)) (place : ℕ) → place < length words → is_help (get_or words place []) ≡ false → asked_help (drop place words) ≡ asked_help (drop (place + 1) words)
later words place within is = ap asked_help (drop_more words place [] within) ∙ (rw is refl)

-- one that does
here : (words : List (List ℕ)) (place : ℕ) → place < length words → is_help (get_or words place []) ≡ true → asked_help (drop place words) ≡ Some (help_on (get_or words (place + 1) []))
here words place within is =
    let next : get_or (drop (place + 1) words) 0 [] ≡ get_or words (place + 1) [] = get_or-drop (place + 1) words 0 [] ∙ ap (λ n. get_or words n []) (omega arith) in
    ap asked_help (drop_more words place [] within) ∙ (rw is (ap (λ word. Some (help_on word)) next))

pub loop-index-preserved : goal.loop-index-preserved
loop-index-preserved c =
    let words : List (List ℕ) = map string_bytes c.args.arguments.now in
    let place = c.loop-index.index in
    let within : place < length words = omega (arith, c.loop-index-test.true, length-map c.args.arguments.now string_bytes) in
    let word : get_or words place [] ≡ c.as_str.result.now =
    get_or-map string_bytes c.args.arguments.now place c.index-arguments-index.result []
    c.loop-index-test.true ∙ search (
      rules,
      c.index-arguments-index.is,
      c.as_str.ensures.value,
    ) in
    let not : is_help (get_or words place []) ≡ false = ap is_help word ∙ sym c.is_help.ensures.help ∙ c.if-is_help.false in
    sym (later words place within not) ∙ c.loop-index.invariant

pub returns-then-is_help : goal.returns-then-is_help
returns-then-is_help c =
    let words : List (List ℕ) = map string_bytes c.args.arguments.now in
    let place = c.loop-index.index in
    let within : place < length words = omega (arith, c.loop-index-test.true, length-map c.args.arguments.now string_bytes) in
    let word : get_or words place [] ≡ c.as_str.result.now =
    get_or-map string_bytes c.args.arguments.now place c.index-arguments-index.result []
    c.loop-index-test.true ∙ search (
      rules,
      c.index-arguments-index.is,
      c.as_str.ensures.value,
    ) in
    let is : is_help (get_or words place []) ≡ true = ap is_help word ∙ sym c.is_help.ensures.help ∙ c.if-is_help.true in
    record { help = ap Some (c.help_on.ensures.text ∙ ap help_on c.word_at.ensures.word) ∙ sym (here words place within is) ∙ c.loop-index.invariant }

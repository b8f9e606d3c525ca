use Rattle.std.proofs.Common.{sym, ap, ◌∙◌}
use Rattle.std.specs.Option.{option_map}
use Rattle.std.proofs.lemmas.Result.{err_from_is_err_and}
use Rattle.clock2q_text.specs.Cut.{first_and_others}
use Rattle.clock2q_text.specs.Parsing.{shares_value}
use Rattle.clock2q_ports.specs.Lines.{lines_of}
use Rattle.clock2q_text.specs.Text.{words_of, script_with}
use Rattle.clock2q_text.proofs.Spelling.{script_of-empty, script_of-bad, script_of-good, Refuses-script, Refuses-first, lines_of-found, shares_in-found}
use Rattle.clock2q_text.proofs.text.parse.Goals as goal

pub returns-in_err-first : goal.returns-in_err-first
returns-in_err-first g c =
    let p = err_from_is_err_and c.from_residual.result c.from_residual.ensures.1 in
    rw (p.1, p.2) (Refuses-first c.cut_line.result c.in_err-first.field-0.0 _ c.in_err-first.ensures.value
    (λ none. script_of-empty c.args.text.now (c.cut_line.ensures.lines ∙ ap first_and_others none)))

pub returns-in_err-capacity : goal.returns-in_err-capacity
returns-in_err-capacity g c =
    let p = err_from_is_err_and c.from_residual-in_err-capacity.result c.from_residual-in_err-capacity.ensures.1 in
    let lines = lines_of-found c.args.text.now c.cut_line.result c.in_ok-first.first c.in_ok-first.others c.cut_line.ensures.lines c.in_ok-first.ensures.ok_part in
    rw (p.1, p.2) (Refuses-first c.shares_of.result c.in_err-capacity.field-0.0 _ c.in_err-capacity.ensures.value
    (λ none. script_of-bad c.args.text.now c.in_ok-first.first.now (lines_of c.in_ok-first.others.now) lines
    (sym c.shares_of.ensures ∙ ap (option_map (λ shares. shares_value shares.0 shares.1)) none)))

pub returns-in_err-commands : goal.returns-in_err-commands
returns-in_err-commands g c =
    let p = err_from_is_err_and c.from_residual-in_err-commands.result c.from_residual-in_err-commands.ensures.1 in
    let lines = lines_of-found c.args.text.now c.cut_line.result c.in_ok-first.first c.in_ok-first.others c.cut_line.ensures.lines c.in_ok-first.ensures.ok_part in
    let shares =
    shares_in-found (λ shares. shares_value shares.0 shares.1) (words_of c.in_ok-first.first.now) c.shares_of.result
    (c.in_ok-capacity.capacity, c.in_ok-capacity.chosen) c.shares_of.ensures c.in_ok-capacity.ensures.ok_part in
    rw (p.1, p.2, script_of-good c.args.text.now c.in_ok-first.first.now (lines_of c.in_ok-first.others.now) (shares_value c.in_ok-capacity.capacity c.in_ok-capacity.chosen) lines shares)
    (Refuses-script _ _ c.in_err-commands.field-0.0 c.in_err-commands.ensures)

pub returns : goal.returns
returns g c =
    let lines = lines_of-found c.args.text.now c.cut_line.result c.in_ok-first.first c.in_ok-first.others c.cut_line.ensures.lines c.in_ok-first.ensures.ok_part in
    let shares =
    shares_in-found (λ shares. shares_value shares.0 shares.1) (words_of c.in_ok-first.first.now) c.shares_of.result
    (c.in_ok-capacity.capacity, c.in_ok-capacity.chosen) c.shares_of.ensures c.in_ok-capacity.ensures.ok_part in
    script_of-good c.args.text.now c.in_ok-first.first.now (lines_of c.in_ok-first.others.now) (shares_value c.in_ok-capacity.capacity c.in_ok-capacity.chosen) lines shares
    ∙ ap (script_with (shares_value c.in_ok-capacity.capacity c.in_ok-capacity.chosen)) c.in_ok-commands.ensures

use Rattle.std.proofs.Common.{◌≡◌, ◌+◌, map, arith, rules, Some, ◌∙◌}
use Rattle.std.specs.Prelude.{IsSome}
use Rattle.std.proofs.lemmas.Result.{err_from_is_err_and}
use Rattle.clock2q_text.specs.Commands.{call_of}
use Rattle.clock2q_ports.specs.Lines.{lines_of}
use Rattle.clock2q_text.specs.Text.{words_of, call_in}
use Rattle.clock2q_text.specs.declared.serve_error.ServeError.TheVariants.{Memory}
use Rattle.clock2q_text.proofs.Spelling.{gathered-later, gathered-spelled}
use Rattle.clock2q_text.proofs.text.commands_of.Goals as goal

pub returns-in_err-command : goal.returns-in_err-command
returns-in_err-command g c =
    let p = err_from_is_err_and c.from_residual-in_err-command.result c.from_residual-in_err-command.ensures.1 in
    let spelled : IsSome (call_in (words_of c.in-Some.line.now)) = rw (c.in_ok-ok_or.ensures.ok_part, c.in_err-command.was) at c.command_of.ensures in
    rw (p.1, p.2) (λ bad e.
    omega (
      arith,
      c.loop-line.invariant.begun,
      gathered-spelled (map call_of c.loop-line.commands.items) (c.loop-line.number + 1) (lines_of c.loop-line.rest.now) c.in-Some.line.now (lines_of c.in-Some.others.now)
          bad c.in-Some.ensures.lines spelled (c.loop-line.invariant.so_far ∙ e),
    ))

pub returns-in_err-map_err : goal.returns-in_err-map_err
returns-in_err-map_err g c =
    let p = err_from_is_err_and c.from_residual-in_err-map_err.result c.from_residual-in_err-map_err.ensures.1 in
    let memory : c.in_err-map_err.field-0.0 ≡ Memory = search (rules, c.in_err-map_err.ensures) in
    let spelled : call_in (words_of c.in-Some.line.now) ≡ Some (call_of c.in_ok-command.command) = rw (c.in_ok-ok_or.ensures.ok_part, c.in_ok-command.was) at c.command_of.ensures in
    rw (p.1, p.2, memory) (λ bad e.
    omega (
      arith,
      c.loop-line.invariant.begun,
      gathered-later (map call_of c.loop-line.commands.items) (c.loop-line.number + 1) (lines_of c.loop-line.rest.now) c.in-Some.line.now (lines_of c.in-Some.others.now)
          (call_of c.in_ok-command.command) bad c.in-Some.ensures.lines spelled (c.loop-line.invariant.so_far ∙ e),
    ))

pub returns-in_err-ok_or : goal.returns-in_err-ok_or
returns-in_err-ok_or g c = search rules

use Rattle.std.proofs.Common.{◌≡◌, ◌∙◌, Some, ap, refl, subst, sym}
use Rattle.std.specs.Option.{option_map}
use Rattle.simulator_interface.specs.declared.format.FormatName.TheVariants as name
use Rattle.simulator_interface.specs.declared.format.TraceFormat.TheVariants as trace
use Rattle.simulator_interface.specs.AskedOptions.{IsFormat, format_so_far}
use Rattle.simulator_interface.proofs.format.AskedFormat.finish.Goals as goal

pub returns-in_ok-columns-in-Csv : goal.returns-in_ok-columns-in-Csv
returns-in_ok-columns-in-Csv c =
    let columns = c.in_ok-columns-in-Csv.field-0 in
    let chosen = format_so_far c.args.self in
    let named : chosen.name ≡ Some name.Csv = ap (option_map (λ name. name.value)) c.in-Some.is ∙ ap Some c.in-Csv.is in
    record { format = subst (λ name. IsFormat name chosen (trace.Csv columns)) (sym named) (columns, refl, c.in_ok-columns-in-Csv.ensures.columns) }

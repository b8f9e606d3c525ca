-- What the format of a trace says of its records.
use Rattle.std.specs.Prelude.{ℕ, Bool, true, false, if◌then◌else◌, is_some}
use Rattle.simulator_interface.specs.declared.format.Columns.{Columns}
use Rattle.simulator_interface.specs.declared.format.TraceFormat.{TraceFormat}
use Rattle.simulator_interface.specs.declared.format.TraceFormat.TheVariants.{Lines, Csv, OracleGeneral}

-- how many of the first lines are headers
abbrev pub headers : Columns → ℕ
headers columns = if columns.has_header then 1 else 0

-- whether the records of a format have sizes
abbrev pub has_sizes : TraceFormat → Bool
has_sizes Lines = false
has_sizes (Csv columns) = is_some columns.size
has_sizes OracleGeneral = true

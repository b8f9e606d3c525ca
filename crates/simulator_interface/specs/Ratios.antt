-- A part of a whole, as the program computes it.
use Rattle.std.specs.Prelude.{ℕ, ◌==◌, if◌then◌else◌}
use Rattle.std.specs.Float.{float_zero}
use Rattle.simulator_interface.specs.declared.row.Counted.{Counted}
use Rattle.simulator_interface.specs.declared.row.Counted.TheVariants as counted
use Rattle.simulator_interface.specs.declared.row.Hits.{Hits}
use Rattle.simulator_interface.specs.declared.row.Row.{Row}
use Rattle.simulator_interface.specs.Expected.{adjusted}
use lib.Ieee.{Float, binary64, div, of_int}
use lib.IntN.{pos}

-- the quotient of the floats of 64 bits that are nearest to two numbers, or 0 if the whole is 0
abbrev pub ratio_of : ℕ → ℕ → Float
ratio_of part whole = if whole == 0 then float_zero else div binary64 (of_int binary64 (pos part)) (of_int binary64 (pos whole))

-- the number of hits, or of their bytes
abbrev pub number_of : Counted → Hits → ℕ
number_of counted.Hits hits = hits.hits
number_of counted.Bytes hits = hits.bytes

-- what a ratio is a part of, and which part: the expected accesses, and those of them that hit, or bytes
abbrev pub whole_of : {A : Type 0} → Counted → Row A → ℕ
whole_of counted.Hits row = row.expected
whole_of counted.Bytes row = row.bytes

abbrev pub part_of : {A : Type 0} → Counted → Row A → ℕ → ℕ
part_of counted.Hits row hits = adjusted row.expected row.accesses hits
part_of counted.Bytes row bytes = bytes

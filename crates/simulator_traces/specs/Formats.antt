-- The keys and sizes of a trace's text, in each format.
use Rattle.std.specs.Prelude.{ℕ, ◌+◌, ◌-◌, ◌/◌, ◌%◌, ◌^◌, min, max, Bool, ◌==◌, if◌then◌else◌, List, [], ◌∷◌, length, take, drop, map, get_or, slice_get}
use Rattle.std.specs.Prelude.{Option, Some, None, ok_or, Result, Ok, Err}
use Rattle.std.specs.Int.{w32, from_le_bytes}
use Rattle.std.specs.NonZero.{non_zero_usize_get}
use Rattle.std.specs.Option.{option_map, option_and_then}
use Rattle.std.specs.Simd.{first_chunks}
use Rattle.clock2q_ports.specs.Lines.{lines_of}
use Rattle.simulator_traces.specs.declared.csv.Place.{Place}
use Rattle.simulator_traces.specs.declared.csv.Place.TheVariants.{Start, Plain, Quoted, Closed}
use Rattle.simulator_interface.specs.declared.error.SimulationError.{SimulationError}
use Rattle.simulator_interface.specs.declared.error.SimulationError.TheVariants.{Line, Size, Record}
use Rattle.simulator_interface.specs.declared.format.Columns.{Columns}
use Rattle.simulator_interface.specs.declared.format.TraceFormat.{TraceFormat}
use Rattle.simulator_interface.specs.declared.format.TraceFormat.TheVariants.{Lines, Csv, OracleGeneral}
use Rattle.simulator_interface.specs.TraceFormats.{headers}
use Rattle.simulator_interface.specs.Amounts.{ends_in, front, number_in, times}

-- an access: the key and the size of its record
pub record Access : Type 0 where
  pub key : List ℕ
  pub size : ℕ

abbrev pub access : List ℕ → ℕ → Access
access key size = record { key = key; size = size }

-- an access whose record has no size has size 1
abbrev pub unsized : List ℕ → Access
unsized key = access key 1

-- a byte more at the beginning of the first field, and an empty field more before the others
abbrev pub lengthened : ℕ → List (List ℕ) → List (List ℕ)
lengthened byte [] = []
lengthened byte (field ∷ fields) = (byte ∷ field) ∷ fields

abbrev pub with_byte : ℕ → Option (List (List ℕ)) → Option (List (List ℕ))
with_byte byte fields = option_map (lengthened byte) fields

abbrev pub with_end : Option (List (List ℕ)) → Option (List (List ℕ))
with_end fields = option_map (λ fields. [] ∷ fields) fields

-- the rest of a field of which the next byte is at a place, and the fields after it, with a separator between two; a
-- quote is 34. A field is between quotes, with each quote in it doubled, or has no quote
abbrev pub fields_from : ℕ → Place → List ℕ → Option (List (List ℕ))
fields_from separator Quoted [] = None
fields_from separator Start [] = Some ([] ∷ [])
fields_from separator Plain [] = Some ([] ∷ [])
fields_from separator Closed [] = Some ([] ∷ [])
fields_from separator Start (byte ∷ rest) = if byte == 34 then fields_from separator Quoted rest else if byte == separator then with_end (fields_from separator Start rest) else with_byte byte (fields_from separator Plain rest)
fields_from separator Plain (byte ∷ rest) = if byte == 34 then None else if byte == separator then with_end (fields_from separator Start rest) else with_byte byte (fields_from separator Plain rest)
fields_from separator Quoted (byte ∷ rest) = if byte == 34 then fields_from separator Closed rest else with_byte byte (fields_from separator Quoted rest)
fields_from separator Closed (byte ∷ rest) = if byte == 34 then with_byte 34 (fields_from separator Quoted rest) else if byte == separator then with_end (fields_from separator Start rest) else None

-- a line without the carriage return at its end, if it has one
abbrev pub without_return : List ℕ → List ℕ
without_return line = if ends_in 13 line then front line else line

-- a blank line has no other byte
abbrev pub is_blank : List ℕ → Bool
is_blank line = length (without_return line) == 0

-- the fields of a line of values with a separator, and the one in a column, counted from 1
abbrev pub fields_of : ℕ → List ℕ → Option (List (List ℕ))
fields_of separator line = fields_from separator Start (without_return line)

abbrev pub field : ℕ → ℕ → List ℕ → Option (List ℕ)
field separator column line = option_and_then (λ fields. slice_get fields (column - 1)) (fields_of separator line)

-- the number of the next line, or of the record after some, in 64 bits
abbrev pub next_number : ℕ → ℕ
next_number count = min (count + 1) (2 ^ 64 - 1)

-- the field in a column of the line with a number, or what refuses a line without it
abbrev pub field_named : ℕ → ℕ → ℕ → List ℕ → Result (List ℕ) SimulationError
field_named separator column number line = ok_or (field separator column line) (Line number column)

-- the size that the field is, as digits, or what refuses another field
abbrev pub size_named : ℕ → ℕ → Result (List ℕ) SimulationError → Result ℕ SimulationError
size_named column number (Ok digits) = ok_or (number_in digits) (Size number column)
size_named column number (Err refusal) = Err refusal

-- the size in a column of the line with a number, if its lines have one
abbrev pub size_in : ℕ → Option ℕ → ℕ → List ℕ → Result ℕ SimulationError
size_in separator None number line = Ok 1
size_in separator (Some column) number line = size_named column number (field_named separator column number line)

-- the access of the line with a number, by the columns of its key and of its size, or what refuses the line first
abbrev pub access_with : Result (List ℕ) SimulationError → Result ℕ SimulationError → Result Access SimulationError
access_with (Ok key) (Ok size) = Ok (access key size)
access_with (Ok key) (Err refusal) = Err refusal
access_with (Err refusal) _ = Err refusal

abbrev pub access_in : ℕ → ℕ → Option ℕ → ℕ → List ℕ → Result Access SimulationError
access_in separator column sizes number line = access_with (field_named separator column number line) (size_in separator sizes number line)

-- the accesses of lines after some others, if each that isn't blank has one, or what refuses the first of those without
abbrev pub consed : Result Access SimulationError → Result (List Access) SimulationError → Result (List Access) SimulationError
consed (Ok first) (Ok accesses) = Ok (first ∷ accesses)
consed (Ok first) (Err refusal) = Err refusal
consed (Err refusal) _ = Err refusal

abbrev pub accesses_of : ℕ → ℕ → Option ℕ → ℕ → List (List ℕ) → Result (List Access) SimulationError
accesses_of separator column sizes count [] = Ok []
accesses_of separator column sizes count (line ∷ lines) =
    if is_blank line then accesses_of separator column sizes (next_number count) lines
    else consed (access_in separator column sizes (next_number count) line) (accesses_of separator column sizes (next_number count) lines)

-- the same by columns
abbrev pub access_by : Columns → ℕ → List ℕ → Result Access SimulationError
access_by columns number line = access_in columns.separator (non_zero_usize_get columns.key) (option_map non_zero_usize_get columns.size) number line

abbrev pub accesses_by : Columns → ℕ → List (List ℕ) → Result (List Access) SimulationError
accesses_by columns count lines = accesses_of columns.separator (non_zero_usize_get columns.key) (option_map non_zero_usize_get columns.size) count lines

-- a record of oracleGeneral: a time of 4 bytes, an id of 8, a size of 4, a next access of 8, little endian
abbrev pub id_of : List ℕ → List ℕ
id_of part = take 8 (drop 4 part)

abbrev pub size_of : List ℕ → ℕ
size_of part = from_le_bytes w32 (get_or part 12 0 ∷ get_or part 13 0 ∷ get_or part 14 0 ∷ get_or part 15 0 ∷ [])

abbrev pub record_of : List ℕ → Access
record_of part = access (id_of part) (size_of part)

-- the offset of the record after some
abbrev pub offset_of : ℕ → ℕ
offset_of count = times 24 count

-- the accesses of what is left of a text of which some records were read, or what refuses the first bad record
abbrev pub accesses_after : TraceFormat → ℕ → List ℕ → Result (List Access) SimulationError
accesses_after Lines count text = Ok (map unsized (lines_of text))
accesses_after (Csv columns) count text = accesses_by columns (max count (headers columns)) (drop (headers columns - count) (lines_of text))
accesses_after OracleGeneral count text =
    if length text % 24 == 0 then Ok (map record_of (first_chunks 24 (length text / 24) text))
    else Err (Record (offset_of (count + length text / 24)))

-- the accesses of a text, or what refuses its first bad record
abbrev pub accesses_in : TraceFormat → List ℕ → Result (List Access) SimulationError
accesses_in format text = accesses_after format 0 text

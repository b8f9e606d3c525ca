-- The accesses of small texts, computed.
use Rattle.std.specs.Prelude.{◌≡◌, [], ◌∷◌, drop, map, Some, None, Ok, Err, codes, refl}
use Rattle.std.specs.Result.{result_map_both}
use Rattle.clock2q_ports.specs.Lines.{lines_of}
use Rattle.simulator_interface.specs.declared.error.SimulationError.TheVariants.{Line, Record, Size}
use Rattle.simulator_interface.specs.declared.format.TraceFormat.TheVariants.{Lines, OracleGeneral}
use Rattle.simulator_traces.specs.Formats.{Access, access, accesses_in, accesses_of, field, fields_of, unsized}

lines : accesses_in Lines (codes "b\na\n\nb") ≡ Ok (map unsized (codes "b" ∷ codes "a" ∷ [] ∷ codes "b" ∷ []))
unfolding lines_of
lines = refl

-- the first line is a header
keys_of_lines : accesses_of 44 2 None 1 (drop 1 (lines_of (codes "time,key\n1,a\n2,\"b\"\n"))) ≡ Ok (unsized (codes "a") ∷ unsized (codes "b") ∷ [])
unfolding lines_of
keys_of_lines = refl

keys_and_sizes_of_lines : accesses_of 44 2 (Some 1) 1 (drop 1 (lines_of (codes "size,key\n7,a\n20,b\n"))) ≡ Ok (access (codes "a") 7 ∷ access (codes "b") 20 ∷ [])
unfolding lines_of
keys_and_sizes_of_lines = refl

size_without_a_number : accesses_of 44 2 (Some 1) 1 (drop 1 (lines_of (codes "size,key\n7,a\nx,b\n"))) ≡ Err (Size 3 1)
unfolding lines_of
size_without_a_number = refl

-- blank lines are left out
blank_lines : accesses_of 44 1 None 0 (lines_of (codes "\na\n\r\n\nb\n\n")) ≡ Ok (unsized (codes "a") ∷ unsized (codes "b") ∷ [])
unfolding lines_of
blank_lines = refl

other_separator : accesses_of 59 2 None 0 (lines_of (codes "1;a,b\n2;\"c;d\"\n")) ≡ Ok (unsized (codes "a,b") ∷ unsized (codes "c;d") ∷ [])
unfolding lines_of
other_separator = refl

no_second_value : accesses_of 44 2 None 1 (drop 1 (lines_of (codes "time,key\n1,a\n2\n"))) ≡ Err (Line 3 2)
unfolding lines_of
no_second_value = refl

-- the fields of a line
three : fields_of 44 (codes "1,,a b") ≡ Some (codes "1" ∷ [] ∷ codes "a b" ∷ [])
three = refl

empty_line : fields_of 44 [] ≡ Some ([] ∷ [])
empty_line = refl

quoted_comma : field 44 2 (codes "1,\"a,b\",5") ≡ Some (codes "a,b")
quoted_comma = refl

quoted_quotes : field 44 1 (codes "\"a \"\"b\"\"\",1") ≡ Some (codes "a \"b\"")
quoted_quotes = refl

quoted_nothing : field 44 1 (codes "\"\"") ≡ Some []
quoted_nothing = refl

with_a_return : field 44 2 (codes "1,\"a\"\r") ≡ Some (codes "a")
with_a_return = refl

quote_inside : field 44 1 (codes "a\"b") ≡ None
quote_inside = refl

byte_after_a_quote : field 44 2 (codes "1,\"a\"b") ≡ None
byte_after_a_quote = refl

quote_without_its_end : field 44 1 (codes "1,\"a") ≡ None
quote_without_its_end = refl

-- a record of oracleGeneral has its key in its fifth to twelfth byte
two_records : result_map_both (map (λ (a : Access). a.key)) (λ refusal. refusal) (accesses_in OracleGeneral (codes "timeidentifysizenextaccstime8bytes!!sizenextaccs")) ≡ Ok (codes "identify" ∷ codes "8bytes!!" ∷ [])
two_records = refl

part_of_a_record : accesses_in OracleGeneral (codes "timeidentifysizenextaccstime") ≡ Err (Record 24)
part_of_a_record = refl

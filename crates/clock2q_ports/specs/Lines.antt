-- The lines of a text.
use Rattle.std.specs.Prelude.{ℕ, ◌==◌, List, [], ◌∷◌}
use Rattle.std.specs.List.{slice_split}

-- the parts between the line ends, but an empty part after the last line end is no line
abbrev pub lines_of_parts : List (List ℕ) → List (List ℕ)
lines_of_parts [] = []
lines_of_parts ([] ∷ []) = []
lines_of_parts (part ∷ parts) = part ∷ lines_of_parts parts

-- the lines of a text; each ends with the byte 10, and the last may lack it
unfoldable pub lines_of : List ℕ → List (List ℕ)
lines_of text = lines_of_parts (slice_split (λ b. b == 10) text)

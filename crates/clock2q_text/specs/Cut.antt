-- Bytes cut at the first separator.
use Rattle.std.specs.Prelude.{ℕ, ◌==◌, List, [], ◌∷◌, Option, Some, None}
use Rattle.std.specs.Borrow.{Bor}
use Rattle.std.specs.List.{slice_split}
use Rattle.std.specs.Option.{option_map}
use Rattle.clock2q_ports.specs.Lines.{lines_of}
use Rattle.clock2q_text.specs.Text.{words_of, number_of}

-- the parts of the bytes after a separator, if there was one
abbrev pub parts_after : ℕ → Option (Bor (List ℕ)) → List (List ℕ)
parts_after separator None = []
parts_after separator (Some rest) = slice_split (λ b. b == separator) rest.now

-- the words of the bytes after a space, if there was one
abbrev pub words_after : Option (Bor (List ℕ)) → List (List ℕ)
words_after None = []
words_after (Some rest) = words_of rest.now

-- the first line, and the lines after it
abbrev pub first_and_others : Option (Bor (List ℕ) × Bor (List ℕ)) → List (List ℕ)
first_and_others None = []
first_and_others (Some found) = found.0.now ∷ lines_of found.1.now

-- the number that the first word spells, and the other words
abbrev pub number_first : List (List ℕ) → Option (ℕ × List (List ℕ))
number_first [] = None
number_first (word ∷ words) = option_map (λ n. (n, words)) (number_of word)

-- The capacities in bytes that arguments ask for.
use Rattle.std.specs.Prelude.{ℕ, Bool, true, false, ◌||◌, if◌then◌else◌, List, [], ◌∷◌, ◌++◌, Option, Some, None}
use Rattle.std.specs.Option.{option_map}
use Rattle.simulator_interface.specs.Amounts.{ends_in, front, is_in_bytes, is_option, number_in, takes_value, times}

-- the number that digits spell, which a letter after them multiplies: by powers of 1,000, or of 1,024 if an i follows it
abbrev pub decimal_in : List ℕ → Option ℕ
decimal_in word =
    if ends_in 107 word || ends_in 75 word then option_map (times 1000) (number_in (front word))
    else if ends_in 77 word then option_map (times 1000000) (number_in (front word))
    else if ends_in 71 word then option_map (times 1000000000) (number_in (front word))
    else if ends_in 84 word then option_map (times 1000000000000) (number_in (front word))
    else number_in word

abbrev pub binary_in : List ℕ → Option ℕ
binary_in word =
    if ends_in 75 word || ends_in 107 word then option_map (times 1024) (number_in (front word))
    else if ends_in 77 word then option_map (times 1048576) (number_in (front word))
    else if ends_in 71 word then option_map (times 1073741824) (number_in (front word))
    else if ends_in 84 word then option_map (times 1099511627776) (number_in (front word))
    else None

abbrev pub unit_in : List ℕ → Option ℕ
unit_in word = if ends_in 105 word then binary_in (front word) else decimal_in word

-- the bytes that a word spells: such a number, and a B
abbrev pub bytes_in : List ℕ → Option ℕ
bytes_in word = if ends_in 66 word then unit_in (front word) else None

-- some numbers of bytes and those after them, if both exist
abbrev pub joined_bytes : List ℕ → Option (List ℕ) → Option (List ℕ)
joined_bytes bytes more = option_map (λ rest. bytes ++ rest) more

abbrev pub one_more : Option ℕ → Option (List ℕ) → Option (List ℕ)
one_more (Some bytes) more = joined_bytes (bytes ∷ []) more
one_more None more = None

-- the capacities in bytes that words ask for, in order; the first word may be the value of an option before it
abbrev pub bytes_from : Bool → List (List ℕ) → Option (List ℕ)
bytes_from is_value [] = Some []
bytes_from true (word ∷ words) = bytes_from false words
bytes_from false (word ∷ words) =
    if is_option word then bytes_from (takes_value word) words
    else if is_in_bytes word then one_more (bytes_in word) (bytes_from false words)
    else bytes_from false words

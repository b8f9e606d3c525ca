-- What words and arguments mean: amounts of keys, and capacities in order.
use Rattle.std.specs.Prelude.{ℕ, ◌+◌, ◌-◌, ◌*◌, ◌/◌, ◌^◌, ◌<◌, ◌≤◌, Bool, true, false, ◌&&◌, ◌||◌, ◌==◌, nat_lt, nat_le, min, max, if◌then◌else◌, List, [], ◌∷◌, ◌++◌, length, take, drop}
use Rattle.std.specs.Prelude.{get_or, map, Option, Some, None, codes}
use Rattle.std.specs.List.{before_first, after_first, position_or_len, filter}
use Rattle.std.specs.Option.{option_map}
use Rattle.std.specs.Char.{is_ascii_digit}
use Rattle.std.specs.Str.{bytes_eq, all_ascii_digits}
use Rattle.std.specs.Str.Parse.{digits_value}
use Rattle.simulator_interface.specs.declared.amount.Amount.{Amount}
use Rattle.simulator_interface.specs.declared.amount.Unit.{Unit as Counted}
use Rattle.simulator_interface.specs.declared.amount.Unit.TheVariants.{Keys, Millionths}

-- the number that digits spell, capped at the largest of 64 bits
abbrev pub number_in : List ℕ → Option ℕ
number_in word = if nat_lt 0 (length word) && all_ascii_digits word then Some (min (digits_value 10 word) (2 ^ 64 - 1)) else None

-- whether a word ends with a byte, and the word without its last byte
abbrev pub ends_in : ℕ → List ℕ → Bool
ends_in byte word = nat_lt 0 (length word) && (get_or word (length word - 1) 0 == byte)

abbrev pub front : List ℕ → List ℕ
front word = take (length word - 1) word

-- a multiple of a number, capped at the largest of 64 bits
abbrev pub times : ℕ → ℕ → ℕ
times factor number = min (number * factor) (2 ^ 64 - 1)

-- the number that digits spell, which a k after them makes thousands and an M millions
abbrev pub count_in : List ℕ → Option ℕ
count_in word =
    if ends_in 107 word then option_map (times 1000) (number_in (front word))
    else if ends_in 77 word then option_map (times 1000000) (number_in (front word))
    else number_in word

abbrev pub is_dot : ℕ → Bool
is_dot byte = byte == 46

-- one to four decimals of a percentage, in millionths
abbrev pub decimals_in : List ℕ → Option ℕ
decimals_in word = if nat_le (length word) 4 then option_map (times (10 ^ (4 - length word))) (number_in word) else None

-- the sum of two numbers, if both exist
abbrev pub sum_of : Option ℕ → Option ℕ → Option ℕ
sum_of (Some one) (Some other) = Some (min (one + other) (2 ^ 64 - 1))
sum_of _ _ = None

-- the percentage that a word spells without its percent sign, in millionths: digits, then perhaps a dot and decimals
abbrev pub millionths_in : List ℕ → Option ℕ
millionths_in word =
    if nat_lt (position_or_len is_dot word) (length word)
    then sum_of (option_map (times 10000) (number_in (before_first is_dot word))) (decimals_in (after_first is_dot word))
    else option_map (times 10000) (number_in word)

abbrev pub amount : Counted → ℕ → Amount
amount unit number = record { number = number; unit = unit }

-- the amount that a word spells
abbrev pub amount_in : List ℕ → Option Amount
amount_in word = if ends_in 37 word then option_map (amount Millionths) (millionths_in (front word)) else option_map (amount Keys) (count_in word)

-- the number of keys in an amount of some unit, out of a number of keys
abbrev pub keys_by : Counted → ℕ → ℕ → ℕ
keys_by Keys number keys = number
keys_by Millionths number keys = max (keys * min number 1000000 / 1000000) 1

abbrev pub keys_of : Amount → ℕ → ℕ
keys_of amount keys = keys_by amount.unit amount.number keys

-- the most keys that a capacity can be
abbrev pub most_keys : ℕ
most_keys = 4294967295

-- the most keys that a cache of Clock2Q+ or of CLOCK can hold
abbrev pub most_clock_keys : ℕ
most_clock_keys = 16777215

-- a capacity can be this number of keys
pub record IsFor (keys : ℕ) : Type 0 where
  pub some : 0 < keys
  pub within : keys ≤ most_keys

-- the most that a capacity can be
abbrev pub most_of : Counted → ℕ
most_of Keys = most_keys
most_of Millionths = 1000000

pub record IsCapacity (amount : Amount) : Type 0 where
  pub some : 0 < amount.number
  pub within : amount.number ≤ most_of amount.unit

-- a cache of Clock2Q+ or of CLOCK can hold an amount of keys; those in a percentage are known only with the trace
abbrev pub IsForClockBy : Counted → ℕ → Type 0
IsForClockBy Keys number = number ≤ most_clock_keys
IsForClockBy Millionths number = Unit {0}

abbrev pub IsForClock : Amount → Type 0
IsForClock amount = IsForClockBy amount.unit amount.number

-- the numbers 1, 2 and 5 times a power of ten, up to the largest capacity
unfoldable pub round_numbers : List ℕ
round_numbers =
    1 ∷ 2 ∷ 5 ∷ 10 ∷ 20 ∷ 50 ∷ 100 ∷ 200 ∷ 500 ∷ 1000 ∷ 2000 ∷ 5000 ∷ 10000 ∷ 20000 ∷ 50000 ∷ 100000
    ∷ 200000 ∷ 500000 ∷ 1000000 ∷ 2000000 ∷ 5000000 ∷ 10000000 ∷ 20000000 ∷ 50000000 ∷ 100000000 ∷ 200000000 ∷ 500000000
    ∷ 1000000000 ∷ 2000000000 ∷ []

-- the ends of a range and those of the other numbers that are between them, each once
abbrev pub between : List ℕ → ℕ → ℕ → List ℕ
between others first last = filter (λ n. nat_lt first n && nat_lt n last) others

abbrev pub rest_of : List ℕ → ℕ → ℕ → List ℕ
rest_of others first last = between others first last ++ (if nat_lt first last then last ∷ [] else [])

abbrev pub numbers_between : List ℕ → ℕ → ℕ → List ℕ
numbers_between others first last = first ∷ rest_of others first last

abbrev pub range : List ℕ → Amount → ℕ → List Amount
range others first last = map (amount first.unit) (numbers_between others first.number last)

-- whether two units are the same
abbrev pub is_same : Counted → Counted → Bool
is_same Keys Keys = true
is_same Millionths Millionths = true
is_same _ _ = false

-- the capacities of a range, if both ends are amounts of one unit and the right way round
abbrev pub range_between : Option Amount → Option Amount → Option (List Amount)
range_between (Some first) (Some last) = if is_same last.unit first.unit && nat_le first.number last.number then Some (range round_numbers first last.number) else None
range_between _ _ = None

-- the parts of a word before and after its first two dots
abbrev pub ends_of : List ℕ → Option (List ℕ × List ℕ)
ends_of [] = None
ends_of (byte ∷ rest) = if is_dot byte && is_dot (get_or rest 0 0) then Some ([], drop 1 rest) else option_map (λ ends. (byte ∷ ends.0, ends.1)) (ends_of rest)

abbrev pub asked_between : List ℕ → Option (List ℕ × List ℕ) → Option (List Amount)
asked_between word None = option_map (λ capacity. capacity ∷ []) (amount_in word)
asked_between word (Some ends) = range_between (amount_in ends.0) (amount_in ends.1)

-- the capacities that an argument asks for: those of a range, which has two dots between its ends, or the one that it
-- spells; any other word asks for none
abbrev pub asked_by : List ℕ → Option (List Amount)
asked_by word = asked_between word (ends_of word)

-- whether an option takes the word after it: one that says what is replayed, or how the traces are read
abbrev pub says_replay : List ℕ → Bool
says_replay word = bytes_eq word (codes "--policies") || bytes_eq word (codes "--shares") || bytes_eq word (codes "--policy") || bytes_eq word (codes "--skip")
    || bytes_eq word (codes "--window")

abbrev pub says_reading : List ℕ → Bool
says_reading word = bytes_eq word (codes "--format") || bytes_eq word (codes "--column") || bytes_eq word (codes "--size-column")
    || bytes_eq word (codes "--separator") || bytes_eq word (codes "--sample")

abbrev pub takes_value : List ℕ → Bool
takes_value word = says_replay word || says_reading word

-- whether a word is an option: a dash followed by another byte
abbrev pub is_option : List ℕ → Bool
is_option word = nat_lt 1 (length word) && (get_or word 0 0 == 45)

-- whether a word is a capacity or a range: it begins with a digit; another word names a trace
abbrev pub is_capacity : List ℕ → Bool
is_capacity word = nat_lt 0 (length word) && is_ascii_digit (get_or word 0 0)

-- whether one is in bytes: it ends with a B
abbrev pub is_in_bytes : List ℕ → Bool
is_in_bytes word = is_capacity word && ends_in 66 word

-- some capacities and those after them, if both exist
abbrev pub joined : Option (List Amount) → Option (List Amount) → Option (List Amount)
joined (Some capacities) (Some more) = Some (capacities ++ more)
joined _ _ = None

-- the capacities that words ask for other than in bytes, in order; the first word may be the value of an option before it
abbrev pub asked_from : Bool → List (List ℕ) → Option (List Amount)
asked_from is_value [] = Some []
asked_from true (word ∷ words) = asked_from false words
asked_from false (word ∷ words) =
    if is_option word then asked_from (takes_value word) words
    else if is_in_bytes word then asked_from false words
    else if is_capacity word then joined (asked_by word) (asked_from false words)
    else asked_from false words

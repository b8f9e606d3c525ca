-- The part of all keys that a sample has: whether a key is in it is a function of the key alone.
use Rattle.std.specs.Prelude.{ℕ, ◌+◌, ◌*◌, ◌/◌, ◌%◌, ◌^◌, ◌-◌, Bool, ◌&&◌, ◌==◌, if◌then◌else◌, nat_le, nat_lt, min, max, List, length, drop, get_or, Option, Some, None}
use Rattle.std.specs.List.{fold}
use Rattle.std.specs.Option.{option_map}
use Rattle.simulator_interface.specs.declared.amount.Amount.{Amount}
use Rattle.simulator_interface.specs.declared.amount.Unit.{Unit as Counted}
use Rattle.simulator_interface.specs.declared.amount.Unit.TheVariants.{Keys, Millionths}
use Rattle.simulator_interface.specs.declared.sample.Sample.{Sample}
use Rattle.simulator_interface.specs.declared.shares.ChosenShares.{ChosenShares}
use Rattle.simulator_interface.specs.Amounts.{IsForClock, amount, ends_in, front, keys_by, millionths_in, most_keys, number_in, times}

-- one to six decimals of a part of one, in millionths
abbrev pub six_decimals_in : List ℕ → Option ℕ
six_decimals_in word = if nat_le (length word) 6 then option_map (times (10 ^ (6 - length word))) (number_in word) else None

-- a part of one, as 0.01, in millionths
abbrev pub part_in : List ℕ → Option ℕ
part_in word = if nat_lt 1 (length word) && ((get_or word 0 0 == 48) && (get_or word 1 0 == 46)) then six_decimals_in (drop 2 word) else None

-- the millionths of the keys that a word asks for: a percentage, or a part of one
abbrev pub rate_in : List ℕ → Option ℕ
rate_in word = if ends_in 37 word then millionths_in (front word) else part_in word

abbrev pub sample : ℕ → Sample
sample millionths = record { millionths = millionths }

abbrev pub sample_by : Option ℕ → Option Sample
sample_by None = None
sample_by (Some millionths) = if nat_lt 0 millionths && nat_le millionths 1000000 then Some (sample millionths) else None

-- the sample that a word spells: some of the keys, or all
abbrev pub sample_in : List ℕ → Option Sample
sample_in word = sample_by (rate_in word)

-- a number multiplied, in 64 bits
abbrev pub multiplied : ℕ → ℕ
multiplied n = (n * 11400714819323198485) % 2 ^ 64

-- the hash of a key: each byte is added and the sum multiplied; then the upper half is added to all and the sum
-- multiplied, twice
abbrev pub after_byte : ℕ → ℕ → ℕ
after_byte hash byte = multiplied ((hash + byte) % 2 ^ 64)

abbrev pub stirred : ℕ → ℕ
stirred hash = multiplied ((hash + hash / 2 ^ 32) % 2 ^ 64)

abbrev pub sampling_hash : List ℕ → ℕ
sampling_hash key = stirred (stirred (fold after_byte 1 key))

-- a key is in a sample of some millionths of all keys if the upper half of its hash is in that part of the numbers
-- of 32 bits
abbrev pub is_in_sample : Sample → List ℕ → Bool
is_in_sample sample key = nat_lt (sampling_hash key / 2 ^ 32 * 1000000 / 2 ^ 32) sample.millionths

-- the capacity for the keys of a sample that a capacity for all keys becomes: the same part of it, and of a trace's keys
-- the same percentage
abbrev pub scaled_by : Counted → Sample → ℕ → Amount
scaled_by Keys sample number = amount Keys (keys_by Millionths sample.millionths (min number most_keys))
scaled_by Millionths sample number = amount Millionths number

abbrev pub scaled : Option Sample → Amount → Amount
scaled None capacity = capacity
scaled (Some sample) capacity = scaled_by capacity.unit sample capacity.number

-- a cache of Clock2Q+ or of CLOCK that is as much smaller as a sample can hold a capacity
abbrev pub IsForSampledClock : Option Sample → Amount → Type 0
IsForSampledClock sample capacity = IsForClock (scaled sample capacity)

-- a share of a cache becomes the same part of it, if it is a number of keys, but none stays none; a percentage is of the
-- smaller cache
abbrev pub scaled_share : Option Sample → Amount → Amount
scaled_share sample share = if share.number == 0 then share else scaled sample share

abbrev pub scaled_each : Option Sample → ChosenShares → ChosenShares
scaled_each sample shares = record {
  small = scaled_share sample shares.small;
  window = scaled_share sample shares.window;
  history = option_map (scaled_share sample) shares.history;
}

abbrev pub scaled_shares : Option Sample → Option ChosenShares → Option ChosenShares
scaled_shares sample shares = option_map (scaled_each sample) shares

-- the capacity for all keys that a capacity for the keys of a sample is, rounded down
abbrev pub unscaled : Option Sample → ℕ → ℕ
unscaled None capacity = capacity
unscaled (Some sample) capacity = min (capacity * 1000000) (2 ^ 64 - 1) / max sample.millionths 1

-- the capacity that a row shows: the number of keys that was asked for, and of a percentage the keys of all that it is
abbrev pub shown_by : Counted → Option Sample → ℕ → ℕ → ℕ
shown_by Keys sample keys number = number
shown_by Millionths sample keys number = unscaled sample (keys_by Millionths number keys)

abbrev pub shown : Option Sample → ℕ → Amount → ℕ
shown sample keys capacity = shown_by capacity.unit sample keys capacity.number

-- What words spell, computed.
use Rattle.std.specs.Prelude.{◌≡◌, ℕ, false, List, [], ◌∷◌, Some, None, codes, refl}
use Rattle.simulator_interface.specs.declared.amount.Unit.TheVariants.{Keys, Millionths}
use Rattle.simulator_interface.specs.Amounts.{amount, amount_in, asked_by, asked_from, keys_of, round_numbers}
use Rattle.simulator_interface.specs.ByteAmounts.{bytes_from, bytes_in}

keys : amount_in (codes "0250") ≡ Some (amount Keys 250)
keys = refl

thousands : amount_in (codes "64k") ≡ Some (amount Keys 64000)
thousands = refl

millions : amount_in (codes "2M") ≡ Some (amount Keys 2000000)
millions = refl

too_many : amount_in (codes "99999999999999999999M") ≡ Some (amount Keys 18446744073709551615)
too_many = refl

percentage : amount_in (codes "10%") ≡ Some (amount Millionths 100000)
percentage = refl

tenth_of_a_percent : amount_in (codes "0.1%") ≡ Some (amount Millionths 1000)
tenth_of_a_percent = refl

four_decimals : amount_in (codes "12.0345%") ≡ Some (amount Millionths 120345)
four_decimals = refl

five_decimals : amount_in (codes "0.00001%") ≡ None
five_decimals = refl

no_decimals : amount_in (codes "1.%") ≡ None
no_decimals = refl

no_whole : amount_in (codes ".5%") ≡ None
no_whole = refl

part_of_a_key : amount_in (codes "1.5") ≡ None
part_of_a_key = refl

thousands_alone : amount_in (codes "k") ≡ None
thousands_alone = refl

thousands_of_percent : amount_in (codes "1k%") ≡ None
thousands_of_percent = refl

-- a quarter of a percent of a thousand keys, rounded down, and of a hundred, at least one
rounded_down : keys_of (amount Millionths 2500) 1000 ≡ 2
rounded_down = refl

at_least_one : keys_of (amount Millionths 2500) 100 ≡ 1
at_least_one = refl

-- ranges
of_percents : asked_by (codes "0.3%..1%") ≡ Some (amount Millionths 3000 ∷ amount Millionths 5000 ∷ amount Millionths 10000 ∷ [])
unfolding round_numbers
of_percents = refl

of_thousands : asked_by (codes "1k..4k") ≡ Some (amount Keys 1000 ∷ amount Keys 2000 ∷ amount Keys 4000 ∷ [])
unfolding round_numbers
of_thousands = refl

three_dots : asked_by (codes "1...3") ≡ None
three_dots = refl

two_units : asked_by (codes "1..3%") ≡ None
two_units = refl

-- numbers of bytes
bytes : bytes_in (codes "0512B") ≡ Some 512
bytes = refl

thousands_of_bytes : bytes_in (codes "64kB") ≡ Some 64000
thousands_of_bytes = refl

kibibytes : bytes_in (codes "64KiB") ≡ Some 65536
kibibytes = refl

gigabytes : bytes_in (codes "2GB") ≡ Some 2000000000
gigabytes = refl

too_many_bytes : bytes_in (codes "99999999999TiB") ≡ Some 18446744073709551615
too_many_bytes = refl

keys_are_no_bytes : bytes_in (codes "64k") ≡ None
keys_are_no_bytes = refl

unit_alone : bytes_in (codes "KiB") ≡ None
unit_alone = refl

binary_without_a_power : bytes_in (codes "1iB") ≡ None
binary_without_a_power = refl

-- both kinds of capacities, each in order
abbrev both_kinds : List (List ℕ)
both_kinds = codes "64kB" ∷ codes "5" ∷ codes "--skip" ∷ codes "7B" ∷ codes "1GiB" ∷ []

of_keys : asked_from false both_kinds ≡ Some (amount Keys 5 ∷ [])
of_keys = refl

of_bytes : bytes_from false both_kinds ≡ Some (64000 ∷ 1073741824 ∷ [])
of_bytes = refl

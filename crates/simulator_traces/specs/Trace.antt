-- A trace as contracts see it.
use Rattle.std.specs.Prelude.{◌≡◌, ℕ, ◌<◌, ◌≤◌, ◌^◌, ◌↔◌, Bool, if◌then◌else◌, List, [], length, map, get_or, slice_get, Option, Some}
use Rattle.std.specs.List.{Contains}
use Rattle.simulator_interface.specs.declared.sample.Sample.{Sample}
use Rattle.simulator_interface.specs.Expected.{expected_among}
use Rattle.simulator_traces.specs.Bytes.{capped}
use Rattle.simulator_traces.specs.Formats.{Access}
use Rattle.simulator_traces.specs.KnownKeys.{AreApart}
use Rattle.simulator_traces.specs.Sampled.{sampled}

-- the accesses in order; the sample that is taken of them, if one is; whether their sizes are kept; the number of each
-- key in the sample, and the number of different ones
pub record Numbered : Type 0 where
  pub accesses : List Access
  pub sample : Option Sample
  pub is_sized : Bool
  pub numbers : List ℕ
  pub different : ℕ

-- the keys that have a number
abbrev pub keys_of : List Access → List (List ℕ)
keys_of accesses = map (λ access. access.key) accesses

abbrev pub sampled_keys : Numbered → List (List ℕ)
sampled_keys trace = keys_of (sampled trace.sample trace.accesses)

-- the sizes of their accesses, if they are kept
abbrev pub kept_sizes : Bool → List Access → List ℕ
kept_sizes is_sized accesses = if is_sized then map (λ access. access.size) accesses else []

abbrev pub sizes_of : Numbered → List ℕ
sizes_of trace = kept_sizes trace.is_sized (sampled trace.sample trace.accesses)

-- the number of accesses to keys in the sample and to others
abbrev pub all_accesses : Numbered → ℕ
all_accesses trace = capped (length trace.accesses)

-- the accesses that hit ratios of some of the trace's accesses are parts of
abbrev pub expected_of : Numbered → ℕ → ℕ
expected_of trace counted = expected_among trace.sample (all_accesses trace) (length trace.numbers) counted

-- there is a number for each key; equal keys have the same one, and different keys different ones
pub record AreNumbers (keys : List (List ℕ)) (numbers : List ℕ) : Type 0 where
  pub long : length numbers ≡ length keys
  pub alike : (place other : ℕ) → place < length keys → other < length keys → (get_or keys place [] ≡ get_or keys other []) ↔ (get_or numbers place 0 ≡ get_or numbers other 0)

-- each number is below a bound
abbrev pub AreNumbersBelow : ℕ → List ℕ → Type 0
AreNumbersBelow different numbers = (place : ℕ) → place < length numbers → get_or numbers place 0 < different

-- each number below a bound is that of a key
abbrev pub AreUsed : List ℕ → ℕ → Type 0
AreUsed numbers different = (number : ℕ) → number < different → Contains numbers number

-- the numbers of this many different keys, each of them used
pub record AreNumbersOf (keys : List (List ℕ)) (numbers : List ℕ) (different : ℕ) : Type 0 where
  pub alike : AreNumbers keys numbers
  pub below : AreNumbersBelow different numbers
  pub used : AreUsed numbers different
  pub few : different ≤ 2 ^ 32

-- there is a number for each key: its index among the known keys; every known key is among the keys
pub record IsNumbering (known : List (List ℕ)) (numbers : List ℕ) (keys : List (List ℕ)) : Type 0 where
  pub apart : AreApart known
  pub long : length numbers ≡ length keys
  pub each : (place : ℕ) → place < length keys → slice_get known (get_or numbers place 0) ≡ Some (get_or keys place [])
  pub used : AreUsed numbers (length known)

-- the numbers of the keys of sampled accesses, the sizes that are kept, and the number of all accesses
pub record IsTraceOf (accesses : List Access) (is_sized : Bool) (numbers sizes : List ℕ) (different : ℕ) (every : List Access) (all : ℕ) : Type 0 where
  pub numbered : AreNumbersOf (keys_of accesses) numbers different
  pub kept : sizes ≡ kept_sizes is_sized accesses
  pub counted : all ≡ capped (length every)

-- the same while keys are added
pub record IsGrowing (accesses : List Access) (is_sized : Bool) (known : List (List ℕ)) (numbers sizes : List ℕ) (every : List Access) (all : ℕ) : Type 0 where
  pub numbered : IsNumbering known numbers (keys_of accesses)
  pub kept : sizes ≡ kept_sizes is_sized accesses
  pub counted : all ≡ capped (length every)

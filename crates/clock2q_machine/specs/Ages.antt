-- The ages of Small's entries.
use Rattle.std.specs.Prelude.{◌≡◌, ◌⊎◌, ℕ, ◌+◌, Bool, true, false, nat_lt, if◌then◌else◌, refl}
use Rattle.std.specs.Coded.{Coded, code_by, coded⊎, coded_ℕ, coded_bool}
use Rattle.std.proofs.Common.{inl, inr}

-- an entry of Small is young, with the number of admissions since its own, or old, with its hit bit
pub data Age : Type 0 where
  Young : ℕ → Age
  Old : Bool → Age

-- a hit on a young entry counts for nothing, and on an old one sets its bit
abbrev pub touched : Age → Age
touched (Young age) = Young age
touched (Old bit) = Old true

-- after one more admission a young entry is older by one, and at the window's end it is old with a clear bit
abbrev pub grown_older : ℕ → Age → Age
grown_older window (Young age) = if nat_lt (age + 1) window then Young (age + 1) else Old false
grown_older window (Old bit) = Old bit

-- whether an entry of Small is promoted to Main rather than evicted
abbrev pub is_promoted : Age → Bool
is_promoted (Young age) = false
is_promoted (Old bit) = bit

-- The code by which a model may hold an age.

abbrev age_parts : Age → ℕ ⊎ Bool
age_parts (Young age) = inl age
age_parts (Old bit) = inr bit

abbrev age_of_parts : ℕ ⊎ Bool → Age
age_of_parts (inl age) = Young age
age_of_parts (inr bit) = Old bit

pub age_of_parts-age_parts : (age : Age) → age_of_parts (age_parts age) ≡ age
age_of_parts-age_parts (Young age) = refl
age_of_parts-age_parts (Old bit) = refl

abbrev pub age_code : Coded Age
age_code = code_by (ℕ ⊎ Bool) (coded⊎ coded_ℕ coded_bool) age_parts age_of_parts age_of_parts-age_parts

-- Versions as numbers.
use Rattle.std.specs.Prelude.{ℕ, ◌+◌, ◌*◌}

-- the number of a version: its parts in decimal digits, two for the minor and two for the patch
abbrev pub version_number : ℕ → ℕ → ℕ → ℕ
version_number major minor patch = 10000 * major + 100 * minor + patch

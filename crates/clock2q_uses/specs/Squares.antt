-- Squares, and caches whose values are all squares.
use Rattle.std.specs.Prelude.{◌≡◌, ◌*◌, ◌%◌, ◌^◌, ℕ, eqb, Some}
use Rattle.clock2q_machine.specs.Machine.{Machine, value_of}

-- the square of a number, modulo 2^64
unfoldable pub square : ℕ → ℕ
square number = number * number % 2 ^ 64

-- each resident number has its square
abbrev pub HasSquares : Machine ℕ ℕ → Type 0
HasSquares m = (number v : ℕ) → value_of (eqb number) m ≡ Some v → v ≡ square number

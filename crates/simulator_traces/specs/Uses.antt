-- The figures of a trace.
use Rattle.std.specs.Prelude.{ℕ, zero, suc, ◌+◌, Bool, ◌==◌, if◌then◌else◌, List, length}
use Rattle.std.specs.List.{filter}

-- how often a key is accessed
abbrev pub uses_of : ℕ → List ℕ → ℕ
uses_of key numbers = length (filter (λ number. number == key) numbers)

-- the number of keys below one that are accessed once
abbrev pub keys_once : ℕ → List ℕ → ℕ
keys_once zero numbers = 0
keys_once (suc key) numbers = keys_once key numbers + (if uses_of key numbers == 1 then 1 else 0)

-- the number of ones in a list
abbrev pub is_one : ℕ → Bool
is_one n = n == 1

abbrev pub ones : List ℕ → ℕ
ones numbers = length (filter is_one numbers)

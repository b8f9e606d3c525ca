-- Keys in a list, whose places are in a table under the keys' hashes.
use Rattle.std.specs.Prelude.{◌≡◌, ◌<◌, ◌↔◌, ◌*◌, ◌%◌, ◌^◌, ℕ, List, get_or, length}
use Rattle.clock2q_handles.specs.Rehash.{IsHeld}
use Rattle.clock2q_handles.specs.TableStep.{IsHashOf}

-- the hash of a key: its product with an odd number, which moves its low bits up
unfoldable pub spread : ℕ → ℕ
spread key = key * 11400714819323198485 % 2 ^ 64

-- the key at a place
abbrev pub key_at : List ℕ → ℕ → ℕ
key_at keys at = get_or keys at 0

-- the table has exactly the places of the keys, each under its key's hash, and no key occurs twice
abbrev pub IsInterned : List ℕ → List (List (ℕ × ℕ)) → Type 0
IsInterned keys homes =
    IsHashOf (λ at. spread (key_at keys at)) homes × ((at : ℕ) → IsHeld homes at ↔ (at < length keys)) ×
    ((at other : ℕ) → at < length keys → other < length keys → key_at keys at ≡ key_at keys other → at ≡ other)

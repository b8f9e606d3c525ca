-- Different keys, each in a record or stored among other bytes, and a table of their numbers.
use Rattle.std.specs.Prelude.{◌≡◌, ◌<◌, ◌≤◌, ◌+◌, ◌%◌, ◌^◌, ◌↔◌, ℕ, Bool, List, [], ◌∷◌, ◌++◌, if◌then◌else◌, nat_le, length, map, get_or, take, drop, slice_get, Some, MatchBool}
use Rattle.std.specs.Int.{w64, from_le_bytes}
use Rattle.std.specs.List.{All}
use Rattle.std.specs.declared.hash.Hasher as hasher
use Rattle.std.specs.declared.hash.BuildHasher as builder
use Rattle.clock2q_handles.specs.Rehash.{IsHeld}
use Rattle.clock2q_handles.specs.TableStep.{IsHashOf}
use Rattle.simulator_traces.specs.declared.key_record.KeyRecord.{KeyRecord}

-- the hash of a key by the hashers that `s` makes: all its bytes are written at once
unfoldable pub hash_of : {S H : Type 0} → builder.Ghosts S H → hasher.Ghosts H → S → List ℕ → ℕ
hash_of b h s key = h.finish (h.write (b.build_hasher s) key)

-- where a long key is kept: its start among other bytes, and its length, as two words; the highest bit of the second is set
abbrev pub start_of : List ℕ → ℕ
start_of kept = from_le_bytes w64 kept

abbrev pub size_of : List ℕ → ℕ
size_of kept = from_le_bytes w64 (drop 8 kept) % 2 ^ 63

-- the key of a record: a long one if the last byte is 128 or more; else that is the length of the key, whose bytes come first
abbrev pub key_in : List ℕ → KeyRecord → List ℕ
key_in others kept = if nat_le 128 (get_or kept.bytes 15 0) then take (size_of kept.bytes) (drop (start_of kept.bytes) others) else take (get_or kept.bytes 15 0) kept.bytes

-- the keys of records
abbrev pub keys_in : List ℕ → List KeyRecord → List (List ℕ)
keys_in others records = map (key_in others) records

-- a record has a short key, or a long one lies before the end of the other bytes
pub record IsKept (end : ℕ) (kept : List ℕ) : Type 0 where
  pub short : get_or kept 15 0 < 128 → get_or kept 15 0 ≤ 15
  pub long : 128 ≤ get_or kept 15 0 → start_of kept + size_of kept ≤ end

abbrev pub AreKept : ℕ → List KeyRecord → Type 0
AreKept end records = All (λ kept. IsKept end kept.bytes) records

-- no key is there twice, and there are few enough for 32-bit numbers
pub record AreApart (known : List (List ℕ)) : Type 0 where
  pub few : length known ≤ 2 ^ 32
  pub apart : (number other : ℕ) (key : List ℕ) → slice_get known number ≡ Some key → slice_get known other ≡ Some key → number ≡ other

-- the table holds exactly the numbers of the keys, each under its key's hash
pub record HasNumbers (hash : List ℕ → ℕ) (known : List (List ℕ)) (homes : List (List (ℕ × ℕ))) : Type 0 where
  pub hashes : IsHashOf (λ number. hash (get_or known number [])) homes
  pub held : (number : ℕ) → IsHeld homes number ↔ (number < length known)
  pub apart : AreApart known

-- a key got the next number or already had one, and the table is that of the keys
abbrev pub IsNumbered : (List ℕ → ℕ) → List (List ℕ) → List ℕ → ℕ → Bool → List (List (ℕ × ℕ)) → Type 0
IsNumbered hash known key number is_new homes = MatchBool is_new ((number ≡ length known) × HasNumbers hash (known ++ key ∷ []) homes) ((slice_get known number ≡ Some key) × HasNumbers hash known homes)

-- What a `KeyedHasher` computes.
use Rattle.std.specs.Prelude.{ℕ, zero, suc, ◌+◌, ◌-◌, ◌*◌, ◌/◌, ◌%◌, ◌^◌, List, [], ◌∷◌, length, if◌then◌else◌, nat_le, bit_or, bit_xor}
use Rattle.std.specs.Hash.DefaultHasher as sip
use Rattle.std.specs.Hash.FoldHasher.{folded_multiply, read_short, read_u64}
use Rattle.std.specs.RandomState.{initial_hasher}
use Rattle.std.specs.declared.hash.RandomState.{RandomState}
use Rattle.simulator_traces.specs.declared.keyed_hasher.KeyedHasher.{KeyedHasher}

-- the hash of a byte under a random state
abbrev pub byte_hash : RandomState → ℕ → ℕ
byte_hash random byte = sip.finish (sip.write (initial_hasher random) (byte ∷ []))

-- a hasher with two such keys: the second is the factor, made odd
abbrev pub keyed : RandomState → KeyedHasher
keyed random = record { state = byte_hash random 0; factor = bit_or (byte_hash random 1) 1 }

-- the state after the first n words of 8 bytes
unfoldable pub after_words : List ℕ → ℕ → ℕ → ℕ → ℕ
after_words bytes factor state zero = state
after_words bytes factor state (suc n) = folded_multiply (bit_xor (after_words bytes factor state n) (read_u64 bytes (8 * n))) factor

-- the state after `write(bytes)`: the last word has the last 8 bytes, also if some were in the one before it
unfoldable pub write : KeyedHasher → List ℕ → KeyedHasher
write h bytes =
    let n = length bytes in
    let begun = (h.state + n) % 2 ^ 64 in
    let short = folded_multiply (bit_xor begun (read_short bytes)) h.factor in
    let long = folded_multiply (bit_xor (after_words bytes h.factor begun ((n - 1) / 8)) (read_u64 bytes (n - 8))) h.factor in
    record { state = if nat_le n 8 then short else long; factor = h.factor }

-- what `finish` returns
abbrev pub finish : KeyedHasher → ℕ
finish h = h.state

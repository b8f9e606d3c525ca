-- The hash of a token is the one that it was given.
use Rattle.std.proofs.Common.{◌≡◌, ℕ, ◌<◌, ◌^◌}
use Rattle.std.specs.Hash.{le_bytes}
use Rattle.std.specs.Hash as fed
use Rattle.std.proofs.lemmas.Nat.{from_le_bytes-to_le_bytes_8}
use Rattle.std.specs.declared.hash.Hasher as hasher
use Rattle.std.specs.declared.hash.BuildHasher as builder
use Rattle.clock2q_c.specs.Given.{written}
use Rattle.clock2q_c.specs.declared.tokens.given.GivenHash.{GivenHash}
use Rattle.clock2q_c.specs.contracts.tokens.given.GivenHashHasher.TheImpl as given
use Rattle.clock2q_cache.specs.Hashes.{hash_of}

-- a number of eight bytes is the hash after it was written
pub written-given : (hash n : ℕ) → n < 2 ^ 64 → written hash (le_bytes 8 n) ≡ n
unfolding le_bytes
written-given hash n fits = from_le_bytes-to_le_bytes_8 n fits

-- so it is the hash of a key that writes it alone
pub given-hash : {S H : Type 0} (build : builder.Ghosts S H) (hash : hasher.Ghosts H) (s : S) (n : ℕ)
    → ((state : H) → hash.finish (hash.write state (le_bytes 8 n)) ≡ n) → hash_of build hash s (fed.u64 n) ≡ n
unfolding hash_of
given-hash build hash s n each = each (build.build_hasher s)

-- and of a token
pub token-hash : {S : Type 0} (build : builder.Ghosts S GivenHash) (s : S) (n : ℕ) → n < 2 ^ 64 → hash_of build given.ghosts s (fed.u64 n) ≡ n
token-hash build s n fits = given-hash build given.ghosts s n (λ state. written-given state.hash n fits)

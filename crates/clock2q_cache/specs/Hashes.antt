-- The hash of a key.
use Rattle.std.specs.Prelude.{ℕ, List}
use Rattle.std.specs.List.{fold}
use Rattle.std.specs.declared.hash.Hasher as hasher
use Rattle.std.specs.declared.hash.BuildHasher as builder

-- what a hasher made by `s` returns after a key's writes
unfoldable pub hash_of : {S H : Type 0} → builder.Ghosts S H → hasher.Ghosts H → S → List (List ℕ) → ℕ
hash_of b h s writes = h.finish (fold h.write (b.build_hasher s) writes)

-- Documents and their checksums.
use Rattle.std.specs.Prelude.{ℕ, ◌+◌, ◌*◌, ◌%◌, List, [], ◌∷◌, Option, Vec, slice_get}
use Rattle.std.specs.Option.{option_map}
use Rattle.std.specs.declared.alloc.Global.{Global}

-- the two sums of Adler-32: one plus the sum of the bytes, and the sum of its values after each byte
abbrev pub sums : List ℕ → ℕ → ℕ → ℕ × ℕ
sums [] low high = (low, high)
sums (byte ∷ bytes) low high = sums bytes ((low + byte) % 65521) ((high + (low + byte) % 65521) % 65521)

unfoldable pub adler32 : List ℕ → ℕ
adler32 bytes = let both = sums bytes 1 0 in both.1 * 65536 + both.0

-- the checksum of the document of a number, if there is one
abbrev pub document_checksum : List (Vec ℕ Global) → ℕ → Option ℕ
document_checksum documents number = option_map (λ document. adler32 document.items) (slice_get documents number)

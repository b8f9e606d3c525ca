-- What a handle of tokens owns, and the machine of the cache that it points to.
use Rattle.std.specs.Prelude.{◌≡◌, ℕ, Bool, ◌==◌, ◌&&◌, Option, Some, None}
use Rattle.std.specs.Coded.{Coded, coded_option}
use Rattle.std.specs.Option.{option_map}
use Rattle.std.specs.Borrow.{Fml, RattleType}
use base.Fml.{ftrue}
use denote.RawPtr.{Ptr}
use Rattle.std.specs.Box.Ownership.{box_owns}
use Rattle.std.specs.contracts.alloc.Global
use Rattle.std.specs.contracts.impls.GlobalAllocator.TheImpl as heap
use Rattle.clock2q_machine.specs.Machine.{Machine}
use Rattle.clock2q_c.specs.declared.tokens.token.Token.{Token}
use Rattle.clock2q_c.specs.contracts.tokens.held.HeldTokens as held

-- the type of what a handle points to, in the logic
abbrev pub tokens_row : RattleType
tokens_row = held.the_row Global.the_row heap.ghosts

-- what a handle points to
abbrev pub TokensInC : Type 0
TokensInC = tokens_row.Denot

abbrev pub tokens_coded : Coded (Option TokensInC)
tokens_coded = coded_option tokens_row.coded

-- what a box of this owns at the pointer, or nothing
abbrev pub tokens_own : (Global.the_row).Denot → Ptr → Option TokensInC → Fml
tokens_own alloc p None = ftrue
tokens_own alloc p (Some held) = box_owns (heap.ghosts.dealloc_token alloc) tokens_row p held

-- the machine of the cache, if there is one
abbrev pub tokens_in : Option TokensInC → Option (Machine Token (Unit {0}))
tokens_in held = option_map (λ h. h.cache.machine) held

-- the token of a hash and a number
abbrev pub token : ℕ → ℕ → Token
token hash number = record { hash = hash; number = number }

-- tokens are equal if both their hashes and their numbers are
abbrev pub AreEqualByBoth : (Token → Token → Bool) → Type 0
AreEqualByBoth eq = (h n h' n' : ℕ) → eq (token h n) (token h' n') ≡ ((h == h') && (n == n'))

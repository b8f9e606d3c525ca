-- What a handle of tokens points to once a borrow of it has ended.
use Rattle.std.specs.Borrow.{Fml, MutBor, Lends}
use Rattle.std.specs.Prelude.{Some}
use Rattle.clock2q_c.specs.Tokens.{TokensInC, tokens_row}
use Rattle.clock2q_c.specs.declared.tokens.handle.TokensHandle.{TokensHandle}
use Rattle.clock2q_c.specs.contracts.tokens.handle.TokensHandle.{the_row}

-- the same handle, pointing to this
abbrev pub with_tokens : TokensHandle → TokensInC → TokensHandle
with_tokens handle held = record handle { cache = Some held }

-- once the borrow r has ended, the handle points to what was left behind r
abbrev pub LendsTokens : MutBor TokensHandle → MutBor TokensInC → Fml
LendsTokens handle r = Lends the_row tokens_row handle r (with_tokens handle.now)

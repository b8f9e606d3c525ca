-- The hash of the token is the one that was passed.
use Rattle.clock2q_c.proofs.TokenHash.{token-hash}
use Rattle.clock2q_c.proofs.tokens.calls.clock2q_tokens_enter.Goals as goal

pub returns-clause-hash : goal.returns-clause-hash
returns-clause-hash c = rw (← c.held.ensures.value) (token-hash _ c.held.result.now.cache.hasher c.args.hash c.ranges.hash.fits)

use Rattle.std.proofs.Common.{rules}
use denote.Param.Always.{mut_total}
use Rattle.clock2q_cache.proofs.Makers.{made_always}
use Rattle.tests_calls.proofs.cached.Cached.prefill.Goals as goal

pub prefill-requires : goal.prefill-requires
prefill-requires c later = record { callable = made_always _ _ _ (mut_total _ _ (λ f a. search rules)) }

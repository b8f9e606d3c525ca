use Rattle.std.proofs.Common.{rules}
use denote.Param.Always.{mut_total}
use Rattle.clock2q_handles.proofs.Offering.{offered_any}
use Rattle.tests_handles.proofs.hashed.Hashed.position.Goals as goal

pub search-requires : goal.search-requires
search-requires g c = record { callable = offered_any _ _ _ (mut_total _ _ (λ f a. search rules)) }

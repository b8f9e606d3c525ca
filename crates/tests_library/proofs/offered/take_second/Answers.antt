use Rattle.std.proofs.Common.{rules}
use denote.Param.Always.{mut_total}
use Rattle.clock2q_handles.proofs.Offering.{offered_always}
use Rattle.tests_library.proofs.offered.take_second.Goals as goal

pub find_or_insert-requires-clause-callable : goal.find_or_insert-requires-clause-callable
find_or_insert-requires-clause-callable g c = offered_always _ (mut_total _ _ (λ f a. search rules))

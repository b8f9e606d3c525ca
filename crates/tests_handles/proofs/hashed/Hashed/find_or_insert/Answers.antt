use Rattle.std.proofs.Common.{rules, ap, refl}
use denote.Param.Always.{mut_total}
use Rattle.clock2q_handles.proofs.Offering.{offered_always}
use Rattle.clock2q_handles.proofs.HashOfHandle.{keyed_found, keyed_given}
use Rattle.tests_handles.proofs.hashed.Hashed.find_or_insert.Goals as goal

pub find_or_insert-requires-clause-rehash : goal.find_or_insert-requires-clause-rehash
find_or_insert-requires-clause-rehash g c =
    λ _. ((λ handle. handle.hash), keyed_given (λ handle. handle.hash) _ c.self.inside.table.homes _ c.self.invariant (λ _ _. tt) (λ f h r next called. search rules))

pub invariant_of-self : goal.invariant_of-self
invariant_of-self g c =
    keyed_found (λ handle. handle.hash) _ _ c.self.inside.table.homes c.find_or_insert.new.self.homes c.args.handle.hash c.args.handle _ _ c.find_or_insert.result c.find_or_insert.ensures.settles
    (λ e. ap (λ t. t.homes) (c.find_or_insert.ensures.memory e).1) refl c.self.invariant
    (keyed_given (λ handle. handle.hash) _ c.self.inside.table.homes _ c.self.invariant (λ _ _. tt) (λ f h r next called. search rules))

pub find_or_insert-requires-clause-callable : goal.find_or_insert-requires-clause-callable
find_or_insert-requires-clause-callable g c = offered_always _ (mut_total _ _ (λ f a. search rules))

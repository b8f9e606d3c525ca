use Rattle.std.proofs.Common.{rules, ap, refl}
use Rattle.clock2q_handles.proofs.HashOfHandle.{keyed_put, keyed_given}
use Rattle.tests_handles.proofs.hashed.Hashed.insert.Goals as goal

pub insert-requires : goal.insert-requires
insert-requires g c =
    record { rehash = λ _. ((λ handle. handle.hash), keyed_given (λ handle. handle.hash) _ c.self.inside.table.homes _ c.self.invariant (λ _ _. tt) (λ f h r next called. search rules)) }

pub invariant_of-self : goal.invariant_of-self
invariant_of-self g c =
    keyed_put (λ handle. handle.hash) _ _ c.self.inside.table.homes c.insert.new.self.homes c.args.handle.hash c.args.handle
    c.insert.result c.insert.ensures.put (λ e. ap (λ t. t.homes) (c.insert.ensures.memory e).1) refl c.self.invariant
    (keyed_given (λ handle. handle.hash) _ c.self.inside.table.homes _ c.self.invariant (λ _ _. tt) (λ f h r next called. search rules))

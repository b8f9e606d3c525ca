use Rattle.std.proofs.Common.{rules, refl}
use Rattle.clock2q_handles.proofs.HashOfHandle.{keyed_reserved, keyed_given}
use Rattle.tests_handles.proofs.hashed.Hashed.reserve.Goals as goal

pub reserve-requires : goal.reserve-requires
reserve-requires g c =
    record { rehash = λ _. ((λ handle. handle.hash), keyed_given (λ handle. handle.hash) _ c.self.inside.table.homes _ c.self.invariant (λ _ _. tt) (λ f h r next called. search rules)) }

pub invariant_of-self : goal.invariant_of-self
invariant_of-self g c =
    keyed_reserved (λ handle. handle.hash) _ _ c.self.inside.table.homes c.reserve.new.self.homes 0 (record { hash = 0; number = 0 })
    c.self.inside.table c.reserve.new.self c.args.additional c.reserve.result c.reserve.ensures.reserved c.reserve.ensures.refused refl refl
    c.facts.ensures.whole.room c.self.invariant (keyed_given (λ handle. handle.hash) _ c.self.inside.table.homes _ c.self.invariant (λ _ _. tt) (λ f h r next called. search rules))

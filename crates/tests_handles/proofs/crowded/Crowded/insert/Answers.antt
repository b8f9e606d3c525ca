use Rattle.std.proofs.Common.{rules, ◌≡◌, ap, refl}
use Rattle.clock2q_handles.proofs.HashOfHandle.{keyed_put, keyed_given_by}
use Rattle.tests_handles.proofs.crowded.Crowded.insert.Goals as goal

pub insert-requires : goal.insert-requires
insert-requires c = record {
  rehash = λ _. (
    (λ _. c.self.inside.hash),
    keyed_given_by (λ _. c.self.inside.hash) _ c.self.inside.table.homes (λ f. f.0.now ≡ c.self.inside.hash) (λ f h is held. tt) (λ f h r next is held called. (search rules, search rules)) _ refl c.self.invariant,
  );
}

pub invariant_of-self : goal.invariant_of-self
invariant_of-self c =
    keyed_put (λ _. c.self.inside.hash) _ _ c.self.inside.table.homes c.insert.new.self.homes c.self.inside.hash c.args.handle
    c.insert.result c.insert.ensures.put (λ e. ap (λ t. t.homes) (c.insert.ensures.memory e).1) refl c.self.invariant
    (keyed_given_by (λ _. c.self.inside.hash) _ c.self.inside.table.homes (λ f. f.0.now ≡ c.self.inside.hash) (λ f h is held. tt) (λ f h r next is held called. (search rules, search rules)) _ refl c.self.invariant)

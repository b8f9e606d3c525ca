-- A policy is the one of its name.
use Rattle.std.specs.Prelude.{◌≡◌, Some, refl}
use Rattle.simulator_interface.specs.declared.policy.Policy.{Policy}
use Rattle.simulator_interface.specs.declared.policy.Policy.TheVariants.{Clock2Q, Sieve, S3Fifo, LeastRecentlyUsed, Optimal, FirstInFirstOut, Clock, Arc, TwoQ, Lirs, Lru2, WTinyLfu}
use Rattle.simulator_interface.specs.PolicyNames.{name_of, policy_named}

pub named_by_its_name : (policy : Policy) → policy_named (name_of policy) ≡ Some policy
named_by_its_name Clock2Q = refl
named_by_its_name Sieve = refl
named_by_its_name S3Fifo = refl
named_by_its_name LeastRecentlyUsed = refl
named_by_its_name Optimal = refl
named_by_its_name FirstInFirstOut = refl
named_by_its_name Clock = refl
named_by_its_name Arc = refl
named_by_its_name TwoQ = refl
named_by_its_name Lirs = refl
named_by_its_name Lru2 = refl
named_by_its_name WTinyLfu = refl

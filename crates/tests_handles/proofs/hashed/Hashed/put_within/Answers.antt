use Rattle.std.proofs.Common.{rules, ◌<◌, length, arith}
use Rattle.clock2q_handles.specs.Homes.{total, capacity}
use Rattle.tests_handles.proofs.Keyed.{hashes-put}
use Rattle.tests_handles.proofs.hashed.Hashed.put_within.Goals as goal

pub invariant_of-self : goal.invariant_of-self
invariant_of-self g c =
    let room : total c.self.inside.table.homes < capacity (length c.self.inside.table.homes) = search rules in
    hashes-put (λ handle. handle.hash) c.self.inside.table.homes c.insert_within_capacity.new.self.homes c.args.handle c.insert_within_capacity.result
    (omega (arith, room)) c.insert_within_capacity.ensures.put c.self.invariant

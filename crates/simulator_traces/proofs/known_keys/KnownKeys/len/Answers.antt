use Rattle.std.proofs.Common.{ap, arith, length}
use Rattle.simulator_traces.proofs.KeyBytes.{keys-length}
use Rattle.simulator_traces.proofs.known_keys.KnownKeys.len.Goals as goal

pub returns : goal.returns
returns g c = record { len = omega (arith, c.len.ensures, keys-length c.self.inside.others.items c.self.inside.records.items, ap length c.self.view_is) }

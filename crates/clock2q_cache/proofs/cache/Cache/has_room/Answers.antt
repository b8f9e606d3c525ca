-- Main has fewer entries than slots, or there is a vacancy.
use Rattle.clock2q_cache.proofs.Names.{arith}
use Rattle.clock2q_cache.proofs.CacheInvariant.{length_in_main}
use Rattle.clock2q_cache.proofs.cache.Cache.has_room.Goals as goal

pub returns-in-Main-clause-room : goal.returns-in-Main-clause-room
returns-in-Main-clause-room g c = grind (arith, c.main_len.ensures.len, length_in_main g.met.K.Eq.laws c.self.invariant, c.main.ensures, c.self.view_is, c.in-Main.is)

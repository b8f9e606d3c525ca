-- What a lookup leaves in the index, beside what it leaves of the machine.
use Rattle.clock2q_cache.proofs.Names.{◌≡◌, HashMembers, Call, Machine, Places, CacheState, Costs, Becomes}
use Rattle.std.specs.declared.hash.Hasher as hasher
use Rattle.std.specs.declared.hash.BuildHasher as builder

module _ {K V S H : Type 0} {key : HashMembers K} {build : builder.Ghosts S H} {hash : hasher.Ghosts H} where
  -- the machine becomes this one, and the index is this one
  pub becomes-known : {call : Call K V} {m : Machine K V} {old new : CacheState K V S} {p : Places} → Becomes key build hash call m old new → new.known ≡ p
      → (new.machine ≡ m) × (new.hasher ≡ old.hasher) × Costs key build hash call old new × (new.known ≡ p)
  becomes-known b same = (b.0, b.1, b.2, same)

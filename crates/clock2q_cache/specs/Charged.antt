-- A cache in which a key has its slot and the counts are raised to their bounds.
use Rattle.std.specs.Prelude.{ℕ, ◌+◌}
use Rattle.std.specs.declared.hash.Hasher as hasher
use Rattle.std.specs.declared.hash.BuildHasher as builder
use Rattle.std.specs.HashMap.Lent.{HashMembers}
use Rattle.clock2q_machine.specs.Bounds.{inspections_for}
use Rattle.clock2q_cache.specs.CacheState.{CacheState, Counts, cache_state}
use Rattle.clock2q_cache.specs.Costs.{accesses_for, alike}
use Rattle.clock2q_cache.specs.Places.{known_taken}
use Rattle.clock2q_machine.specs.Steps.{put}

module _ {K V S H : Type 0} (key : HashMembers K) (build : builder.Ghosts S H) (hash : hasher.Ghosts H) where
  -- what was counted, plus the most accesses to links and comparisons that a call for a key's slot makes
  abbrev pub most_links : K → CacheState K V S → ℕ
  most_links k c = c.counts.accesses + accesses_for (key.eq k) c.machine

  abbrev pub most_keys : K → CacheState K V S → ℕ
  most_keys k c = c.counts.comparisons + alike key build hash k c

  abbrev pub charged : K → CacheState K V S → Counts
  charged k c = record { inspections = c.counts.inspections + inspections_for (key.eq k) c.machine; accesses = most_links k c; comparisons = most_keys k c }

  -- the key has its slot with this value, and the counts are at their bounds
  abbrev pub with_slot : K → V → CacheState K V S → CacheState K V S
  with_slot k w c = cache_state (put (key.eq k) k w c.machine) (known_taken key build hash k c) c.hasher (charged k c)

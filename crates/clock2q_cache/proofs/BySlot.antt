-- What a hit and a removal by slot leave, and what they cost.
use Rattle.clock2q_cache.proofs.Names.{◌≡◌, ℕ, Option, Some, None, refl, sym, arith, HashMembers, IfSome, CacheState, Counts, Spends, Costs, Get, Remove, hash_in, left_by, vacated, hit, slot_of, removed}
use Rattle.std.specs.declared.hash.Hasher as hasher
use Rattle.std.specs.declared.hash.BuildHasher as builder
use Rattle.clock2q_cache.proofs.Reaching.{reaches-own}
use Rattle.clock2q_cache.proofs.Spent.{costs-of, reaches-none, remove-costs}

-- nothing was spent
nothing-spent : {a b : Counts} (links keys : ℕ) → b ≡ a → Spends 0 links keys a b
nothing-spent links keys same = rw same (record { inspections = omega arith; accesses = (omega arith, omega arith); comparisons = (omega arith, omega arith) })

module _ {K V S H : Type 0} (key : HashMembers K) (build : builder.Ghosts S H) (hash : hasher.Ghosts H) (old new : CacheState K V S) where
  -- the resident was hit
  pub hit-slot-costs : (resident : Option (K × ℕ)) → IfSome resident (λ r. new.machine ≡ hit (key.eq r.0) old.machine) → new.counts ≡ old.counts → new.known ≡ old.known
      → IfSome resident (λ r. Costs key build hash (Get r.0) old new)
  hit-slot-costs None is same kept = tt
  hit-slot-costs (Some r) is same kept = costs-of is (reaches-none kept) (nothing-spent 0 _ same)

  module _ (slot : ℕ) where
    -- the resident left
    pub removed-slot : (resident : Option (K × ℕ)) → IfSome resident (λ r. slot_of (key.eq r.0) old.machine ≡ Some slot) → new.machine ≡ vacated slot old.machine
        → IfSome resident (λ r. new.machine ≡ removed (key.eq r.0) old.machine)
    removed-slot resident own is = grind arith

    pub removed-slot-costs : (resident : Option (K × ℕ)) → IfSome resident (λ r. slot_of (key.eq r.0) old.machine ≡ Some slot) → new.machine ≡ vacated slot old.machine
        → Spends 0 8 0 old.counts new.counts → new.known ≡ left_by (hash_in key build hash old) resident slot old.known → IfSome resident (λ r. Costs key build hash (Remove r.0) old new)
    removed-slot-costs None own is spent left = tt
    removed-slot-costs (Some r) own is spent left = remove-costs (sym own) refl (nothing-spent 0 _ refl) (reaches-own key build hash r slot left) is spent

-- What an eviction costs, though no key comes.
use Rattle.clock2q_cache.proofs.Names.{◌≡◌, ℕ, ◌+◌, ◌≤◌, true, false, Option, Some, None, length, sym, ap, ◌∙◌, arith, IsWithinCapacity, pushed-accesses, Evict, first_of, victim_leaves, victim_evicted, tail_evicted, evicted, leaves_now, reached_if, retired_from, if◌then◌else◌, last_or, option_map, HashMembers, IsEquivalence, IsWhole, SmallEntry, Machine, CacheState, Counts, Spends, Costs, hash_in, left_by}
use Rattle.std.specs.declared.hash.Hasher as hasher
use Rattle.std.specs.declared.hash.BuildHasher as builder
use Rattle.clock2q_machine.specs.Entries.{from_victim, inspections}
use Rattle.clock2q_cache.proofs.IndexPrices.{oldest_reached}
use Rattle.clock2q_cache.proofs.Reaching.{reaches-gone}
use Rattle.clock2q_cache.proofs.Spent.{costs-of, spends-both}

module _ {K V S H : Type 0} (key : HashMembers K) (build : builder.Ghosts S H) (hash : hasher.Ghosts H) (old new : CacheState K V S) where
  abbrev tail_of : Machine K V → Option (SmallEntry K)
  tail_of m = last_or None m.small

  abbrev tail_key : Option (K × ℕ)
  tail_key = option_map (λ tail. (tail.key, tail.slot)) (tail_of old.machine)

  -- of Main's victim
  module _ {looked : Counts} (leaves : victim_leaves old.machine ≡ true) (spent : Spends 0 1 0 old.counts looked) where
    pub victim-costs : (r : K × ℕ) → first_of (from_victim old.machine.main) ≡ Some r
        → new.machine ≡ victim_evicted (tail_of old.machine) (from_victim old.machine.main) old.machine
        → new.known ≡ left_by (hash_in key build hash old) (Some r) r.1 old.known
        → Spends (inspections old.machine.main) (inspections old.machine.main + 18) 0 looked new.counts → Costs key build hash Evict old new
    victim-costs r left is known more =
        let becomes : new.machine ≡ evicted old.machine =
        is ∙ sym (ap (λ b. if b then victim_evicted (tail_of old.machine) (from_victim old.machine.main) old.machine else tail_evicted (tail_of old.machine) old.machine) leaves) in
        let now : leaves_now old.machine ≡ Some r = ap (λ b. if b then first_of (from_victim old.machine.main) else tail_key) leaves ∙ left in
        let looks : (if victim_leaves old.machine then inspections old.machine.main else 0) ≡ inspections old.machine.main = ap (λ b. if b then inspections old.machine.main else 0) leaves in
        costs-of becomes
        (record { accesses = omega (arith, (reaches-gone key build hash r r.1 {old = old} {new = new} known).accesses, ap (λ o. reached_if key build hash old (option_map (λ x. x.0) o)) now) })
        (spends-both spent more (omega (arith, looks)) (omega (arith, looks)) (omega arith))

  -- of Small's tail
  module _ (laws : IsEquivalence key.eq) (respects : (x y : K) → key.eq x y ≡ true → key.hash_input x ≡ key.hash_input y) (whole : IsWhole key.eq old.machine)
      (as_many : length old.known.taken ≡ length old.machine.history) (within : IsWithinCapacity old.known.index) where
    retired-reaches : (o : Option (K × ℕ)) → tail_key ≡ o → new.known ≡ retired_from (hash_in key build hash old) o old.machine old.known
        → new.known.index.accesses ≤ old.known.index.accesses + reached_if key build hash old (option_map (λ r. r.0) o) + reached_if key build hash old (last_or None old.machine.history)
    retired-reaches o there known = grind (arith, hash_in, pushed-accesses, oldest_reached)

    pub tail-costs : {looked : Counts} → victim_leaves old.machine ≡ false → Spends 0 1 0 old.counts looked
        → (o : Option (K × ℕ)) → o ≡ tail_key → new.machine ≡ tail_evicted (tail_of old.machine) old.machine
        → new.known ≡ retired_from (hash_in key build hash old) o old.machine old.known → Spends 0 15 0 looked new.counts → Costs key build hash Evict old new
    tail-costs stays spent o left is known more = grind (arith, evicted, first_of, tail_key, inspections, costs-of, retired-reaches, spends-both)

-- How many slots of the index the parts of a call read and write.
use Rattle.clock2q_cache.proofs.Names.{◌≡◌, ℕ, ◌+◌, ◌≤◌, Bool, true, not, [], length, Option, Some, refl, ap, ◌∙◌, arith, sum_by, most_reached, IsWithinCapacity, left-dear, freed-accesses, HashMembers, is_some, IfSome, IsEquivalence, cons_option, sum_by-append, IndexState, Places, place_of, resident_at, slot_of, IsWhole, CacheState, Reaches, reached, walked, slots_for, slots_to_take, hash_of, hash_in, looked_for, known_once, known_with, known_taken, discarded, left_by}
use Rattle.std.specs.declared.hash.Hasher as hasher
use Rattle.std.specs.declared.hash.BuildHasher as builder
use Rattle.clock2q_directory.specs.Index as known
use Rattle.clock2q_cache.proofs.IndexPrices.{within-looked, known_once-reaches, known_taken-reaches}
use Rattle.clock2q_cache.proofs.Listed.{same-key}
use Rattle.clock2q_cache.proofs.Retained.{below, below-more}

-- the resident at a slot leaves
left-reaches : {K : Type 0} (hash : K → ℕ) (x : ℕ) (o : Option (K × ℕ)) (slot : ℕ) (p : Places) → IfSome o (λ r. hash r.0 ≡ x)
    → (left_by hash o slot p).index.accesses ≤ p.index.accesses + most_reached p.index x
left-reaches hash x o slot p same = grind arith

module _ {K V S H : Type 0} (key : HashMembers K) (build : builder.Ghosts S H) (hash : hasher.Ghosts H) where
  module _ (k : K) {old new : CacheState K V S} where
    -- a key has its slot, whether or not its gap was found
    pub reaches-once : (b : Bool) → IsEquivalence key.eq → ((x y : K) → key.eq x y ≡ true → key.hash_input x ≡ key.hash_input y) → IsWhole key.eq old.machine
        → length old.known.taken ≡ length old.machine.history → IsWithinCapacity old.known.index → new.known ≡ known_once key build hash b k old → Reaches (slots_for key build hash k old) old new
    reaches-once b laws respects whole as_many within is = grind (arith, known_once-reaches key build hash k old laws respects whole as_many within b)

    -- a key that was looked up has its slot
    pub reaches-with : IsEquivalence key.eq → ((x y : K) → key.eq x y ≡ true → key.hash_input x ≡ key.hash_input y) → IsWhole key.eq old.machine
        → length old.known.taken ≡ length old.machine.history → IsWithinCapacity old.known.index → new.known ≡ known_with key build hash k old → Reaches (slots_for key build hash k old) old new
    reaches-with laws respects whole as_many within is = reaches-once (not (is_some (place_of (key.eq k) old.machine.history old.known.taken))) laws respects whole as_many within is

    -- a key that was looked up first among the residents has its slot
    pub reaches-taken : IsEquivalence key.eq → ((x y : K) → key.eq x y ≡ true → key.hash_input x ≡ key.hash_input y) → IsWhole key.eq old.machine
        → length old.known.taken ≡ length old.machine.history → IsWithinCapacity old.known.index → new.known ≡ known_taken key build hash k old → Reaches (slots_to_take key build hash k old) old new
    reaches-taken laws respects whole as_many within is = grind (arith, known_taken-reaches key build hash k old laws respects whole as_many within)

    -- a key was looked up, and its history is erased
    pub reaches-discarded : IsWithinCapacity old.known.index → (x : ℕ) → x ≡ hash_of build hash old.hasher (key.hash_input k) → new.known ≡ discarded (key.eq k) x (looked_for key build hash k old)
        → Reaches (walked key build hash old k + reached key build hash old k) old new
    reaches-discarded within x same is = grind (arith, freed-accesses, within-looked, hash_in, place_of)

    -- a key was looked up, and the resident that was found leaves
    pub reaches-left : IsEquivalence key.eq → IsWhole key.eq old.machine → ((x y : K) → key.eq x y ≡ true → key.hash_input x ≡ key.hash_input y)
        → (slot : ℕ) → slot_of (key.eq k) old.machine ≡ Some slot → new.known ≡ left_by (hash_in key build hash old) (resident_at old.machine slot) slot (looked_for key build hash k old).known
        → Reaches (walked key build hash old k + reached key build hash old k) old new
    reaches-left laws whole respects slot found is =
        let walk = left-reaches (hash_in key build hash old) (hash_in key build hash old k) (resident_at old.machine slot) slot (looked_for key build hash k old).known in
        grind (arith, walk, same-key key.eq laws old.machine whole k slot, respects k)

  -- the resident at a slot leaves, whose key is this one
  pub reaches-gone : (r : K × ℕ) (slot : ℕ) {old new : CacheState K V S} → new.known ≡ left_by (hash_in key build hash old) (Some r) slot old.known → Reaches (reached key build hash old r.0) old new
  reaches-gone r slot {old} is = grind (arith, left-reaches, hash_in, r.0)

  -- so it is within the bound of a removal by the key, which looks it up first
  pub reaches-own : (r : K × ℕ) (slot : ℕ) {old new : CacheState K V S} →
      new.known ≡ left_by (hash_in key build hash old) (Some r) slot old.known →
      Reaches (walked key build hash old r.0 + reached key build hash old r.0) old new
  reaches-own r slot is = grind arith

module _ {K V S H : Type 0} (key : HashMembers K) (build : builder.Ghosts S H) (hash : hasher.Ghosts H) where
  -- the index once some of the residents at the slots below left
  pub record LeftBelow (n : ℕ) (old : CacheState K V S) (now : IndexState) : Type 0 where
    pub within : IsWithinCapacity now
    pub less : (x : ℕ) → most_reached now x ≤ most_reached old.known.index x
    pub spent : now.accesses ≤ old.known.index.accesses + sum_by (λ r. reached key build hash old r.0) (below old.machine n)

module _ {K V S H : Type 0} {key : HashMembers K} {build : builder.Ghosts S H} {hash : hasher.Ghosts H} where
  pub left-none : {old : CacheState K V S} → IsWithinCapacity old.known.index → LeftBelow key build hash 0 old old.known.index
  left-none within = record { within = within; less = λ x. omega arith; spent = omega arith }

  module _ {n : ℕ} {old : CacheState K V S} {now : IndexState} (h : LeftBelow key build hash n old now) where
    sum-more : (o : Option (K × ℕ)) → resident_at old.machine n ≡ o
        → sum_by (λ r. reached key build hash old r.0) (below old.machine (n + 1)) ≡
        sum_by (λ r. reached key build hash old r.0) (below old.machine n) + sum_by (λ r. reached key build hash old r.0)
        (cons_option o [])
    sum-more o at = ap (sum_by (λ r. reached key build hash old r.0)) (below-more old.machine n o at) ∙ sum_by-append (λ r. reached key build hash old r.0) (below old.machine n) (cons_option o [])

    -- none leaves the next slot
    pub left-stays : LeftBelow key build hash (n + 1) old now
    left-stays = record { within = h.within; less = h.less; spent = omega (arith, h.spent, sum-more (resident_at old.machine n) refl) }

    left-one : (r : K × ℕ) → resident_at old.machine n ≡ Some r → LeftBelow key build hash (n + 1) old (known.left (hash_in key build hash old r.0) n now)
    left-one r at = grind (arith, left-dear, sum-more (Some r) at, h)

    -- the resident leaves the next slot
    pub left-more : (cache new : CacheState K V S) → cache.known.index ≡ now → cache.hasher ≡ old.hasher → resident_at cache.machine n ≡ resident_at old.machine n
        → new.known ≡ left_by (hash_in key build hash cache) (resident_at cache.machine n) n cache.known → LeftBelow key build hash (n + 1) old new.known.index
    left-more cache new here same later is = grind (arith, hash_in, left-stays, left-one)

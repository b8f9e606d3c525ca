-- What the parts of a call cost.
use Rattle.clock2q_cache.proofs.Names.{◌-◌, ◌≡◌, ℕ, ◌+◌, ◌*◌, ◌≤◌, Bool, true, false, List, length, Some, None, ap, ◌∙◌, arith, if◌then◌else◌, HashMembers, candidates, KeyPlaces, comparisons_of, Remembered, QueueState, comparisons-most, inspections_for, inspections_of, accesses_for, alike, Call, Put, Get, GetAt, Set, Remove, Retain, Prefill, counts_of, Places, CacheState, Counts, residents_in, Spends, Reaches, Costs, Becomes, most_accesses, most_comparisons, most_slots, walked, hash_of, looked_for, slot_of, hit, put, stored, prefilled, vacated, removed_at, then_some, is_at, after, hit_at, retained, replaced, hit-absent, SlotFor, clock_bounded}
use Rattle.std.specs.declared.hash.Hasher as hasher
use Rattle.std.specs.declared.hash.BuildHasher as builder

-- two parts of a call, each with its cost
pub spends-both : {i j n l k x l' k' x' : ℕ} {a b c : Counts} → Spends i l k a b → Spends j l' k' b c → i + j ≡ n → l + l' ≤ x → k + k' ≤ x' → Spends n x x' a c
spends-both before after looks links keys = grind (arith, before, after)

-- a cost within a larger bound
pub spends-more : {i l k l' k' : ℕ} {a b : Counts} → Spends i l k a b → l ≤ l' → k ≤ k' → Spends i l' k' a b
spends-more spent links keys = grind arith

-- a key was erased from the history, if it was there
pub erased-spends : (known : Bool) {a b : Counts} → Spends 0 (if known then 7 else 0) 0 a b → Spends 0 7 0 a b
erased-spends true spent = spent
erased-spends false spent = spends-more spent (omega arith) (omega arith)

module _ {K V : Type 0} (q : QueueState) (h : Remembered K) (keys keys' : KeyPlaces K V) where
  -- a lookup makes at most as many comparisons as there are places
  pub asked-spends : (test : ℕ → Bool) {places all : List ℕ} → places ≡ all
      → keys' ≡ record keys { comparisons = keys.comparisons + comparisons_of test places } → Spends 0 0 (length all) (counts_of q h keys) (counts_of q h keys')
  asked-spends test {places} same is = grind (arith, comparisons-most)

  -- new keys cost no comparison, and an access for each link record that is made
  pub made-spends : {q' : QueueState} {made more most : ℕ} → q' ≡ record q { made = made; accesses = q.accesses + more } → more ≤ most
      → keys'.comparisons ≡ keys.comparisons → Spends 0 most 0 (counts_of q h keys) (counts_of q' h keys')
  made-spends is few same = grind arith

none-some : (b : Bool) (slot : ℕ) → None ≡ then_some b slot → b ≡ false
none-some b slot e = grind arith

some-some : (b : Bool) (slot resident : ℕ) → Some resident ≡ then_some b slot → b ≡ true
some-some b slot resident e = grind arith

-- one more of the slots: its resident stays or leaves
pub slot-stays : (slot : ℕ) {a b : Counts} → Spends 0 (8 * slot) 0 a b → Spends 0 (8 * (slot + 1)) 0 a b
slot-stays slot before = spends-more before (omega arith) (omega arith)

pub slot-leaves : (slot : ℕ) {a b c : Counts} → Spends 0 (8 * slot) 0 a b → Spends 0 8 0 b c → Spends 0 (8 * (slot + 1)) 0 a c
slot-leaves slot before left = spends-both before left (omega arith) (omega arith) (omega arith)

module _ {K V S : Type 0} {n : ℕ} {old new : CacheState K V S} where
  -- the index is as it was
  pub reaches-none : new.known ≡ old.known → Reaches n old new
  reaches-none same = record { accesses = omega (arith, ap (λ (p : Places). p.index.accesses) same) }

module _ {K V S H : Type 0} (key : HashMembers K) (build : builder.Ghosts S H) (hash : hasher.Ghosts H) (k : K) where
  -- a key was looked up
  pub reaches-looked : {n : ℕ} {old new : CacheState K V S} → new.known ≡ (looked_for key build hash k old).known → walked key build hash old k ≤ n → Reaches n old new
  reaches-looked same most = record { accesses = omega (arith, ap (λ (p : Places). p.index.accesses) same, most) }

module _ {K V S H : Type 0} {key : HashMembers K} {build : builder.Ghosts S H} {hash : hasher.Ghosts H} where
  -- a call that leaves the machine's next state has paid for its inspections
  pub costs-of : {call : Call K V} {old new : CacheState K V S} → new.machine ≡ after key.eq call old.machine
      → Reaches (most_slots key build hash call old) old new
      → Spends (inspections_of key.eq call old.machine) (most_accesses key.eq call old.machine) (most_comparisons key build hash call old) old.counts new.counts
      → Costs key build hash call old new
  costs-of {call} {old} is reached spent = grind (arith, spent.inspections, clock_bounded key.eq call old.machine)

  -- so has a put that looked the key up twice
  pub put-costs : {k : K} {v : V} {old new : CacheState K V S} → new.machine ≡ put (key.eq k) k v old.machine
      → Reaches (most_slots key build hash (SlotFor k v) old) old new
      → Spends (inspections_for (key.eq k) old.machine) (accesses_for (key.eq k) old.machine) (alike key build hash k old) old.counts new.counts
      → Costs key build hash (SlotFor k v) old new
  put-costs {k} {v} {old} is reached spent = grind (arith, spent.inspections, clock_bounded key.eq (Put k v) old.machine)

  -- a call in which the hand inspects nothing, and no bit is set
  pub prefill-costs : {values : List V} (made : List V) {old new : CacheState K V S} → new.machine ≡ prefilled made old.machine
      → new.known ≡ old.known → Spends 0 (old.machine.shares.capacity - length old.machine.values) 0 old.counts new.counts → Costs key build hash (Prefill values) old new
  prefill-costs made is kept spent = grind (arith, spent.inspections, reaches-none)

  pub retain-costs : {bits : List Bool} (asked : List Bool) {old new : CacheState K V S} → new.machine ≡ retained asked old.machine
      → Reaches (most_slots key build hash (Retain bits) old) old new → Spends 0 (8 * length old.machine.values) 0 old.counts new.counts → Costs key build hash (Retain bits) old new
  retain-costs asked {old} is reached spent = grind (arith, spent.inspections, clock_bounded key.eq (Retain asked) old.machine)

  -- a lookup that finds no resident
  pub missed-becomes : {k : K} {x : ℕ} {old new : CacheState K V S} → x ≡ hash_of build hash old.hasher (key.hash_input k) → slot_of (key.eq k) old.machine ≡ None
      → new ≡ record (looked_for key build hash k old) { counts = new.counts } → Spends 0 0 (length (candidates (residents_in old.known) x)) old.counts new.counts
      → Becomes key build hash (Get k) (hit (key.eq k) old.machine) old new
  missed-becomes {k} {old = old} same absent kept spent = grind (arith, hit-absent, costs-of, reaches-looked, spends-more)

  pub unhit-becomes : {k : K} {old new : CacheState K V S} → slot_of (key.eq k) old.machine ≡ None
      → Becomes key build hash (Get k) (hit (key.eq k) old.machine) old new → Becomes key build hash (Get k) old.machine old new
  unhit-becomes absent missed = grind (arith, hit-absent)

  -- a lookup that finds a resident, which is hit
  pub hit-becomes : {k : K} {x : ℕ} {old found new : CacheState K V S} → x ≡ hash_of build hash old.hasher (key.hash_input k)
      → found ≡ record (looked_for key build hash k old) { counts = found.counts } → Spends 0 0 (length (candidates (residents_in old.known) x)) old.counts found.counts
      → new ≡ record found { machine = new.machine } → new.machine ≡ hit (key.eq k) found.machine
      → Becomes key build hash (Get k) (hit (key.eq k) old.machine) old new
  hit-becomes {k} {old = old} {new = new} same kept spent after_hit is = grind (arith, is, after_hit, kept, costs-of {call = Get k} {old = old} {new = new})

  -- a lookup that finds a resident, which leaves
  pub remove-costs : {k : K} {slot : ℕ} {old found new : CacheState K V S} → Some slot ≡ slot_of (key.eq k) old.machine
      → found ≡ record (looked_for key build hash k old) { counts = found.counts } → Spends 0 0 (most_comparisons key build hash (Remove k) old) old.counts found.counts
      → Reaches (most_slots key build hash (Remove k) old) old new → new.machine ≡ vacated slot found.machine → Spends 0 8 0 found.counts new.counts
      → Costs key build hash (Remove k) old new
  remove-costs {k} {slot} {old} there kept asked reached is left = costs-of
      (is ∙ ap (λ (z : CacheState K V S). vacated slot z.machine) kept ∙ ap (λ o. removed_at (key.eq k) o old.machine) there)
      reached (spends-both asked left (omega arith) (omega arith) (omega arith))

  -- the value of the key that is hit is lent, and this value is left behind the reference
  pub lent-becomes : {k : K} {slot : ℕ} {value : V} {old new : CacheState K V S} → Some slot ≡ slot_of (key.eq k) old.machine
      → Becomes key build hash (Get k) (hit (key.eq k) old.machine) old new
      → Becomes key build hash (Set k value) (replaced (key.eq k) value old.machine) old (record new { machine = stored slot value new.machine })
  lent-becomes there found = grind (arith, found.0, found.1, costs-of, found.2.index.accesses, found.2.counts)

  -- none is lent
  pub unlent-becomes : {k : K} {value : V} {old new : CacheState K V S} → slot_of (key.eq k) old.machine ≡ None
      → Becomes key build hash (Get k) (hit (key.eq k) old.machine) old new
      → Becomes key build hash (Set k value) (replaced (key.eq k) value old.machine) old new
  unlent-becomes {k} {value} {old} absent missed = grind (arith, missed.0, hit-absent, missed.1, costs-of, missed.2.index, missed.2.counts)

  -- the same at a slot
  pub missed_at-becomes : {slot : ℕ} {k : K} {old new : CacheState K V S} → None ≡ then_some (is_at slot (slot_of (key.eq k) old.machine)) slot
      → new ≡ record old { counts = new.counts } → Spends 0 0 1 old.counts new.counts
      → Becomes key build hash (GetAt slot k) (hit_at slot (key.eq k) old.machine) old new
  missed_at-becomes absent kept spent = grind (arith, none-some, is_at, slot_of, costs-of, reaches-none)

  pub hit_at-becomes : {slot resident : ℕ} {k : K} {old found new : CacheState K V S} → Some resident ≡ then_some (is_at slot (slot_of (key.eq k) old.machine)) slot
      → found ≡ record old { counts = found.counts } → Spends 0 0 1 old.counts found.counts
      → new ≡ record found { machine = new.machine } → new.machine ≡ hit (key.eq k) found.machine
      → Becomes key build hash (GetAt slot k) (hit_at slot (key.eq k) old.machine) old new
  hit_at-becomes {slot} {resident} {k} {old} {new = new} at kept spent after_hit is =
      let m : new.machine ≡ hit_at slot (key.eq k) old.machine = grind (arith, some-some, is, kept) in
      let s : Spends 0 0 1 old.counts new.counts = grind (arith, after_hit, spent) in
      let index : new.known ≡ old.known = grind (arith, after_hit, kept) in
      (m, grind (arith, after_hit, kept), costs-of m (reaches-none index) s)

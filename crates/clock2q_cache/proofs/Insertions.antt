-- What the insertion of a key costs.
use Rattle.clock2q_cache.proofs.Names.{◌≡◌, ℕ, ◌+◌, ◌<◌, ◌≤◌, Bool, false, not, List, [], ◌∷◌, length, Some, None, ap, sym, ◌∙◌, arith, if◌then◌else◌, is_some, IfSome, list_any, last_or, IsEquivalence, KeyPlaces, key_at, inspections, QueueState, Entry, Remembered, Places, Age, is_promoted, last_some, none_is, Shares, Machine, slot_of, vacancy, goes_to_main, forgotten, goes_on, inspections_for, small_inspections, machine_of, IsCache, counts_of, CacheState, Counts, Spends, accesses_for, discarded, Rises, Found, found_gap, IsGapFor, IsFoundFor, IsAdmitted}
use Rattle.clock2q_machine.specs.Entries as machine
use Rattle.clock2q_cache.proofs.Spent.{spends-both, spends-more}
use Rattle.clock2q_cache.proofs.WithKeys.{main-inspections}
use Rattle.clock2q_cache.proofs.Slots.{main_have}

module _ {K V : Type 0} (q : QueueState) (h : Remembered K) (keys : KeyPlaces K V) {q' : QueueState} {keys' : KeyPlaces K V} {es : List (Entry K V)} {n : ℕ} where
  -- a key that joins a queue
  pub joined-spends : {small : List (ℕ × Age)} {main : List (ℕ × Bool)} {made : ℕ} (least most : ℕ) → q' ≡ record q { small = small; main = main; made = made; accesses = q'.accesses }
      → Rises least most q.accesses q'.accesses → most ≤ 10 → {places : Places} {h' : Remembered K} → h' ≡ record h { places = places } → keys' ≡ record keys { entries = es; writes = n }
      → Spends 0 10 0 (counts_of q h keys) (counts_of q' h' keys')
  joined-spends least most queues links few moved renewed = grind (arith, inspections, links.0, links.1)

  -- a key that takes the slot of Small's tail, which is evicted
  pub evicted-spends : {small : List (ℕ × Age)} {main : List (ℕ × Bool)} {kept : List
      (ℕ × K)} {places : Places} {h' : Remembered K} → q' ≡ record q { small = small; main = main; accesses = q'.accesses } →
      Rises 5 8 q.accesses q'.accesses
      → h' ≡ record h { entries = kept; places = places; accesses = h'.accesses } → Rises 0 8 h.accesses h'.accesses
      → keys' ≡ record keys { entries = es; writes = n } → Spends 0 28 0 (counts_of q h keys) (counts_of q' h' keys')
  evicted-spends queues reused pushed remembered renewed = grind (arith, inspections, reused.0, remembered.0, reused.1, remembered.1)

module _ {K V : Type 0} {eq : K → K → Bool} {hash : K → ℕ} {shares : Shares} {q : QueueState} {h : Remembered K} {index : List (List (ℕ × ℕ))} {keys : KeyPlaces K V} {free : List ℕ} {room : ℕ}
    (laws : IsEquivalence eq) (kept : IsCache eq hash shares q h index keys free room) where
  -- a key that takes the slot of Main's victim; any other change of the queues costs as much
  pub victim-spends : {q' : QueueState} {keys' : KeyPlaces K V} {small : List (ℕ × Age)} {main : List (ℕ × Bool)} {es : List (Entry K V)} {n looks : ℕ} (most : ℕ)
      → looks ≡ q.inspections + inspections q.main → Rises (inspections q.main) (inspections q.main + most) q.accesses q'.accesses
      → q' ≡ record q { small = small; main = main; accesses = q'.accesses; inspections = looks }
      → {places : Places} {h' : Remembered K} → h' ≡ record h { places = places } → keys' ≡ record keys { entries = es; writes = n }
      → let m = machine_of shares q keys.entries h.entries free in Spends (machine.inspections m.main) (machine.inspections m.main + most) 0 (counts_of q h keys) (counts_of q' h' keys')
  victim-spends most looks links queues moved renewed =
      grind (arith, main-inspections (key_at keys.entries) q.main (main_have laws kept), inspections, links.0, links.1)

pub no_last : {X : Type 0} (xs : List X) → 0 < length xs → last_or None xs ≡ None → ⊥
no_last [] some none = omega (arith, some)
no_last (x ∷ xs) some none = let l = last_some xs x in none_is l.0 (sym none ∙ l.1)

module _ {K V : Type 0} (m : Machine K V) where
  -- into a full Small, whose tail moves on or is evicted
  tail-goes : (b : Bool) → 0 < length m.small → IfSome (last_or None m.small) (λ tail. b ≡ is_promoted tail.age) → goes_on (last_or None m.small) ≡ b
  tail-goes b some at = grind (arith, last_or, is_promoted, goes_on, no_last)

  pub tail-inspections : (b : Bool) → is_some (vacancy m) ≡ false → 0 < length m.small
      → IfSome (last_or None m.small) (λ tail. b ≡ is_promoted tail.age) → small_inspections m ≡ (if b then machine.inspections m.main else 0)
  tail-inspections b none some at = grind (arith, not, goes_on, last_or, tail-goes)

-- a key that is erased from the history enters Main or Small
pub sent-by : {K V : Type 0} {is : K → Bool} {m m1 : Machine K V} {main known : Bool} → known ≡ list_any is m.history → m1 ≡ forgotten is m → main ≡ goes_to_main known m1 → IsAdmitted is m m1 main
sent-by {m = m} {known = known} had erased goes = record { erased = erased; goes = goes ∙ ap (goes_to_main known) erased ∙ ap (λ b. goes_to_main b m) had }

-- the gap that a lookup found is still there then
pub gap-still : {K V S : Type 0} {eq : K → K → Bool} (found : Found) {k : K} {x : ℕ} {c : CacheState K V S} {p : Places} → IsFoundFor eq found k x c
    → p ≡ discarded (eq k) x c → IsGapFor (found_gap found) x p.index
gap-still found f erased = grind (arith, f.place, f.gap)

-- after a look at Small's tail
pub looked-spends : {looks : ℕ} {a b c : Counts} → Spends 0 1 0 a b → Spends looks (looks + 28) 0 b c → Spends looks (looks + 29) 0 a c
looked-spends before after = spends-both before after (omega arith) (omega arith) (omega arith)

-- A key is looked up, and is hit or inserted.
module _ {K V : Type 0} (is : K → Bool) (m : Machine K V) {r n : ℕ} {old found new : Counts} (asked : Spends 0 0 r old found) where
  pub hit-spends : {slot : ℕ} → Some slot ≡ slot_of is m → new ≡ found → r ≤ n → Spends (inspections_for is m) (accesses_for is m) n old new
  hit-spends there same few = grind (arith, spends-more)

  pub insert-spends : {m1 : Machine K V} {p : ℕ} → None ≡ slot_of is m → m1 ≡ m
      → Spends (inspections_for is m1) (inspections_for is m1 + 29) p found new → r + p ≤ n → Spends (inspections_for is m) (accesses_for is m) n old new
  insert-spends absent same spent few = grind (arith, spends-both)

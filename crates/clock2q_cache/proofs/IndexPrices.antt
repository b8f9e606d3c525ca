-- What a call that may insert a key costs the index at most.
use Rattle.clock2q_cache.proofs.Names.{◌≡◌, ℕ, ◌+◌, ◌*◌, ◌≤◌, ◌||◌, ◌&&◌, Bool, true, false, not, Option, Some, None, List, [], ◌∷◌, length, inl, inr, refl, sym, ap, ◌∙◌, subst, arith, cases_Bool, or_parts, filter, list_any, last_or, last_some, option_map, is_some, none_is, if◌then◌else◌, IfSome, IsEquivalence, HashMembers, Places, place_of, oldest_hash, SmallEntry, MainEntry, Machine, placement, inserted, forgotten, slot_of, resident_at, resident_made, goes_to_main, get-within, replaced, after, Put, IsWhole, CacheState, hash_of, key_out, left_by, discarded, hash_in, looked_for, known_at, known_once, known_taken, first_of, leaves_for, leaves_for_small, leaver, lasting-inserted, slots_apart, differs, entered_there, others_stay, IndexState, IsWithinCapacity, is_shared, looked_up, most_reached, inserted-most, reached_oldest, freed-dear, freed-accesses, pushed-accesses, reached, reached_if, walked, slots_for, slots_to_take, vacated_for, out_of}
use Rattle.std.specs.declared.hash.Hasher as hasher
use Rattle.std.specs.declared.hash.BuildHasher as builder
use Rattle.clock2q_cache.proofs.Listed.{at_its_slot}

module _ {K V : Type 0} (eq : K → K → Bool) (laws : IsEquivalence eq) (m : Machine K V) (whole : IsWhole eq m) (key : K) (absent : slot_of (eq key) m ≡ None) where
  -- the slot that the key takes, and the resident that leaves
  abbrev at : ℕ
  at = (placement (eq key) key m).slot

  abbrev out : Option (K × ℕ)
  out = leaves_for (list_any (eq key) m.history) m

  stays_there : (r : K × ℕ) → slot_of (eq r.0) m ≡ Some at → V → IfSome out (λ l. eq r.0 l.0 ≡ false) → ⊥
  stays_there r found value other =
      let n : Machine K V = inserted (eq key) key value m in
      let lasting = lasting-inserted eq laws key m whole absent value in
      let put_is : after eq (Put key value) m ≡ n = ap (λ o. if is_some o then replaced (eq key) value m else n) absent in
      let out_is : leaver eq (Put key value) m ≡ out = ap (λ o. if is_some o then None else out) absent in
      let still = others_stay eq m whole laws (Put key value) refl r.0 at found (subst (λ o. IfSome o (λ l. eq r.0 l.0 ≡ false)) (sym out_is) other) in
      slots_apart eq laws n lasting r.0 key (differs eq laws m r.0 key at absent found) at at
      (entered_there eq laws m whole key absent value false lasting) (ap (slot_of (eq r.0)) (sym put_is) ∙ still) refl

  -- a resident at that slot is the one that leaves
  pub leaves-there : (r : K × ℕ) → resident_at m at ≡ Some r → (l : K × ℕ) × (out ≡ Some l) × (eq r.0 l.0 ≡ true)
  leaves-there r there =
      let found = (at_its_slot eq laws m whole at r there).1 in
      by_leaver found (get-within m.values at (resident_made eq laws (eq r.0) m whole at found)).0 out refl
    where
      by_leaver : slot_of (eq r.0) m ≡ Some at → V → (o : Option (K × ℕ)) → out ≡ o → (l : K × ℕ) × (out ≡ Some l) × (eq r.0 l.0 ≡ true)
      by_leaver found value None is = absurd (stays_there r found value (subst (λ o. IfSome o (λ l. eq r.0 l.0 ≡ false)) (sym is) tt))
      by_leaver found value (Some l) is = elim (cases_Bool (eq r.0 l.0)) [
        | inl same ↦ (l, is, same)
        | inr other ↦ absurd (stays_there r found value (subst (λ o. IfSome o (λ x. eq r.0 x.0 ≡ false)) (sym is) other))
      ]

-- a key that isn't remembered has no place, and leaves the history as it is
place-none : {K : Type 0} (is : K → Bool) (ks : List K) (ps : List ℕ) → list_any is ks ≡ false → place_of is ks ps ≡ None
place-none is [] ps none = refl
place-none is (k ∷ ks) [] none = refl
place-none is (k ∷ ks) (p ∷ ps) none =
    let parts = or_parts (is k) (list_any is ks) none in
    rw parts.0 (place-none is ks ps parts.1)

none-forgotten : {K : Type 0} (is : K → Bool) (ks : List K) → list_any is ks ≡ false → filter (λ k. not (is k)) ks ≡ ks
none-forgotten is [] none = refl
none-forgotten is (k ∷ ks) none =
    let parts = or_parts (is k) (list_any is ks) none in
    rw parts.0 (ap (λ xs. k ∷ xs) (none-forgotten is ks parts.1))

-- a key that goes into the history is Small's tail, which leaves for a key that isn't remembered
tail_leaves : {K : Type 0} (known a b : Bool) (v : Option ℕ) (t : Option (SmallEntry K)) (main : List (MainEntry K)) (other : Option (K × ℕ)) (tail : K)
    → (if (known || a || b) then None else (if is_some v then None else key_out t)) ≡ Some tail
    → (known ≡ false) × (option_map (λ (r : K × ℕ). r.0) (if (known || a || b) then other else leaves_for_small v t main) ≡ Some tail)
tail_leaves known a b v t main other tail e = grind (arith, none_is, first_of)

module _ {K V S H : Type 0} (key : HashMembers K) (build : builder.Ghosts S H) (hash : hasher.Ghosts H) (laws : IsEquivalence key.eq)
    (respects : (x y : K) → key.eq x y ≡ true → key.hash_input x ≡ key.hash_input y) (c : CacheState K V S) (whole : IsWhole key.eq c.machine)
    (as_many : length c.known.taken ≡ length c.machine.history) (within : IsWithinCapacity c.known.index) (k : K) where
  abbrev hashed : K → ℕ
  hashed x = hash_of build hash c.hasher (key.hash_input x)

  abbrev slot : ℕ
  slot = (placement (key.eq k) k c.machine).slot

  abbrev rest : Machine K V
  rest = forgotten (key.eq k) c.machine

  abbrev known : Bool
  known = list_any (key.eq k) c.machine.history

  abbrev leaving : Option K
  leaving = option_map (λ r. r.0) (leaves_for known c.machine)

  abbrev before : Places
  before = discarded (key.eq k) (hashed k) c

  -- the most slots of the index that are read and written until the slot is vacated
  abbrev most_vacated : ℕ
  most_vacated = c.known.index.accesses + reached key build hash c k + reached_if key build hash c leaving + reached_if key build hash c (last_or None c.machine.history)

  pub oldest_reached : (ks : List K) (ps : List ℕ) → length ps ≡ length ks
      → reached_oldest c.known.index (oldest_hash hashed ks) (last_or None ps) ≤ reached_if key build hash c (last_or None ks)
  oldest_reached ks [] e = omega arith
  oldest_reached [] (p ∷ ps) e = absurd (omega (arith, e))
  oldest_reached (x ∷ ks) (p ∷ ps) e =
      let oldest = last_some ks x in
      omega (
        arith,
        ap (reached_oldest c.known.index (oldest_hash hashed (x ∷ ks))) (last_some ps p).1,
        ap (λ (o : Option K). most_reached c.known.index (elim o [ None ↦ 0 | Some y ↦ hashed y ])) oldest.1,
        ap (reached_if key build hash c) oldest.1,
      )

  -- by the resident that is there
  vacated_there : slot_of (key.eq k) c.machine ≡ None → (o : Option (K × ℕ)) → resident_at c.machine slot ≡ o → (left_by hashed o slot before).index.accesses ≤ most_vacated
  vacated_there absent None is = omega (arith, freed-accesses c.known within (hashed k) (place_of (key.eq k) c.machine.history c.known.taken))
  vacated_there absent (Some r) is =
      let place = place_of (key.eq k) c.machine.history c.known.taken in
      let l = leaves-there key.eq laws c.machine whole k absent r is in
      let same : reached key build hash c r.0 ≡ reached_if key build hash c leaving =
      ap (λ x. most_reached c.known.index (hash_of build hash c.hasher x)) (respects r.0 l.0.0 l.2) ∙ sym (ap (λ o. reached_if key build hash c (option_map (λ x. x.0) o)) l.1) in
      omega (arith, freed-accesses c.known within (hashed k) place, (freed-dear c.known within (hashed k) place).shared (hashed r.0), same)

  -- by that resident, or by Small's tail, which is remembered
  vacated_by : slot_of (key.eq k) c.machine ≡ None → (o : Option K) → out_of (goes_to_main known c.machine) rest ≡ o → (vacated_for hashed o slot rest before).index.accesses ≤ most_vacated
  vacated_by absent None is = vacated_there absent (resident_at c.machine slot) refl
  vacated_by absent (Some tail) is = grind (arith, hashed, tail_leaves, known, none-forgotten, before, place-none, slot, rest, pushed-accesses, oldest_reached)

  -- once the key has its slot, whether or not its gap was found
  known_price : (b : Bool) → slot_of (key.eq k) c.machine ≡ None → (known_at key build hash k slot b c).index.accesses
      ≤ c.known.index.accesses + (2 * reached key build hash c k + reached_if key build hash c leaving + reached_if key build hash c (last_or None c.machine.history))
  known_price b absent = grind (arith, inserted-most (b && is_shared before.index) before.index.shared (hashed k), place_of, vacated_by, known, rest, freed-dear, hashed)

-- a lookup changes no entry
pub within-looked : {v : IndexState} (x : ℕ) → IsWithinCapacity v → IsWithinCapacity (looked_up x v)
within-looked x within = record { shared = within.shared; own = within.own }

module _ {K V S H : Type 0} (key : HashMembers K) (build : builder.Ghosts S H) (hash : hasher.Ghosts H) (k : K) (old : CacheState K V S) (laws : IsEquivalence key.eq)
    (respects : (x y : K) → key.eq x y ≡ true → key.hash_input x ≡ key.hash_input y) (whole : IsWhole key.eq old.machine)
    (as_many : length old.known.taken ≡ length old.machine.history) (within : IsWithinCapacity old.known.index) where
  abbrev key_hash : ℕ
  key_hash = hash_in key build hash old k

  abbrev its_slot : ℕ
  its_slot = (placement (key.eq k) k old.machine).slot

  abbrev once : CacheState K V S
  once = looked_for key build hash k old

  abbrev twice : CacheState K V S
  twice = looked_for key build hash k once

  abbrev changes : ℕ
  changes = 2 * reached key build hash old k + reached_if key build hash old
      (option_map (λ r. r.0) (leaves_for (list_any (key.eq k) old.machine.history) old.machine)) + reached_if key build hash old
      (last_or None old.machine.history)

  -- the slots of the index that are read and written until a key has its slot are within the bound on them
  pub known_once-reaches : (b : Bool) → (known_once key build hash b k old).index.accesses ≤ old.known.index.accesses + slots_for key build hash k old
  known_once-reaches b = by_slot (slot_of (key.eq k) old.machine) refl
    where
      by_slot : (o : Option ℕ) → slot_of (key.eq k) old.machine ≡ o
          → (if is_some o then once.known else known_at key build hash k its_slot b once).index.accesses ≤ old.known.index.accesses + (walked key build hash old k + (if is_some o then 0 else changes))
      by_slot (Some s) found = omega arith
      by_slot None absent = omega (arith, known_price key build hash laws respects once whole as_many (within-looked key_hash within) k b absent)

  -- also if it is looked up twice
  pub known_taken-reaches : (known_taken key build hash k old).index.accesses ≤ old.known.index.accesses + slots_to_take key build hash k old
  known_taken-reaches = by_slot (slot_of (key.eq k) old.machine) refl
    where
      by_slot : (o : Option ℕ) → slot_of (key.eq k) old.machine ≡ o → (if is_some o then once.known else known_at key build hash k its_slot false twice).index.accesses
          ≤ old.known.index.accesses + (walked key build hash old k + (if is_some o then 0 else changes) + (if is_some o then 0 else walked key build hash old k))
      by_slot (Some s) found = omega arith
      by_slot None absent = omega (arith, known_price key build hash laws respects twice whole as_many (within-looked key_hash (within-looked key_hash within)) k false absent)

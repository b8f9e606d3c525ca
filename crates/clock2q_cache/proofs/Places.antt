-- Which resident is at a slot, and what an insertion does to the index.
use Rattle.clock2q_cache.proofs.Names.{arith, ◌≡◌, ℕ, ◌==◌, Bool, true, false, eqb, Option, Some, None, List, [], ◌∷◌, map, inl, inr, refl, sym, ap, ◌∙◌, eqb-true, eq-eqb, find, last_or, AllByRecursion, IsEquivalence, cases_Bool, KeyPlaces, key_at, hash_at, QueueState, slots_of, Remembered, Places, oldest_hash, pushed_places, among_first, eqb_swap, Shares, Machine, resident_at, machine_of, queued_slots, IsCache, if◌then◌else◌, IfSome, option_map, is_promoted, SmallEntry, remembering, left_by, entered, key_out, list_any}
use Rattle.clock2q_directory.specs.Index as known
use Rattle.clock2q_cache.proofs.WithKeys.{HaveKeys, have_later, paired, paired-cons}
use Rattle.clock2q_cache.proofs.Stored.{have_keys, hash-of-key}
use Rattle.clock2q_cache.proofs.Renewed.{last_entry, tail_key}
use Rattle.clock2q_cache.proofs.Indexed.{residents-paired}

-- the key at a place with the place, if it is one of these places
paired-at : {K : Type 0} (key : ℕ → Option K) (slot : ℕ) (ss : List ℕ) → HaveKeys key ss
    → find (λ (r : K × ℕ). r.1 == slot) (paired key ss) ≡ (if list_any (eqb slot) ss then option_map (λ k. (k, slot)) (key slot) else None)
paired-at key slot [] h = refl
paired-at {K} key slot (s ∷ ss) h =
    let k = h s (among_first s ss) in
    ap (λ (z : List (K × ℕ)). find (λ (r : K × ℕ). r.1 == slot) z) (paired-cons key s ss k.0 k.1)
    ∙ elim (cases_Bool (eqb slot s)) [
      | inl e ↦
          let same : s ≡ slot = sym (eqb-true slot s e) in
          let at : key slot ≡ Some k.0 = ap (λ z. key z) (sym same) ∙ k.1 in
          rw (e, eq-eqb s slot same, at) (ap (λ z. Some (k.0, z)) same)
      | inr e ↦ rw (e, eqb_swap slot s e) (paired-at key slot ss (have_later key s ss h))
    ]

-- whether Small's tail is evicted
pub key-out : {K : Type 0} (b : Bool) (o : Option (SmallEntry K)) → IfSome o (λ tail. b ≡ is_promoted tail.age) → key_out o ≡ (if b then None else option_map (λ tail. tail.key) o)
key-out b o at = grind arith

-- the hash stored with the oldest key is that of the key
oldest-hashed : {K : Type 0} (hash : K → ℕ) (o : Option (ℕ × K)) (p : Option K) (es : List (ℕ × K))
    → ◌≡◌ {A = ℕ} (elim o [ None ↦ 0 | Some e ↦ e.0 ]) (elim p [ None ↦ 0 | Some k ↦ hash k ]) → AllByRecursion (λ (e : ℕ × K). e.0 ≡ hash e.1) es
    → ◌≡◌ {A = ℕ} (elim (last_or o es) [ None ↦ 0 | Some e ↦ e.0 ]) (elim (last_or p (map (λ (e : ℕ × K). e.1) es)) [ None ↦ 0 | Some k ↦ hash k ])
oldest-hashed hash o p [] same all = same
oldest-hashed hash o p (e ∷ es) same all = oldest-hashed hash (Some e) (Some e.1) es all.0 all.1

module _ {K V : Type 0} {eq : K → K → Bool} {hash : K → ℕ} {shares : Shares} {q : QueueState} {h : Remembered K} {index : List (List (ℕ × ℕ))} {keys : KeyPlaces K V} {free : List ℕ} {room : ℕ}
    (laws : IsEquivalence eq) (kept : IsCache eq hash shares q h index keys free room) where
  abbrev m : Machine K V
  m = machine_of shares q keys.entries h.entries free

  have : HaveKeys (key_at keys.entries) (queued_slots q)
  have = have_keys keys.entries (queued_slots q) kept.stored.made

  resident-here : (slot : ℕ) → resident_at m slot ≡ (if list_any (eqb slot) (queued_slots q) then option_map (λ k. (k, slot)) (key_at keys.entries slot) else None)
  resident-here slot = ap (λ (z : List (K × ℕ)). find (λ (r : K × ℕ). r.1 == slot) z) (residents-paired laws kept) ∙ paired-at (key_at keys.entries) slot (queued_slots q) have

  -- the resident at a slot of the queues
  pub resident-there : (slot : ℕ) (k : K) → list_any (eqb slot) (queued_slots q) ≡ true → key_at keys.entries slot ≡ Some k → resident_at m slot ≡ Some (k, slot)
  resident-there slot k there at = resident-here slot ∙ rw (there, at) refl

  -- another slot has none
  pub resident-none : (slot : ℕ) → list_any (eqb slot) (queued_slots q) ≡ false → resident_at m slot ≡ None
  resident-none slot absent = resident-here slot ∙ rw absent refl

  -- the resident at a slot leaves
  pub left-resident : (p : Places) (slot : ℕ) {old : ℕ} {p' : Places} → list_any (eqb slot) (queued_slots q) ≡ true → hash_at keys.entries slot ≡ Some old
      → p' ≡ record p { index = known.left old slot p.index } → p' ≡ left_by hash (resident_at m slot) slot p
  left-resident p slot {old} there at indexed = grind (arith, have, hash-of-key, left_by, resident-there)

  -- the key of a resident goes into the history
  pub pushed-key : (p : Places) (slot : ℕ) (k : K) {old : ℕ} → key_at keys.entries slot ≡ Some k → hash_at keys.entries slot ≡ Some old
      → pushed_places h.limit old slot (oldest_hash (λ (e : ℕ × K). e.0) h.entries) p ≡ remembering hash k slot m p
  pushed-key p slot k {old} key_is hash_is =
      ap (λ z. pushed_places z old slot (oldest_hash (λ (e : ℕ × K). e.0) h.entries) p) kept.sized.remembers
      ∙ ap (λ z. pushed_places shares.history z slot (oldest_hash (λ (e : ℕ × K). e.0) h.entries) p) (hash-of-key hash keys.entries slot old k kept.stored.hashed hash_is key_is)
      ∙ ap (λ z. pushed_places shares.history (hash k) slot z p) (oldest-hashed hash None None h.entries refl kept.hashed)

  module _ (p : Places) (key : K) (slot : ℕ) (b : Bool) {hsh : ℕ} {p' : Places} (is : hsh ≡ hash key) where
    -- a key enters at a slot that has no resident
    pub entered-vacant : list_any (eqb slot) (queued_slots q) ≡ false → p' ≡ record p { index = known.entered b hsh slot p.index } → p' ≡ entered hash key slot b None m p
    entered-vacant absent indexed = grind (arith, resident-none)

    -- a key takes the slot of a resident, which leaves
    pub entered-renewed : {old : ℕ} → list_any (eqb slot) (queued_slots q) ≡ true → hash_at keys.entries slot ≡ Some old
        → p' ≡ record p { index = known.entered_from p.index b hsh slot (known.left old slot p.index) } → p' ≡ entered hash key slot b None m p
    entered-renewed {old} there at indexed = grind (arith, have, hash-of-key, left_by, resident-there)

    -- a key takes the slot of Small's tail, whose key goes into the history
    pub entered-evicting : {key_out : K} {old : ℕ} → last_or None (slots_of q.small) ≡ Some slot → key_at keys.entries slot ≡ Some key_out → hash_at keys.entries slot ≡ Some old
        → (let r = pushed_places h.limit old slot (oldest_hash (λ (e : ℕ × K). e.0) h.entries) p in p' ≡ record r { index = known.entered_from p.index b hsh slot r.index })
        → p' ≡ entered hash key slot b (option_map (λ (e : SmallEntry K). e.key) (last_or None m.small)) m p
    entered-evicting {key_out} {old} last key_is hash_is indexed =
        let out : option_map (λ (e : SmallEntry K). e.key) (last_or None m.small) ≡ Some key_out =
        ap (λ o. option_map (λ (e : SmallEntry K). e.key) o) (last_entry laws kept slot last) ∙ sym (tail_key laws kept slot last).1 ∙ key_is in
        indexed ∙ ap (λ (r : Places). record r { index = known.entered_from p.index b hsh slot r.index }) (pushed-key p slot key_out key_is hash_is)
        ∙ ap (λ x. let r = remembering hash key_out slot m p in record r { index = known.entered_from p.index b x slot r.index }) is
        ∙ ap (λ o. entered hash key slot b o m p) (sym out)

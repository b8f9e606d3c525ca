-- Which slots have a resident, and what a cache's fields become when one of them leaves.
use Rattle.clock2q_cache.proofs.Names.{◌≡◌, ℕ, ◌+◌, ◌<◌, ◌≤◌, ◌==◌, Bool, true, not, eqb, Option, Some, None, List, [], ◌∷◌, ◌++◌, map, length, reverse, inl, inr, refl, sym, ap, ◌∙◌, subst, arith, eq-eqb, length-filter, count_by-le-length, length-values, is_some, IsSome, IfSome, IsEquivalence, option_map, filter, find, count_by, cases_Bool, both_ways, slots_of-filter, some_is, filter-append, without_handle, without, KeyPlaces, hash_at, key_at, QueueState, slots_of, without_slot, Remembered, below_of, length-taken, Shares, Machine, residents, resident_at, resident_count, slot_of, vacated, SmallEntry, MainEntry, append-nil, IsWhole, machine_of, queued_slots, with_keys_small, with_keys_main, IsStored, IsCache, whole-vacated, list_any}
use Rattle.clock2q_cache.proofs.WithKeys.{standing-keyed, small-without, main-without}
use Rattle.clock2q_cache.proofs.Stored.{stored-left, have_keys}
use Rattle.clock2q_cache.proofs.Slots.{small_have, main_have, apart, times-some, times-both}
use Rattle.clock2q_cache.proofs.Finding.{key-compares, at-slot, slot-at}
use Rattle.clock2q_cache.proofs.Places.{resident-there, resident-none}
use Rattle.clock2q_cache.proofs.CacheInvariant.{index_some, sized-same}

-- a key that is found is at its slot
pub found-resident : {K V : Type 0} (is : K → Bool) (m : Machine K V) (slot : ℕ) → slot_of is m ≡ Some slot → IsSome (resident_at m slot)
found-resident {K} {V} is m slot found = among (residents m) found
  where
    among : (rs : List (K × ℕ)) → option_map (λ (r : K × ℕ). r.1) (find (λ r. is r.0) rs) ≡ Some slot → is_some (find (λ (r : K × ℕ). r.1 == slot) rs) ≡ true
    among [] e = absurd (cc)
    among (r ∷ rs) e = elim (cases_Bool (eqb r.1 slot)) [
      | inl at ↦ rw at refl
      | inr at ↦ elim (cases_Bool (is r.0)) [
        | inl t ↦ absurd (both_ways (eqb r.1 slot) at (eq-eqb r.1 slot (some_is r.1 slot (rw t at e))))
        | inr f ↦ rw at (among rs (rw f at e))
      ]
    ]

-- fewer entries are left if there was one at the slot
module _ {K X : Type 0} (at : X → K × ℕ) (slot : ℕ) where
  not-more : (es : List X) → length (filter (λ e. not ((at e).1 == slot)) es) ≤ length es
  not-more es = omega (arith, length-filter (λ e. not ((at e).1 == slot)) es, count_by-le-length (λ e. not ((at e).1 == slot)) es)

  fewer : (es : List X) (rs : List (K × ℕ)) (left all : ℕ) → left ≤ all → (is_some (find (λ (r : K × ℕ). r.1 == slot) rs) ≡ true → left + 1 ≤ all)
      → is_some (find (λ (r : K × ℕ). r.1 == slot) (map at es ++ rs)) ≡ true → length (filter (λ e. not ((at e).1 == slot)) es) + left + 1 ≤ length es + all
  fewer [] rs left all within last there = omega (arith, last there)
  fewer (e ∷ es) rs left all within last there = elim (cases_Bool (eqb (at e).1 slot)) [
    | inl i ↦ rw i (omega (arith, not-more es, within))
    | inr i ↦ rw i (omega (arith, fewer es rs left all within last (rw i at there)))
  ]

pub fewer-residents : {K V : Type 0} (m : Machine K V) (slot : ℕ) → IsSome (resident_at m slot) → resident_count (vacated slot m) + 1 ≤ resident_count m
fewer-residents {K} {V} m slot there =
    let in-main : MainEntry K → K × ℕ = λ e. (e.key, e.slot) in
    fewer (λ (e : SmallEntry K). (e.key, e.slot)) slot m.small (map in-main m.main) (length (filter (λ e. not (e.slot == slot)) m.main)) (length m.main)
    (not-more in-main slot m.main)
    (λ some. omega (arith, fewer in-main slot m.main [] 0 0 (omega arith) (λ no. absurd (cc)) (rw (append-nil (map in-main m.main)) some))) there

module _ {K V : Type 0} {eq : K → K → Bool} {hash : K → ℕ} {shares : Shares} {q : QueueState} {h : Remembered K} {index : List (List (ℕ × ℕ))} {keys : KeyPlaces K V} {free : List ℕ} {room : ℕ}
    (laws : IsEquivalence eq) (kept : IsCache eq hash shares q h index keys free room) where
  abbrev m : Machine K V
  m = machine_of shares q keys.entries h.entries free

  -- a slot has a resident if it is in a queue
  pub resident-some : (t : ℕ) → is_some (resident_at m t) ≡ list_any (eqb t) (queued_slots q)
  resident-some t = elim (cases_Bool (list_any (eqb t) (queued_slots q))) [
    | inl g ↦ let k = have_keys keys.entries (queued_slots q) kept.stored.made t g in ap (λ (z : Option (K × ℕ)). is_some z) (resident-there laws kept t k.0 g k.1) ∙ sym g
    | inr g ↦ ap (λ (z : Option (K × ℕ)). is_some z) (resident-none laws kept t g) ∙ sym g
  ]

  module _ (slot : ℕ) (there : IsSome (resident_at m slot)) where
    pub slot-used : list_any (eqb slot) (queued_slots q) ≡ true
    slot-used = sym (resident-some slot) ∙ there

    pub slot-made : slot < length keys.entries
    slot-made = below_of (length keys.entries) (queued_slots q) kept.stored.made slot slot-used

    pub slot-in : slot < q.slots
    slot-in = omega (arith, slot-made, kept.sized.as_many, kept.whole.made_within, length-values keys.entries)

    pub resident-key : (k : K) → key_at keys.entries slot ≡ Some k → resident_at m slot ≡ Some (k, slot)
    resident-key k at = resident-there laws kept slot k slot-used at

    pub own-key : (k : K) × (key_at keys.entries slot ≡ Some k)
    own-key = have_keys keys.entries (queued_slots q) kept.stored.made slot slot-used

    pub own-resident : resident_at m slot ≡ Some (own-key.0, slot)
    own-resident = resident-key own-key.0 own-key.1

    pub own-slot : slot_of (eq own-key.0) m ≡ Some slot
    own-slot = slot-at laws kept own-key.0 slot
        (at-slot laws kept own-key.0 slot ∙ rw (slot-used, key-compares keys.entries eq own-key.0 slot own-key.0 own-key.1, laws.refl own-key.0) refl)

    standing-counted : 0 < count_by (λ e. e.slot == slot) m.small + count_by (λ e. e.slot == slot) m.main
    standing-counted = omega (
      arith,
      times-some slot (queued_slots q) slot-used,
      times-both slot q,
      standing-keyed (key_at keys.entries) slot q.small q.main (small_have laws kept) (main_have laws kept),
    )

    -- the resident leaves
    module _ (q' : QueueState) (index' : List (List (ℕ × ℕ))) (free' : List ℕ) (room' old : ℕ) (small : q'.small ≡ without_slot slot q.small)
        (main : q'.main ≡ without_slot slot q.main) (freed : reverse free' ≡ slot ∷ reverse free) where
      pub vacated-machine : machine_of shares q' keys.entries h.entries free' ≡ vacated slot m
      vacated-machine =
          let s : with_keys_small (key_at keys.entries) q'.small ≡ filter (λ e. not (e.slot == slot)) m.small =
          ap (λ z. with_keys_small (key_at keys.entries) z) small ∙ small-without (key_at keys.entries) slot q.small (small_have laws kept) in
          let t : with_keys_main (key_at keys.entries) q'.main ≡ filter (λ e. not (e.slot == slot)) m.main =
          ap (λ z. with_keys_main (key_at keys.entries) z) main ∙ main-without (key_at keys.entries) slot q.main (main_have laws kept) in
          cc

      pub kept-vacated : hash_at keys.entries slot ≡ Some old → index' ≡ without_handle eqb index old slot
          → q'.slots ≡ q.slots → q'.made ≡ q.made → q'.window ≡ q.window → room' ≡ room → IsCache eq hash shares q' h index' keys free' room'
      kept-vacated at out slots made window free_room = record {
        whole = subst (IsWhole eq) (sym vacated-machine) (whole-vacated eq m kept.whole slot standing-counted);
        stored = subst (λ z. IsStored hash z keys.entries (queued_slots q')) (sym out) (subst (λ z. IsStored hash (without_handle eqb index old slot) keys.entries z) (sym places)
            (stored-left hash index keys.entries (queued_slots q) slot old kept.stored (index_some laws kept) (apart laws kept) at));
        hashed = kept.hashed;
        linked = omega (arith, made, kept.linked);
        sized =
            sized-same kept.sized slots window refl refl
            (ap (λ (z : List (List (ℕ × ℕ))). length z) out ∙ length-taken index old slot) refl free_room;
      }
        where
          places : queued_slots q' ≡ without slot (queued_slots q)
          places = ap (λ z. slots_of z ++ slots_of q'.main) small ∙ ap (λ z. z ++ slots_of q'.main) (slots_of-filter slot q.small)
              ∙ ap (λ z. without slot (slots_of q.small) ++ slots_of z) main ∙ ap (λ z. without slot (slots_of q.small) ++ z) (slots_of-filter slot q.main)
              ∙ sym (filter-append (λ t. not (eqb t slot)) (slots_of q.small) (slots_of q.main))

  -- a resident's key is found at its slot
  pub own-slots : (slot : ℕ) → IfSome (resident_at m slot) (λ r. slot_of (eq r.0) m ≡ Some slot)
  own-slots slot = of (resident_at m slot) refl where
    of : (o : Option (K × ℕ)) → resident_at m slot ≡ o → IfSome o (λ r. slot_of (eq r.0) m ≡ Some slot)
    of None none = tt
    of (Some r) some =
        let there : IsSome (resident_at m slot) = rw some refl in
        ap (λ (z : K × ℕ). slot_of (eq z.0) m) (some_is r ((own-key slot there).0, slot) (sym some ∙ own-resident slot there)) ∙ own-slot slot there

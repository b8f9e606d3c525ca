-- Which resident leaves next, and what a cache's fields become when it leaves though no key comes.
use Rattle.clock2q_cache.proofs.Names.{◌≡◌, ℕ, suc, ◌+◌, ◌-◌, ◌<◌, ◌==◌, Bool, true, false, not, ◌&&◌, cond, eqb, Option, Some, None, List, [], ◌∷◌, ◌++◌, map, length, take, reverse, inl, inr, refl, sym, ap, ◌∙◌, subst, arith, eq-eqb, eqb-true, length-append, if◌then◌else◌, nat_lt, none_is, slice_get, slice_get_some, IfSome, IsEquivalence, last_or, option_map, AllByRecursion, cases_Bool, lt-ltb, ltb-true, Age, take-map, All-from_recursion, recursion_from_All, All-take, without, among-without_test, and_true, and_false, eqb_swap, KeyPlaces, hash_at, key_at, without_handle, length-taken, QueueState, slots_of, from_victim, inspections_of, counts_of, Spends, Remembered, most_beside, Shares, SmallEntry, Machine, is_promoted, IsWhole, machine_of, queued_slots, with_keys_small, with_keys_main, IsStored, IsCache, list_any, length-reverse, length-without, Rises, inspections, first_of, behind_hand, tail_evicted, victim_evicted, victim_leaves, keeps_tail, leaves_now, whole-tail, empty_small, tail_some, Evict, lasting-after}
use Rattle.clock2q_machine.specs.Entries as machine
use Rattle.clock2q_queues.specs.Queues as queues
use Rattle.clock2q_cache.proofs.WithKeys.{main-behind, main-inspections}
use Rattle.clock2q_cache.proofs.Stored.{stored-left, stored-same, hash-of-key}
use Rattle.clock2q_cache.proofs.Slots.{main_have, apart, times, times-none, times-both, times-pushed, among-times, at_most_once, length-places, length-swept}
use Rattle.clock2q_cache.proofs.CacheInvariant.{length_in_small, length_in_main, index_some, sized-same}
use Rattle.clock2q_cache.proofs.Renewed.{front_times, length-front, front_entries, front, tail_at, tail_key, tail_entry, last_entry, tail_is, tail-in, no-tail, rest, rest_times, length-rest, victim_entry, others, choice, victim-in, victim-leaves}

-- Who leaves next.

module _ {K V : Type 0} (m : Machine K V) where
  pub leaves-some : victim_leaves m ≡ true → 0 < length m.main
  leaves-some leaves = grind (arith, ltb-true)

-- what isn't some is none
pub no-other : {X : Type 0} (o : Option X) → ((x : X) → o ≡ Some x → ⊥) → None ≡ o
no-other o other = grind arith

-- The fields.

module _ {K V : Type 0} {eq : K → K → Bool} {hash : K → ℕ} {shares : Shares} {q : QueueState} {h : Remembered K} {index : List (List (ℕ × ℕ))} {keys : KeyPlaces K V} {free : List ℕ} {room : ℕ}
    (laws : IsEquivalence eq) (kept : IsCache eq hash shares q h index keys free room) where
  abbrev m : Machine K V
  m = machine_of shares q keys.entries h.entries free

  -- Small is empty
  module _ (none : last_or None (slots_of q.small) ≡ None) where
    no_slots : (ss : List (ℕ × Age)) → last_or None (slots_of ss) ≡ None → ss ≡ []
    no_slots [] none = refl
    no_slots (s ∷ ss) none = absurd (no-tail (s ∷ ss) (omega arith) (sym none))

    small_empty : q.small ≡ []
    small_empty = no_slots q.small none

    pub last_none : last_or None m.small ≡ None
    last_none = ap (λ (z : List (ℕ × Age)). last_or None (with_keys_small (key_at keys.entries) z)) small_empty

    taken : take (length q.small - 1) q.small ≡ q.small
    taken = ap (λ (z : List (ℕ × Age)). take (length z - 1) z) small_empty ∙ sym small_empty

    module _ {q' : QueueState} {links : ℕ} (is : q' ≡ record q { small = take (length q.small - 1) q.small; accesses = links }) where
      unmoved-machine : machine_of shares q' keys.entries h.entries free ≡ m
      unmoved-machine = grind (arith, taken)

      pub unretired-machine : machine_of shares q' keys.entries h.entries free ≡ tail_evicted (last_or None m.small) m
      unretired-machine = unmoved-machine ∙ ap (λ t. tail_evicted t m) (sym last_none)

      pub kept-unmoved : IsCache eq hash shares q' h index keys free room
      kept-unmoved = rw (is, taken) (record { whole = kept.whole; stored = kept.stored; hashed = kept.hashed; linked = kept.linked; sized = sized-same kept.sized refl refl refl refl refl refl refl })

  -- a slot left the queues, which may have the others in another order
  stored-gone : (slot old : ℕ) (q' : QueueState) → hash_at keys.entries slot ≡ Some old → list_any (eqb slot) (queued_slots q) ≡ true
      → ((t : ℕ) → times t (queued_slots q) ≡ times t (queued_slots q') + cond (slot == t) 1 0) → suc (length q'.small + length q'.main) ≡ length q.small + length q.main
      → IsStored hash (without_handle eqb index old slot) keys.entries (queued_slots q')
  stored-gone slot old q' at there as_often as_many =
      stored-same hash (without_handle eqb index old slot) keys.entries (without slot (queued_slots q)) (queued_slots q')
      (stored-left hash index keys.entries (queued_slots q) slot old kept.stored (index_some laws kept) (apart laws kept) at) others
      (omega (arith, length-places q', length-places q, as_many, length-without slot (queued_slots q) (apart laws kept) there))
    where
      others : (t : ℕ) → list_any (eqb t) (queued_slots q') ≡ list_any (eqb t) (without slot (queued_slots q))
      others t = elim (cases_Bool (eqb t slot)) [
        | inl same ↦
            times-none t (queued_slots q') (omega (arith, as_often t, ap {B = ℕ} (λ b. cond b 1 0) (eq-eqb slot t (sym (eqb-true t slot same))), at_most_once laws kept t))
            ∙ sym (among-without_test t slot (queued_slots q) ∙ ap (λ b. list_any (eqb t) (queued_slots q) && not b) same ∙ and_false (list_any (eqb t) (queued_slots q)))
        | inr other ↦
            among-times t (queued_slots q') (queued_slots q) (omega (arith, as_often t, ap {B = ℕ} (λ b. cond b 1 0) (eqb_swap t slot other)))
            ∙ sym (among-without_test t slot (queued_slots q) ∙ ap (λ b. list_any (eqb t) (queued_slots q) && not b) other ∙ and_true (list_any (eqb t) (queued_slots q)))
      ]

  abbrev gone : Option (SmallEntry K) → Machine K V
  gone t = victim_evicted t (machine.from_victim m.main) m

  -- the machine once Main's victim has left, and that the fields keep it
  pub record IsGone (q' : QueueState) (index' : List (List (ℕ × ℕ))) (free' : List ℕ) (room' : ℕ) : Type 0 where
    pub machine : machine_of shares q' keys.entries h.entries free' ≡ gone (last_or None m.small)
    pub holds : IsCache eq hash shares q' h index' keys free' room'

  -- Main's victim leaves its slot, which is free then
  module _ (slot : ℕ) (first : slice_get (from_victim q.main) 0 ≡ Some (slot, false)) where
    pub victim-first : (k : K) → key_at keys.entries slot ≡ Some k → first_of (machine.from_victim m.main) ≡ Some (k, slot)
    victim-first k at = victim-leaves laws kept slot first k at

    module _ {old : ℕ} {index' : List (List (ℕ × ℕ))} {free' : List ℕ} {room' : ℕ} (at : hash_at keys.entries slot ≡ Some old) (out : index' ≡ without_handle eqb index old slot)
        (freed : reverse free' ≡ slot ∷ reverse free) (free_room : room' ≡ room) (leaves : victim_leaves m ≡ true) where
      is-gone : (q' : QueueState) → machine_of shares q' keys.entries h.entries free' ≡ gone (last_or None m.small)
          → ((t : ℕ) → times t (queued_slots q) ≡ times t (queued_slots q') + cond (slot == t) 1 0) → suc (length q'.small + length q'.main) ≡ length q.small + length q.main
          → q'.slots ≡ q.slots → q'.made ≡ q.made → q'.window ≡ q.window → IsGone q' index' free' room'
      is-gone q' is as_often as_many slots made window = record {
        machine = is;
        holds = record {
          whole = subst (IsWhole eq) (ap (λ b. if b then gone (last_or None m.small) else tail_evicted (last_or None m.small) m) leaves ∙ sym is) (lasting-after eq laws Evict m kept.whole);
          stored = rw out (stored-gone slot old q' at (victim-in laws kept slot first) as_often as_many);
          hashed = kept.hashed;
          linked = omega (arith, made, kept.linked);
          sized = sized-same kept.sized slots window refl refl (ap (λ (z : List (List (ℕ × ℕ))). length z) out ∙ length-taken index old slot) refl free_room;
        };
      }

      -- Small's tail goes to the end of Main
      pub gone-promoting : (tail : ℕ) (last : last_or None (slots_of q.small) ≡ Some tail) {q' : QueueState} {links looks : ℕ}
          → q' ≡ record q { small = front laws kept tail last; main = rest laws kept slot first ++ (tail, false) ∷ []; accesses = links; inspections = looks } → IsGone q' index' free' room'
      gone-promoting tail last {links = links} {looks} is =
          let q1 : QueueState = record q { small = front laws kept tail last; main = rest laws kept slot first ++ (tail, false) ∷ []; accesses = links; inspections = looks } in
          let k = tail_key laws kept tail last in
          let s : with_keys_small (key_at keys.entries) q1.small ≡ take (length m.small - 1) m.small = front_entries laws kept tail last in
          let t : with_keys_main (key_at keys.entries) q1.main ≡ behind_hand k.0 tail (others laws kept slot first) = main-behind (key_at keys.entries) tail k.0 (rest laws kept slot first) k.1 in
          let e : machine_of shares q1 keys.entries h.entries free' ≡ victim_evicted (Some (tail_entry laws kept tail last)) (victim_entry laws kept slot first ∷ others laws kept slot first) m = cc in
          rw is (is-gone q1
          (e ∙ sym (ap (λ t. gone t) (last_entry laws kept tail last) ∙ ap (λ es. victim_evicted (Some (tail_entry laws kept tail last)) es m) (choice laws kept slot first)))
          (λ t. omega (arith, times-both t q1, times-both t q, times-pushed t (rest laws kept slot first) (tail, false), front_times laws kept tail last t, rest_times laws kept slot first t))
          (omega (arith, length-front laws kept tail last, length-append (rest laws kept slot first) ((tail, false) ∷ []), length-rest laws kept slot first)) refl refl refl)

      -- or there is none
      pub gone-alone : (none : last_or None (slots_of q.small) ≡ None) {q' : QueueState} {links looks : ℕ}
          → q' ≡ record q { small = take (length q.small - 1) q.small; main = rest laws kept slot first; accesses = links; inspections = looks } → IsGone q' index' free' room'
      gone-alone none {links = links} {looks} is =
          let q1 : QueueState = record q { main = rest laws kept slot first; accesses = links; inspections = looks } in
          let e : machine_of shares q1 keys.entries h.entries free' ≡ victim_evicted None (victim_entry laws kept slot first ∷ others laws kept slot first) m = cc in
          rw (is, taken none) (is-gone q1
          (e ∙ sym (ap (λ t. gone t) (last_none none) ∙ ap (λ es. victim_evicted None es m) (choice laws kept slot first)))
          (λ t. omega (arith, times-both t q1, times-both t q, rest_times laws kept slot first t))
          (omega (arith, length-rest laws kept slot first)) refl refl refl)

  -- there is room for the tail's slot among the free ones
  pub room-for-free : (tail : ℕ) → last_or None (slots_of q.small) ≡ Some tail → length free < room
  room-for-free tail last = omega (
    arith,
    kept.whole.slots_counted,
    kept.whole.made_within,
    kept.sized.room_for_free,
    length-reverse free,
    length_in_small laws kept,
    length-front laws kept tail last,
  )

  -- Small's tail, with its key
  pub tail-entry : (tail : ℕ) → last_or None (slots_of q.small) ≡ Some tail → (key : K) → key_at keys.entries tail ≡ Some key
      → ◌≡◌ {A = Option (K × ℕ)} (Some (key, tail)) (option_map (λ (t : SmallEntry K). (t.key, t.slot)) (last_or None m.small))
  tail-entry tail last key key_is =
      sym (ap (option_map (λ (t : SmallEntry K). (t.key, t.slot))) (last_entry laws kept tail last)
      ∙ ap (λ k. let r : Option (K × ℕ) = Some (k, tail) in r) (tail_is laws kept tail last key key_is))

  -- Small's tail leaves, and is remembered
  module _ (tail : ℕ) (last : last_or None (slots_of q.small) ≡ Some tail) (q' : QueueState) (h' : Remembered K) (free' : List ℕ) (links old : ℕ) (key : K)
      (is : q' ≡ record q { small = front laws kept tail last; accesses = links }) (at : hash_at keys.entries tail ≡ Some old) (key_is : key_at keys.entries tail ≡ Some key)
      (pushed : h' ≡ record h { entries = take h.limit ((old, key) ∷ h.entries); places = h'.places; accesses = h'.accesses }) (freed : reverse free' ≡ tail ∷ reverse free) where
    abbrev q1 : QueueState
    q1 = record q { small = front laws kept tail last; accesses = links }

    abbrev entries1 : List (ℕ × K)
    entries1 = take h.limit ((old, key) ∷ h.entries)

    retired-is : machine_of shares q1 keys.entries entries1 free' ≡ tail_evicted (Some (tail_entry laws kept tail last)) m
    retired-is =
        let s : with_keys_small (key_at keys.entries) (front laws kept tail last) ≡ take (length m.small - 1) m.small = front_entries laws kept tail last in
        let r : map (λ (e : ℕ × K). e.1) entries1 ≡ take shares.history ((tail_key laws kept tail last).0 ∷ m.history) =
        sym (take-map (λ (e : ℕ × K). e.1) h.limit ((old, key) ∷ h.entries)) ∙ ap (λ n. take n (key ∷ m.history)) kept.sized.remembers
        ∙ ap (λ z. take shares.history (z ∷ m.history)) (sym (tail_is laws kept tail last key key_is)) in
        cc

    pub retired-machine : machine_of shares q' keys.entries h'.entries free' ≡ tail_evicted (last_or None m.small) m
    retired-machine = grind (arith, retired-is, last_entry)

    pub kept-retired : {index' : List (List (ℕ × ℕ))} {room' : ℕ} → index' ≡ without_handle eqb index old tail → most_beside h' ≡ most_beside h → room' ≡ room
        → IsCache eq hash shares q' h' index' keys free' room'
    kept-retired {index'} {room'} out beside free_room =
        record {
          whole = subst (IsWhole eq) (sym retired-machine) (whole-tail eq m kept.whole (last_or None m.small) refl);
          stored = rw (out, is) (stored-gone tail old q1 at (tail-in laws kept tail last) (λ t. omega (arith, times-both t q1, times-both t q, front_times laws kept tail last t))
              (omega (arith, length-front laws kept tail last)));
          hashed = subst (λ (z : Remembered K). AllByRecursion (λ e. e.0 ≡ hash e.1) z.entries) (sym pushed)
              (recursion_from_All (λ e. e.0 ≡ hash e.1) entries1 (All-take (λ e. e.0 ≡ hash e.1) h.limit ((old, key) ∷ h.entries)
              (All-from_recursion (λ e. e.0 ≡ hash e.1) ((old, key) ∷ h.entries) (hash-of-key hash keys.entries tail old key kept.stored.hashed at key_is, kept.hashed))));
          linked = omega (arith, ap (λ (z : QueueState). z.made) is, kept.linked);
          sized = sized-same kept.sized (ap (λ (z : QueueState). z.slots) is) (ap (λ (z : QueueState). z.window) is) (ap (λ (z : Remembered K). z.limit) pushed) beside
              (ap (λ (z : List (List (ℕ × ℕ))). length z) out ∙ length-taken index old tail) refl free_room;
        }

  -- the queues and the machine choose alike
  keeps_same : queues.keeps_tail (last_or None q.small) ≡ keeps_tail (last_or None m.small)
  keeps_same = by (last_or None (slots_of q.small)) refl where
    by : (t : Option ℕ) → last_or None (slots_of q.small) ≡ t → queues.keeps_tail (last_or None q.small) ≡ keeps_tail (last_or None m.small)
    by None none = ap (λ (z : List (ℕ × Age)). queues.keeps_tail (last_or None z)) (small_empty none) ∙ sym (ap keeps_tail (last_none none))
    by (Some tail) last = ap queues.keeps_tail (tail_at laws kept tail last).1 ∙ sym (ap keeps_tail (last_entry laws kept tail last))

  pub leaves_same : queues.victim_leaves q ≡ victim_leaves m
  leaves_same = ap (λ n. nat_lt 0 n && queues.keeps_tail (last_or None q.small)) (sym (length_in_main laws kept)) ∙ ap (λ b. nat_lt 0 (length m.main) && b) keeps_same

  -- the queues look at no more than that
  looks-most : queues.looks_ahead q ≡ 1 + inspections_of eq Evict m
  looks-most =
      ap (λ b. 1 + (if b then inspections q.main else 0)) leaves_same
      ∙ ap (λ n. 1 + (if victim_leaves m then n else 0)) (sym (main-inspections (key_at keys.entries) q.main (main_have laws kept)))

  -- the fields after a look ahead
  module _ {q' : QueueState} {links : ℕ} (is : q' ≡ record q { accesses = links }) where
    pub looked-machine : machine_of shares q' keys.entries h.entries free ≡ m
    looked-machine = ap (λ (z : QueueState). machine_of shares z keys.entries h.entries free) is

    pub kept-looked : IsCache eq hash shares q' h index keys free room
    kept-looked = rw is (record { whole = kept.whole; stored = kept.stored; hashed = kept.hashed; linked = kept.linked; sized = sized-same kept.sized refl refl refl refl refl refl refl })

    pub looked-spends : Rises 0 (queues.looks_ahead q) q.accesses q'.accesses → Spends 0 (1 + inspections_of eq Evict m) 0 (counts_of q h keys) (counts_of q' h keys)
    looked-spends links =
        let most = looks-most in
        record { inspections = ap (λ (z : QueueState). z.inspections) is ∙ (omega arith); accesses = (omega (arith, links.0), omega (arith, links.1, most)); comparisons = (omega arith, omega arith) }

  leaves_by : (b : Bool) → queues.victim_leaves q ≡ b → leaves_now m ≡ (if b then first_of (machine.from_victim m.main) else option_map (λ tail. (tail.key, tail.slot)) (last_or None m.small))
  leaves_by b is = ap (λ z. if z then first_of (machine.from_victim m.main) else option_map (λ tail. (tail.key, tail.slot)) (last_or None m.small)) (sym leaves_same ∙ is)

  -- what the queues name as the slot that leaves next
  pub record IsNext (slot : Option ℕ) : Type 0 where
    pub tail : queues.victim_leaves q ≡ false → slot ≡ last_or None (slots_of q.small)
    pub victim : queues.victim_leaves q ≡ true → slice_get (from_victim q.main) 0 ≡ option_map (λ s. (s, false)) slot

  -- nothing, if there is no resident
  pub next-none : IsNext None → None ≡ leaves_now m
  next-none next = by (queues.victim_leaves q) refl where
    by : (b : Bool) → queues.victim_leaves q ≡ b → None ≡ leaves_now m
    by true stays =
        let some : 0 < length q.main = omega (arith, leaves-some m (sym leaves_same ∙ stays), length_in_main laws kept) in
        let first = slice_get_some (from_victim q.main) 0 (omega (arith, some, length-swept q.main)) in
        absurd (none_is first.0 (sym (next.victim stays) ∙ first.1))
    by false leaves = sym (leaves_by false leaves ∙ ap (option_map (λ tail. (tail.key, tail.slot))) (last_none (sym (next.tail leaves))))

  module _ (slot : ℕ) (next : IsNext (Some slot)) where
    -- a resident's slot
    pub next-in : list_any (eqb slot) (queued_slots q) ≡ true
    next-in = by (queues.victim_leaves q) refl where
      by : (b : Bool) → queues.victim_leaves q ≡ b → list_any (eqb slot) (queued_slots q) ≡ true
      by true stays = victim-in laws kept slot (next.victim stays)
      by false leaves = tail-in laws kept slot (sym (next.tail leaves))

    -- and that is the resident
    pub next-leaves : (k : K) → key_at keys.entries slot ≡ Some k → Some (k, slot) ≡ leaves_now m
    next-leaves k key = by (queues.victim_leaves q) refl where
      by : (b : Bool) → queues.victim_leaves q ≡ b → Some (k, slot) ≡ leaves_now m
      by true stays = sym (leaves_by true stays ∙ victim-leaves laws kept slot (next.victim stays) k key)
      by false leaves = tail-entry slot (sym (next.tail leaves)) k key ∙ sym (leaves_by false leaves)

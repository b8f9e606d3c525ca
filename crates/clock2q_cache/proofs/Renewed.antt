-- A key that takes the slot of another: of Main's victim, or of Small's tail.
use Rattle.clock2q_cache.proofs.Names.{◌≡◌, ℕ, suc, ◌+◌, ◌-◌, ◌^◌, ◌<◌, ◌≤◌, ◌==◌, Bool, true, false, cond, eqb, Option, Some, None, List, [], ◌∷◌, ◌++◌, map, length, take, drop, refl, sym, ap, ◌∙◌, subst, arith, eq-eqb, length-append, length-written, Entry, Known, slots, key_at-own, key_at-others, values-written, length-values, if◌then◌else◌, slice_get, IfSome, IsEquivalence, last_or, AllByRecursion, take-map, length-map, take-append-drop, slots_of-append, slots_of-mapped, sum_by-append, total, with_handle, without_handle, Age, is_promoted, KeyPlaces, entry, hash_at, key_at, admitted, set_front, from_victim, QueueState, slots_of, Remembered, is_remembered, most_beside, list_any-append, eqb_self, among_first, below_of, length-put, length-taken, Shares, main_share, SmallEntry, MainEntry, Machine, Placement, vacancy, into_main, into_small, into_small_at, joining_main, replacing_victim, evicting_tail, promoting_tail, stored, known_count, machine_of, queued_slots, with_keys_small, with_keys_main, IsStored, IsCache, Writes, IsPlaced, some_is, placed-replacing, placed-evicting, placed-promoting, weight-last, All-from_recursion, recursion_from_All, All-take, tail_promoted, list_any, IsResident, IsWithinRoom, first_of, leaves_placed}
use Rattle.clock2q_cache.proofs.Changed.{known-any}
use Rattle.clock2q_cache.proofs.Finding.{none-has, counted-map}
use Rattle.clock2q_cache.proofs.Insertions.{no_last}
use Rattle.clock2q_machine.specs.Entries as machine
use Rattle.clock2q_cache.proofs.WithKeys.{keys-cons, small-admitted, main-behind, small_with, main_with, keys-agree, small-take, small-last, main-from_victim}
use Rattle.clock2q_cache.proofs.Stored.{stored-renewed, hash-of-key}
use Rattle.clock2q_cache.proofs.Slots.{small_have, main_have, apart, times, times-cons, times-none, among-times, times-both, times-pushed, times-admitted, length-admitted, stored-moved, at_most_once, length-places, length-swept}
use Rattle.clock2q_cache.proofs.CacheInvariant.{length_in_small, length_in_main, index_some, IsDone, placed-done, sized-same}

-- Lists

first-is : {X : Type 0} (xs : List X) (x : X) → slice_get xs 0 ≡ Some x → xs ≡ x ∷ drop 1 xs
first-is xs x h = grind arith

last-slot : {X : Type 0} (o : Option (ℕ × X)) (p : Option ℕ) (xs : List (ℕ × X)) (t : ℕ)
    → (p ≡ Some t → (x : X) × (o ≡ Some (t, x))) → last_or p (slots_of xs) ≡ Some t → (x : X) × (last_or o xs ≡ Some (t, x))
last-slot o p [] t first h = first h
last-slot o p (y ∷ xs) t first h = last-slot (Some y) (Some y.0) xs t (λ e. (y.1, ap (λ z. Some (z, y.1)) (some_is y.0 t e))) h

pub tail-there : {X : Type 0} (xs : List (ℕ × X)) (t : ℕ) → last_or None (slots_of xs) ≡ Some t → (x : X) × (last_or None xs ≡ Some (t, x))
tail-there xs t h = last-slot None None xs t (λ e. absurd (cc)) h

pub times-split : (t n : ℕ) (main : List (ℕ × Bool)) → times t (slots_of (drop n main ++ map {B = ℕ × Bool} (λ (e : ℕ × Bool). (e.0, false)) (take n main))) ≡ times t (slots_of main)
times-split t n main =
    let front = map {B = ℕ × Bool} (λ (e : ℕ × Bool). (e.0, false)) (take n main) in
    omega (
      arith,
      ap (times t) (slots_of-append (drop n main) front ∙ ap (λ z. slots_of (drop n main) ++ z) (slots_of-mapped (λ b. false) (take n main))),
      sum_by-append (λ s. cond (s == t) 1 0) (slots_of (drop n main)) (slots_of (take n main)),
      sum_by-append (λ s. cond (s == t) 1 0) (slots_of (take n main)) (slots_of (drop n main)),
      ap (times t) (sym (slots_of-append (take n main) (drop n main)) ∙ ap (λ (z : List (ℕ × Bool)). slots_of z) (take-append-drop n main)),
    )

some-last : {X : Type 0} (xs : List X) (x : X) → last_or None xs ≡ Some x → 0 < length xs
some-last [] x e = absurd (cc)
some-last (y ∷ xs) x e = omega arith

pub no-tail : {X : Type 0} (xs : List (ℕ × X)) → 0 < length xs → None ≡ last_or None (slots_of xs) → ⊥
no-tail xs some none = no_last (slots_of xs) (omega (arith, some, length-map xs (λ e. e.0))) (sym none)

module _ {K V : Type 0} {eq : K → K → Bool} {hash : K → ℕ} {shares : Shares} {q : QueueState} {h : Remembered K} {index : List (List (ℕ × ℕ))} {keys : KeyPlaces K V} {free : List ℕ} {room : ℕ}
    (laws : IsEquivalence eq) (kept : IsCache eq hash shares q h index keys free room) where
  abbrev m : Machine K V
  m = machine_of shares q keys.entries h.entries free

  once_at : (t : ℕ) → times t (slots_of q.small) + times t (slots_of q.main) ≤ 1
  once_at t = omega (arith, at_most_once laws kept t, times-both t q)

  -- a resident's slot was made, and is below the capacity
  pub slot-below : (slot : ℕ) → list_any (eqb slot) (queued_slots q) ≡ true → (slot < length keys.entries) × (slot < shares.capacity) × (slot < 2 ^ 24)
  slot-below slot there = grind (arith, below_of (length keys.entries) (queued_slots q) kept.stored.made, kept.whole.made_within, length-values, kept.sized.short)

  -- Main's victim
  module _ (victim : ℕ) (first : slice_get (from_victim q.main) 0 ≡ Some (victim, false)) where
    abbrev pub rest : List (ℕ × Bool)
    rest = drop 1 (from_victim q.main)

    swept : from_victim q.main ≡ (victim, false) ∷ rest
    swept = first-is (from_victim q.main) (victim, false) first

    pub rest_times : (t : ℕ) → times t (slots_of q.main) ≡ cond (victim == t) 1 0 + times t (slots_of rest)
    rest_times t = sym (times-split t (set_front q.main) q.main) ∙ ap (λ z. times t (slots_of z)) swept ∙ times-cons t victim (slots_of rest)

    victim_times : times victim (slots_of q.main) ≡ 1 + times victim (slots_of rest)
    victim_times = omega (arith, rest_times victim, ap {B = ℕ} (λ b. cond b 1 0) (eqb_self victim))

    pub victim-there : list_any (eqb victim) (slots_of q.main) ≡ true
    victim-there = among-times victim (slots_of q.main) (victim ∷ slots_of rest) (rest_times victim ∙ sym (times-cons victim victim (slots_of rest))) ∙ among_first victim (slots_of rest)

    pub victim-not_in_rest : list_any (eqb victim) (slots_of rest) ≡ false
    victim-not_in_rest = times-none victim (slots_of rest) (omega (arith, victim_times, once_at victim))

    pub victim-not_in_small : list_any (eqb victim) (slots_of q.small) ≡ false
    victim-not_in_small = times-none victim (slots_of q.small) (omega (arith, victim_times, once_at victim))

    pub victim-in : list_any (eqb victim) (queued_slots q) ≡ true
    victim-in = list_any-append (eqb victim) (slots_of q.small) (slots_of q.main) ∙ rw (victim-not_in_small, victim-there) refl

    pub length-rest : suc (length rest) ≡ length q.main
    length-rest = sym (ap (λ (z : List (ℕ × Bool)). length z) swept) ∙ length-swept q.main

    pub victim_key : (k : K) × (key_at keys.entries victim ≡ Some k)
    victim_key = main_have laws kept victim victim-there

    abbrev pub victim_entry : MainEntry K
    victim_entry = record { key = victim_key.0; slot = victim; bit = false }

    abbrev pub others : List (MainEntry K)
    others = with_keys_main (key_at keys.entries) rest

    pub choice : machine.from_victim m.main ≡ victim_entry ∷ others
    choice = main-from_victim (key_at keys.entries) q.main (main_have laws kept)
        ∙ ap (λ z. with_keys_main (key_at keys.entries) z) swept ∙ keys-cons main_with (key_at keys.entries) (victim, false) rest victim_key.0 victim_key.1

    -- the resident that leaves is the one at its slot
    pub victim-leaves : (k : K) → key_at keys.entries victim ≡ Some k → first_of (machine.from_victim m.main) ≡ Some (k, victim)
    victim-leaves k is = ap first_of choice ∙ ap (λ z. Some (z, victim)) (some_is victim_key.0 k (sym victim_key.1 ∙ is))

  -- Small's tail
  module _ (tail : ℕ) (last : last_or None (slots_of q.small) ≡ Some tail) where
    pub tail_at : (x : Age) × (last_or None q.small ≡ Some (tail, x))
    tail_at = tail-there q.small tail last

    abbrev pub front : List (ℕ × Age)
    front = take (length q.small - 1) q.small

    pub front_times : (t : ℕ) → times t (slots_of q.small) ≡ times t (slots_of front) + cond (tail == t) 1 0
    front_times t = grind (arith, weight-last, tail_at, some-last, counted-map, front)

    tail_times : times tail (slots_of q.small) ≡ times tail (slots_of front) + 1
    tail_times = omega (arith, front_times tail, ap {B = ℕ} (λ b. cond b 1 0) (eqb_self tail))

    tail-there_in_small : list_any (eqb tail) (slots_of q.small) ≡ true
    tail-there_in_small = among-times tail (slots_of q.small) (tail ∷ slots_of front) (omega (arith, front_times tail, times-cons tail tail (slots_of front))) ∙ among_first tail (slots_of front)

    pub tail-in : list_any (eqb tail) (queued_slots q) ≡ true
    tail-in = list_any-append (eqb tail) (slots_of q.small) (slots_of q.main) ∙ rw tail-there_in_small refl

    pub tail-not_in_front : list_any (eqb tail) (slots_of front) ≡ false
    tail-not_in_front = times-none tail (slots_of front) (omega (arith, tail_times, once_at tail))

    pub tail-not_in_main : list_any (eqb tail) (slots_of q.main) ≡ false
    tail-not_in_main = times-none tail (slots_of q.main) (omega (arith, tail_times, once_at tail))

    -- beside Main's victim
    module _ (victim : ℕ) (first : slice_get (from_victim q.main) 0 ≡ Some (victim, false)) where
      pub victim-not_in_front : list_any (eqb victim) (slots_of front) ≡ false
      victim-not_in_front = times-none victim (slots_of front) (omega (arith, front_times victim, victim_times victim first, once_at victim))

      pub tail-not_in_rest : list_any (eqb tail) (slots_of (rest victim first)) ≡ false
      tail-not_in_rest = times-none tail (slots_of (rest victim first)) (omega (arith, rest_times victim first tail, tail_times, once_at tail))

      pub victim-not_behind : list_any (eqb victim) (slots_of (rest victim first ++ (tail, false) ∷ [])) ≡ false
      victim-not_behind = times-none victim (slots_of (rest victim first ++ (tail, false) ∷ []))
          (omega (arith, times-pushed victim (rest victim first) (tail, false), front_times victim, victim_times victim first, once_at victim))

    pub length-front : suc (length front) ≡ length q.small
    length-front = omega (arith, (weight-last (λ e. 0) None q.small (tail, tail_at.0) (some-last q.small (tail, tail_at.0) tail_at.1) tail_at.1).1)

    pub tail_key : (k : K) × (key_at keys.entries tail ≡ Some k)
    tail_key = small_have laws kept tail tail-there_in_small

    abbrev pub tail_entry : SmallEntry K
    tail_entry = record { key = tail_key.0; slot = tail; age = tail_at.0 }

    pub last_entry : last_or None m.small ≡ Some tail_entry
    last_entry = small-last (key_at keys.entries) q.small (tail, tail_at.0) tail_key.0 (small_have laws kept) tail_at.1 tail_key.1

    pub small_some : 0 < length m.small
    small_some = omega (arith, length_in_small laws kept, length-front)

    pub front_entries : with_keys_small (key_at keys.entries) front ≡ take (length m.small - 1) m.small
    front_entries = small-take (key_at keys.entries) (length q.small - 1) q.small (small_have laws kept)
        ∙ ap (λ n. take (n - 1) m.small) (sym (length_in_small laws kept))

    -- it is the key that was at the tail
    pub tail_is : (old_key : K) → key_at keys.entries tail ≡ Some old_key → tail_key.0 ≡ old_key
    tail_is old_key key_is = some_is tail_key.0 old_key (sym tail_key.1 ∙ key_is)

    -- and it has no history
    pub tail-unremembered : (old_key : K) → key_at keys.entries tail ≡ Some old_key → is_remembered eq old_key h.entries ≡ false
    tail-unremembered old_key key_is =
        let w = (weight-last (λ (e : SmallEntry K). cond (eq old_key e.key) 1 0) None m.small tail_entry small_some last_entry).0 in
        let own : cond (eq old_key tail_key.0) 1 0 ≡ 1 =
        ap {B = ℕ} (λ b. cond b 1 0) (subst (λ z. eq old_key z ≡ true) (sym (tail_is old_key key_is)) (laws.refl old_key)) in
        known-any (eq old_key) h.entries ∙ none-has (eq old_key) m.history (omega (arith, kept.whole.keys_once old_key, w, own))

    -- who leaves for a key that enters a full Small
    pub leaves-by : vacancy m ≡ None → (b : Bool) → IfSome (last_or None m.small) (λ tail. is_promoted tail.age ≡ b)
        → leaves_placed false m ≡ (if b then first_of (machine.from_victim m.main) else Some (tail_key.0, tail))
    leaves-by none b at = grind (arith, last_entry, first_of)

    -- where a key then goes
    abbrev onto : K → Bool → Placement K V
    onto key b = if b then promoting_tail key tail_entry (machine.from_victim m.main) m else evicting_tail key tail_entry m

    into-tail : (key : K) → vacancy m ≡ None → into_small key m ≡ onto key (is_promoted tail_at.0)
    into-tail key none = ap (λ z. into_small_at key z (last_or None m.small) m) none ∙ ap (λ z. into_small_at key None z m) last_entry

  -- whether Small's tail moves on
  pub tail-promotes : 0 < length m.small → (b : Bool) → b ≡ tail_promoted (last_or None q.small) → IfSome (last_or None m.small) (λ tail. b ≡ is_promoted tail.age)
  tail-promotes some b is = of (last_or None (slots_of q.small)) refl
    where
      of : (o : Option ℕ) → last_or None (slots_of q.small) ≡ o → IfSome (last_or None m.small) (λ tail. b ≡ is_promoted tail.age)
      of None none = absurd (no-tail q.small (omega (arith, some, length_in_small laws kept)) (sym none))
      of (Some tail) last = rw (last_entry tail last) (is ∙ ap (λ z. tail_promoted z) (tail_at tail last).1)

  -- a key takes a resident's slot
  module _ {key : K} {value : Option V} {hsh slot old n : ℕ} {index' : List (List (ℕ × ℕ))} {keys' : KeyPlaces K V} (is : hsh ≡ hash key) (absent : known_count (eq key) m ≡ 0)
      (there : list_any (eqb slot) (queued_slots q) ≡ true) (at : hash_at keys.entries slot ≡ Some old) (indexed : index' ≡ with_handle (without_handle eqb index old slot) hsh slot)
      (w : Writes hsh key value slot keys.entries keys'.entries) (renewed : keys' ≡ record keys { entries = keys'.entries; writes = n }) where
    next : slot ≤ length keys.entries
    next = omega (arith, (slot-below slot there).0)

    same_places : IsStored hash index' keys'.entries (queued_slots q)
    same_places = rw (indexed, w.becomes, is) (stored-renewed hash index keys.entries (queued_slots q) slot old key w.held kept.stored (index_some laws kept) (apart laws kept) there at)

    own : key_at keys'.entries slot ≡ Some key
    own = rw w.becomes (key_at-own slot hsh key w.held keys.entries next)

    others_keep : (places : List ℕ) → list_any (eqb slot) places ≡ false → (t : ℕ) → list_any (eqb t) places ≡ true → key_at keys'.entries t ≡ key_at keys.entries t
    others_keep = rw w.becomes (key_at-others slot hsh key w.held keys.entries next)

    small_other : (es : List (ℕ × Age)) → list_any (eqb slot) (slots_of es) ≡ false → with_keys_small (key_at keys'.entries) es ≡ with_keys_small (key_at keys.entries) es
    small_other es none = keys-agree small_with (key_at keys.entries) (key_at keys'.entries) es (others_keep (slots_of es) none)

    main_other : (es : List (ℕ × Bool)) → list_any (eqb slot) (slots_of es) ≡ false → with_keys_main (key_at keys'.entries) es ≡ with_keys_main (key_at keys.entries) es
    main_other es none = keys-agree main_with (key_at keys.entries) (key_at keys'.entries) es (others_keep (slots_of es) none)

    values : map (λ e. e.value) keys'.entries ≡ (stored slot w.held m).values
    values = rw w.becomes (values-written slot (entry hsh key w.held) keys.entries next)

    done : {p : Placement K V} {h' : Remembered K} (q' : QueueState) → IsPlaced key m p → slot ≡ p.slot → q'.slots ≡ q.slots → q'.made ≡ q.made → q'.window ≡ q.window
        → h'.limit ≡ h.limit → most_beside h' ≡ most_beside h → machine_of shares q' keys'.entries h'.entries free ≡ stored p.slot w.held p.machine → AllByRecursion (λ e. e.0 ≡ hash e.1) h'.entries
        → ((t : ℕ) → times t (queued_slots q') ≡ times t (queued_slots q)) → length q'.small + length q'.main ≡ length q.small + length q.main
        → IsDone laws kept slot value p q' h' index' keys' free room
    done q' placed own_slot slots made window limit beside e hashed as_often as_many =
        placed-done laws kept absent placed w own_slot e (stored-moved q' same_places as_often (as_many ∙ sym (length-places q))) hashed
        (omega (arith, ap (λ (z : List (Entry K V)). length z) w.becomes, length-written slot (entry hsh key w.held) keys.entries next, (slot-below slot there).0, kept.linked, made))
        (sized-same kept.sized slots window limit beside
        (ap (λ (z : List (List (ℕ × ℕ))). length z) indexed ∙ length-put (without_handle eqb index old slot) hsh slot ∙ length-taken index old slot)
        (ap (λ (z : KeyPlaces K V). z.room) renewed) refl)

    -- Small without its tail, and with the key
    small_joined : (tail : ℕ) (last : last_or None (slots_of q.small) ≡ Some tail) → list_any (eqb slot) (slots_of (front tail last)) ≡ false
        → with_keys_small (key_at keys'.entries) (admitted q.window slot (front tail last)) ≡ machine.small_admitted shares.window key slot (take (length m.small - 1) m.small)
    small_joined tail last none = small-admitted (key_at keys'.entries) q.window slot key (front tail last) own
        ∙ ap (λ z. machine.small_admitted q.window key slot z) (small_other (front tail last) none ∙ front_entries tail last)
        ∙ ap (λ z. machine.small_admitted z key slot (take (length m.small - 1) m.small)) kept.sized.window

    -- a key takes the slot of Main's victim, and goes to the end of Main
    pub replaced-done : {q' : QueueState} {looks : ℕ} (first : slice_get (from_victim q.main) 0 ≡ Some (slot, false)) → length m.main ≡ main_share shares
        → q' ≡ record q { main = rest slot first ++ (slot, false) ∷ []; accesses = q'.accesses; inspections = looks }
        → IsDone laws kept slot value (into_main key m) q' h index' keys' free room
    replaced-done {q'} {looks} first full queues =
        let q1 : QueueState = record q { main = rest slot first ++ (slot, false) ∷ []; accesses = q'.accesses; inspections = looks } in
        let t : with_keys_main (key_at keys'.entries) q1.main ≡ machine.behind_hand key slot (others slot first) =
        main-behind (key_at keys'.entries) slot key (rest slot first) own ∙ ap (λ z. machine.behind_hand key slot z) (main_other (rest slot first) (victim-not_in_rest slot first)) in
        let p = replacing_victim key (victim_entry slot first ∷ others slot first) m in
        let e : machine_of shares q1 keys'.entries h.entries free ≡ stored p.slot w.held p.machine = cc (small_other q.small (victim-not_in_small slot first), values) in
        let is_p : into_main key m ≡ p =
        ap (λ b. if b then replacing_victim key (machine.from_victim m.main) m else joining_main key (vacancy m) m) (eq-eqb (length m.main) (main_share shares) full)
        ∙ ap (λ z. replacing_victim key z m) (choice slot first) in
        rw queues (subst (λ z. IsDone laws kept slot value z q1 h index' keys' free room) (sym is_p)
        (done q1 (placed-replacing eq m kept.whole key (victim_entry slot first) (others slot first) (choice slot first)) refl refl refl refl refl refl e kept.hashed
        (λ u. omega (arith, times-both u q1, times-pushed u (rest slot first) (slot, false), rest_times slot first u, times-both u q))
        (omega (arith, length-append (rest slot first) ((slot, false) ∷ []), length-rest slot first))))

    -- a key takes the slot of Small's tail, whose key is evicted
    pub evicted-done : {q' : QueueState} {h' : Remembered K} {old_key : K} (last : last_or None (slots_of q.small) ≡ Some slot) → key_at keys.entries slot ≡ Some old_key
        → vacancy m ≡ None → IfSome (last_or None m.small) (λ tail. is_promoted tail.age ≡ false)
        → q' ≡ record q { small = admitted q.window slot (front slot last); accesses = q'.accesses }
        → h' ≡ record h { entries = take h.limit ((old, old_key) ∷ h.entries); places = h'.places; accesses = h'.accesses } → most_beside h' ≡ most_beside h
        → IsDone laws kept slot value (into_small key m) q' h' index' keys' free room
    evicted-done {q'} {h'} {old_key} last key_is none out queues pushed beside_is =
        let q1 : QueueState = record q { small = admitted q.window slot (front slot last); accesses = q'.accesses } in
        let h1 : Remembered K = record h { entries = take h.limit ((old, old_key) ∷ h.entries); places = h'.places; accesses = h'.accesses } in
        let beside : most_beside h1 ≡ most_beside h = sym (ap (λ (z : Remembered K). most_beside z) pushed) ∙ beside_is in
        let r : map (λ (e : ℕ × K). e.1) h1.entries ≡ take shares.history ((tail_key slot last).0 ∷ m.history) =
        sym (take-map (λ (e : ℕ × K). e.1) h.limit ((old, old_key) ∷ h.entries)) ∙ ap (λ n. take n (old_key ∷ m.history)) kept.sized.remembers
        ∙ ap (λ z. take shares.history (z ∷ m.history)) (sym (tail_is slot last old_key key_is)) in
        let p = evicting_tail key (tail_entry slot last) m in
        let e : machine_of shares q1 keys'.entries h1.entries free ≡ stored p.slot w.held p.machine =
        cc (small_joined slot last (tail-not_in_front slot last), main_other q.main (tail-not_in_main slot last), values) in
        let out' : is_promoted (tail_at slot last).0 ≡ false = subst (λ z. IfSome z (λ tail. is_promoted tail.age ≡ false)) (last_entry slot last) out in
        rw (queues, pushed) (subst (λ z. IsDone laws kept slot value z q1 h1 index' keys' free room) (sym (into-tail slot last key none ∙ ap (λ b. onto slot last key b) out'))
        (done q1 (placed-evicting eq m kept.whole key (tail_entry slot last) (last_entry slot last) (small_some slot last)) refl refl refl refl refl beside e
        (recursion_from_All (λ e. e.0 ≡ hash e.1) h1.entries (All-take (λ e. e.0 ≡ hash e.1) h.limit ((old, old_key) ∷ h.entries)
        (All-from_recursion (λ e. e.0 ≡ hash e.1) ((old, old_key) ∷ h.entries) (hash-of-key hash keys.entries slot old old_key kept.stored.hashed at key_is, kept.hashed))))
        (λ u. omega (arith, times-both u q1, times-admitted u q.window slot (front slot last), front_times slot last u, times-both u q))
        (omega (arith, length-admitted q.window slot (front slot last), length-front slot last))))

    -- a key takes the slot of Main's victim, while Small's tail goes to the end of Main
    pub promoted-done : {q' : QueueState} {tail looks : ℕ} (last : last_or None (slots_of q.small) ≡ Some tail) (first : slice_get (from_victim q.main) 0 ≡ Some (slot, false))
        → vacancy m ≡ None → IfSome (last_or None m.small) (λ tail. is_promoted tail.age ≡ true)
        → q' ≡ record q { small = admitted q.window slot (front tail last); main = rest slot first ++ (tail, false) ∷ []; accesses = q'.accesses; inspections = looks }
        → IsDone laws kept slot value (into_small key m) q' h index' keys' free room
    promoted-done {q'} {tail} {looks} last first none on queues =
        let q1 : QueueState = record q { small = admitted q.window slot (front tail last); main = rest slot first ++ (tail, false) ∷ []; accesses = q'.accesses; inspections = looks } in
        let tail_kept : key_at keys'.entries tail ≡ Some (tail_key tail last).0 =
        others_keep (slots_of q.small) (victim-not_in_small slot first) tail (tail-there_in_small tail last) ∙ (tail_key tail last).1 in
        let t : with_keys_main (key_at keys'.entries) q1.main ≡ machine.behind_hand (tail_key tail last).0 tail (others slot first) =
        main-behind (key_at keys'.entries) tail (tail_key tail last).0 (rest slot first) tail_kept
        ∙ ap (λ z. machine.behind_hand (tail_key tail last).0 tail z) (main_other (rest slot first) (victim-not_in_rest slot first)) in
        let p = promoting_tail key (tail_entry tail last) (victim_entry slot first ∷ others slot first) m in
        let e : machine_of shares q1 keys'.entries h.entries free ≡ stored p.slot w.held p.machine = cc (small_joined tail last (victim-not_in_front tail last slot first), values) in
        let on' : is_promoted (tail_at tail last).0 ≡ true = subst (λ z. IfSome z (λ tail. is_promoted tail.age ≡ true)) (last_entry tail last) on in
        let is_p = into-tail tail last key none ∙ ap (λ b. onto tail last key b) on' ∙ ap (λ z. promoting_tail key (tail_entry tail last) z m) (choice slot first) in
        rw queues (subst (λ z. IsDone laws kept slot value z q1 h index' keys' free room) (sym is_p)
        (done q1 (placed-promoting eq m kept.whole key (tail_entry tail last) (last_entry tail last) (small_some tail last) (victim_entry slot first) (others slot first) (choice slot first))
        refl refl refl refl refl refl e kept.hashed
        (λ u. omega (
          arith,
          times-both u q1,
          times-both u q,
          times-admitted u q.window slot (front tail last),
          times-pushed u (rest slot first) (tail, false),
          front_times tail last u,
          rest_times slot first u,
        ))
        (omega (arith, length-admitted q.window slot (front tail last), length-front tail last, length-append (rest slot first) ((tail, false) ∷ []), length-rest slot first))))

-- what the directory requires of a resident's slot
module _ {K V : Type 0} {eq : K → K → Bool} {hash : K → ℕ} {shares : Shares} {q : QueueState} (d : Known K V) {free : List ℕ} {room : ℕ}
    (laws : IsEquivalence eq) (kept : IsCache eq hash shares q d.history (slots d.history.places.index) d.residents free room) where
  pub is-resident : (slot : ℕ) → list_any (eqb slot) (queued_slots q) ≡ true → IsResident slot d
  is-resident slot there =
      let below = slot-below laws kept slot there in
      record { taken = queued_slots q; indexed = kept.stored.indexed; apart = apart laws kept; there = there; made = below.0; below = below.2 }

  pub within-room : IsWithinRoom d.history
  within-room =
      let few : total (slots d.history.places.index) ≤ shares.capacity =
      omega (arith, kept.stored.indexed.counted, length-places q, length_in_small laws kept, length_in_main laws kept, kept.whole.small_within, kept.whole.main_within, kept.whole.small_below) in
      record { room = omega (arith, few, kept.sized.spacious); few = omega (arith, few, kept.sized.few) }

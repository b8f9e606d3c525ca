-- A cache's fields keep their invariant after each change of the layers, and the machine becomes what it should.
use Rattle.clock2q_cache.proofs.Names.{◌≡◌, ℕ, suc, ◌+◌, ◌^◌, ◌<◌, ◌≤◌, Bool, true, false, Option, Some, None, List, [], ◌∷◌, ◌++◌, map, length, drop, reverse, refl, sym, ap, ◌∙◌, ◌↔◌, arith, length-append, eqb, option_to_list, unwrap_or, Entry, length-written, made_below, key_at-own, key_at-others, values-written, length-values, IfNone, IsSome, IsEquivalence, last_or, AllByRecursion, total, capacity, with_handle, KeyPlaces, entry, written, key_at, admitted, QueueState, slots_of, IndexState, is_shared, slots, Remembered, most_beside, list_any-append, length-put, or_parts, Shares, main_share, Machine, Placement, vacancy, vacant_slot, into_main, into_small, into_small_at, joining_main, into_queue, stored, known_count, Fills, Writes, machine_of, queued_slots, with_keys_small, with_keys_main, IsStored, IsSized, IsCache, IsPlaced, whole-stored, placed-admitted, placed-joining, slots-entered, slots-left, without_handle, left, list_any, reverse-append, append-nil}
use Rattle.clock2q_directory.specs.Index as known
use Rattle.clock2q_machine.specs.Entries as machine
use Rattle.clock2q_cache.proofs.WithKeys.{small-admitted, main-behind, small_with, main_with, keys-agree, length-small, length-main}
use Rattle.clock2q_cache.proofs.Stored.{stored-entered}
use Rattle.clock2q_cache.proofs.Slots.{times, times-cons, times-both, times-pushed, times-admitted, length-admitted, stored-moved, vacant, vacancy-taken, vacancy-there, small_have, main_have, length-places}

-- a history in which only the index changed
pub record IsReindexed {K : Type 0} (h h' : Remembered K) : Type 0 where
  pub entries : h'.entries ≡ h.entries
  pub limit : h'.limit ≡ h.limit
  pub beside : most_beside h' ≡ most_beside h

module _ {K : Type 0} (h : Remembered K) {h' : Remembered K} {index : IndexState} (is : h' ≡ record h { places = record h.places { index = index } }) where
  -- if the places are in the same table as before
  pub reindexed : is_shared index ≡ is_shared h.places.index → IsReindexed h h'
  reindexed shared = grind arith

  -- the slots are then those of the new index
  pub now-slots : {homes : List (List (ℕ × ℕ))} → slots index ≡ homes → slots h'.places.index ≡ homes
  now-slots same = ap (λ (z : Remembered K). slots z.places.index) is ∙ same

-- the slots after one replaced another
pub slots-renewed : {K : Type 0} (h : Remembered K) {h' : Remembered K} (old hsh : ℕ) (b : Bool) {slot : ℕ}
    → h' ≡ record h { places = record h.places { index = known.entered_from h.places.index b hsh slot (left old slot h.places.index) } } → slot < 2 ^ 24
    → slots h'.places.index ≡ with_handle (without_handle eqb (slots h.places.index) old slot) hsh slot
slots-renewed h old hsh b {slot} is below = now-slots h is (slots-entered (left old slot h.places.index) hsh slot (omega (arith, below))
    ∙ ap (λ z. with_handle z hsh slot) (slots-left h.places.index old slot (omega (arith, below))))

-- the layers are as large as before
pub sized-same : {shares : Shares} {q q' : QueueState} {limit limit' beside beside' homes homes' keys_room keys_room' free_room free_room' : ℕ}
    → IsSized shares q limit beside homes keys_room free_room → q'.slots ≡ q.slots → q'.window ≡ q.window → limit' ≡ limit → beside' ≡ beside → homes' ≡ homes
    → keys_room' ≡ keys_room → free_room' ≡ free_room → IsSized shares q' limit' beside' homes' keys_room' free_room'
sized-same s slots window limit beside homes keys_room free_room = grind arith

pub kept-reindexed : {K V : Type 0} {eq : K → K → Bool} {hash : K → ℕ} {shares : Shares} {q : QueueState} {h h' : Remembered K} {index : List (List (ℕ × ℕ))} {keys : KeyPlaces K V}
    {free : List ℕ} {room : ℕ} → IsReindexed h h' → IsCache eq hash shares q h index keys free room → IsCache eq hash shares q h' index keys free room
kept-reindexed moved kept = grind (arith, kept.whole, kept.stored, kept.hashed, kept.linked, sized-same, kept.sized)

-- the slot that a key takes is the last of the free ones, otherwise the next that was never made
picked : (free free' : List ℕ) (last : Option ℕ) (made : ℕ) → free ≡ free' ++ option_to_list last → (IsSome last ↔ (0 < length free)) → vacant_slot (reverse free) made (made + 1) ≡ Some (unwrap_or last made)
picked free free' (Some slot) made popped some = rw (popped, reverse-append free' (slot ∷ [])) refl
picked [] free' None made popped some = grind arith
picked (f ∷ fs) free' None made popped some = absurd (grind (arith, some.1))

pub left-free : (free free' : List ℕ) (last : Option ℕ) → free ≡ free' ++ option_to_list last → (IsSome last ↔ (0 < length free)) → reverse free' ≡ drop 1 (reverse free)
left-free free free' (Some slot) popped some = rw (popped, reverse-append free' (slot ∷ [])) refl
left-free [] free' None popped some = grind (arith, append-nil free')
left-free (f ∷ fs) free' None popped some = absurd (grind (arith, some.1))

module _ {K V : Type 0} {eq : K → K → Bool} {hash : K → ℕ} {shares : Shares} {q : QueueState} {h : Remembered K} {index : List (List (ℕ × ℕ))} {keys : KeyPlaces K V} {free : List ℕ} {room : ℕ}
    (laws : IsEquivalence eq) (kept : IsCache eq hash shares q h index keys free room) where
  abbrev pub m : Machine K V
  m = machine_of shares q keys.entries h.entries free

  pub length_in_small : length m.small ≡ length q.small
  length_in_small = length-small (key_at keys.entries) q.small (small_have laws kept)

  pub length_in_main : length m.main ≡ length q.main
  length_in_main = length-main (key_at keys.entries) q.main (main_have laws kept)

  pub index_some : 0 < length index
  index_some = omega (arith, kept.sized.spacious, kept.whole.small_below)

  -- a slot that a key that joins a queue may take
  pub record IsFree (slot : ℕ) : Type 0 where
    pub taken : vacancy m ≡ Some slot
    pub absent : list_any (eqb slot) (queued_slots q) ≡ false
    pub not_in_small : list_any (eqb slot) (slots_of q.small) ≡ false
    pub not_in_main : list_any (eqb slot) (slots_of q.main) ≡ false
    pub next : slot ≤ length keys.entries
    pub made : length keys.entries < 2 ^ 32
    pub below : slot < q.slots
    pub within : slot < keys.room
    pub short : slot < 2 ^ 24
    pub index_room : total index + most_beside h < capacity (length index)
    pub few : total index + most_beside h + 1 < 2 ^ 24

  -- the slot that is picked is free if a queue has room
  is-free : {slot made : ℕ} → made ≡ length keys.entries → vacant_slot (reverse free) made (made + 1) ≡ Some slot → length q.small + length q.main < shares.capacity → IsFree slot
  is-free {slot} is picked few =
      let taken = vacancy-taken laws kept slot (vacancy-there laws kept few) (rw (← is) picked) in
      let v = vacant laws kept slot taken in
      grind (arith, taken, v, or_parts, list_any-append (eqb slot) (slots_of q.small) (slots_of q.main), kept.whole.made_within, length-values keys.entries, kept.sized, kept.stored.indexed.counted, length-places q)

  pub free-to-join : (free' : List ℕ) {slot made : ℕ} (last : Option ℕ) (main : Bool) → free ≡ free' ++ option_to_list last → (IsSome last ↔ (0 < length free)) → made ≡ length keys.entries → slot ≡ unwrap_or last made
      → (main ≡ true → length m.main < main_share shares) → (main ≡ false → length m.small < shares.small) → IsFree slot
  free-to-join free' {slot} {made} last main popped any is taken room some =
      grind (arith, is-free is (picked free free' last made popped any ∙ ap Some (sym taken)), room, some, kept.whole, length_in_small, length_in_main)

  -- no link record is made for a slot that was made
  pub made-still : {slot : ℕ} → slot < length keys.entries → made_below (slot + 1) q.made ≡ q.made
  made-still there = omega (arith, there, kept.linked)

  -- a key that has its slot: the invariant still holds, and the machine is as it should be
  pub record IsDone (slot : ℕ) (value : Option V) (p : Placement K V) (q' : QueueState) (h' : Remembered K)
      (index' : List (List (ℕ × ℕ))) (keys' : KeyPlaces K V) (free' : List ℕ) (room' : ℕ) : Type 0 where
    pub holds : IsCache eq hash shares q' h' index' keys' free' room'
    pub fills : Fills value p m (machine_of shares q' keys'.entries h'.entries free')
    pub at : slot ≡ p.slot

  -- the same, after the index beside the history changed
  pub done-reindexed : {slot : ℕ} {value : Option V} {p : Placement K V} {q' : QueueState} {h1 h2 : Remembered K} {index' : List (List (ℕ × ℕ))} {keys' : KeyPlaces K V} {free' : List ℕ} {room' : ℕ}
      → IsReindexed h1 h2 → IsDone slot value p q' h1 index' keys' free' room' → IsDone slot value p q' h2 index' keys' free' room'
  done-reindexed moved d = grind (arith, kept-reindexed moved d.holds, moved.entries)

  -- a key that was not known is placed, and its slot has its value
  pub placed-done : {key : K} {value : Option V} {hsh slot : ℕ} {p : Placement K V} {q' : QueueState} {h' : Remembered K}
      {index' : List (List (ℕ × ℕ))} {keys' : KeyPlaces K V} {free' : List ℕ} {room' : ℕ}
      → known_count (eq key) m ≡ 0 → IsPlaced key m p → (w : Writes hsh key value slot keys.entries keys'.entries) → slot ≡ p.slot
      → machine_of shares q' keys'.entries h'.entries free' ≡ stored p.slot w.held p.machine
      → IsStored hash index' keys'.entries (queued_slots q') → AllByRecursion (λ e. e.0 ≡ hash e.1) h'.entries
      → length keys'.entries ≤ q'.made → IsSized shares q' h'.limit (most_beside h') (length index') keys'.room room' → IsDone slot value p q' h' index' keys' free' room'
  placed-done {key} absent placed w at is stored hashed linked sized = record {
    holds = record { whole = rw is (whole-stored eq m kept.whole laws key absent _ placed w.held); stored = stored; hashed = hashed; linked = linked; sized = sized };
    fills = grind (arith, w.is);
    at = at;
  }

  -- where a key that joins a queue goes
  into-small : {slot : ℕ} (key : K) → vacancy m ≡ Some slot → into_small key m ≡ into_small_at key (Some slot) None m
  into-small key taken = ap (λ v. into_small_at key v (last_or None m.small) m) taken

  into-main : {slot : ℕ} (key : K) → vacancy m ≡ Some slot → length m.main < main_share shares → into_main key m ≡ joining_main key (Some slot) m
  into-main key taken some = grind arith

  pub made-to-join : {slot : ℕ} (main : Bool) (key : K) (value : Option V) → vacancy m ≡ Some slot → (main ≡ true → length m.main < main_share shares)
      → IfNone value ((into_queue main key m).slot < length m.values) → IfNone value (slot < length keys.entries)
  made-to-join main key value taken some = grind (arith, into-small, into-main, length-values keys.entries)

  -- a key takes a free slot and joins a queue
  module _ {key : K} {value : Option V} {hsh slot n : ℕ} {index' : List (List (ℕ × ℕ))} {keys' : KeyPlaces K V} (f : IsFree slot) (is : hsh ≡ hash key) (absent : known_count (eq key) m ≡ 0)
      (indexed : index' ≡ with_handle index hsh slot) (w : Writes hsh key value slot keys.entries keys'.entries) (renewed : keys' ≡ record keys { entries = keys'.entries; writes = n }) where
    entered : IsStored hash index' keys'.entries (slot ∷ queued_slots q)
    entered = rw (indexed, w.becomes, is) (stored-entered hash index keys.entries (queued_slots q) slot key w.held kept.stored index_some f.absent f.next)

    own : key_at keys'.entries slot ≡ Some key
    own = rw w.becomes (key_at-own slot hsh key w.held keys.entries f.next)

    small_same : with_keys_small (key_at keys'.entries) q.small ≡ m.small
    small_same =
        grind (arith, w.becomes, keys-agree small_with (key_at keys.entries) (key_at keys'.entries) q.small, key_at-others slot hsh key w.held keys.entries f.next (slots_of q.small) f.not_in_small)

    main_same : with_keys_main (key_at keys'.entries) q.main ≡ m.main
    main_same = rw w.becomes (keys-agree main_with (key_at keys.entries) (key_at (written slot (entry hsh key w.held) keys.entries)) q.main
        (key_at-others slot hsh key w.held keys.entries f.next (slots_of q.main) f.not_in_main))

    values : map (λ e. e.value) keys'.entries ≡ (stored slot w.held m).values
    values = rw w.becomes (values-written slot (entry hsh key w.held) keys.entries f.next)

    done : {p : Placement K V} {room' : ℕ} (q' : QueueState) (free' : List ℕ) → IsPlaced key m p → slot ≡ p.slot → room' ≡ room → q'.slots ≡ q.slots → q'.made ≡ made_below (slot + 1) q.made → q'.window ≡ q.window
        → machine_of shares q' keys'.entries h.entries free' ≡ stored p.slot w.held p.machine
        → ((t : ℕ) → times t (queued_slots q') ≡ times t (slot ∷ queued_slots q)) → length q'.small + length q'.main ≡ suc (length q.small + length q.main)
        → IsDone slot value p q' h index' keys' free' room'
    done q' free' placed at free_room slots made window e as_often as_many =
        placed-done absent placed w at e (stored-moved q' entered as_often (as_many ∙ ap suc (sym (length-places q)))) kept.hashed
        (omega (arith, ap (λ (z : List (Entry K V)). length z) w.becomes, length-written slot (entry hsh key w.held) keys.entries f.next, kept.linked, made))
        (sized-same kept.sized slots window refl refl (ap (λ (z : List (List (ℕ × ℕ))). length z) indexed ∙ length-put index hsh slot) (ap (λ (z : KeyPlaces K V). z.room) renewed) free_room)

    pub small-done : {q' : QueueState} {free' : List ℕ} {room' : ℕ} → length m.small < shares.small → q' ≡ record q { small = admitted q.window slot q.small; made = made_below (slot + 1) q.made; accesses = q'.accesses }
        → reverse free' ≡ drop 1 (reverse free) → room' ≡ room → IsDone slot value (into_small key m) q' h index' keys' free' room'
    small-done {q'} {free'} {room'} some queues others free_room =
        let s : with_keys_small (key_at keys'.entries) (admitted q.window slot q.small) ≡ machine.small_admitted shares.window key slot m.small =
        grind (arith, small-admitted (key_at keys'.entries) q.window slot key q.small own, small_same, kept.sized.window) in
        let q1 : QueueState = record q { small = admitted q.window slot q.small; made = made_below (slot + 1) q.made; accesses = q'.accesses } in
        rw (queues, into-small key f.taken)
        (done q1 free' (placed-admitted eq m kept.whole key slot None f.taken some) refl free_room refl refl refl (cc (main_same, values))
        (λ t. omega (arith, times-both t q1, times-admitted t q.window slot q.small, times-cons t slot (queued_slots q), times-both t q))
        (omega (arith, length-admitted q.window slot q.small)))

    pub main-done : {q' : QueueState} {free' : List ℕ} {room' : ℕ} → length m.main < main_share shares → q' ≡ record q { main = q.main ++ (slot, false) ∷ []; made = made_below (slot + 1) q.made; accesses = q'.accesses }
        → reverse free' ≡ drop 1 (reverse free) → room' ≡ room → IsDone slot value (into_main key m) q' h index' keys' free' room'
    main-done {q'} {free'} {room'} some queues others free_room =
        let q1 : QueueState = record q { main = q.main ++ (slot, false) ∷ []; made = made_below (slot + 1) q.made; accesses = q'.accesses } in
        let t : with_keys_main (key_at keys'.entries) q1.main ≡ machine.behind_hand key slot m.main = grind (arith, main-behind (key_at keys'.entries) slot key q.main own, main_same) in
        rw (queues, into-main key f.taken some)
        (done q1 free' (placed-joining eq m kept.whole key slot f.taken some) refl free_room refl refl refl (cc (small_same, values))
        (λ t. omega (arith, times-both t q1, times-pushed t q.main (slot, false), times-cons t slot (queued_slots q), times-both t q))
        (omega (arith, length-append q.main ((slot, false) ∷ []))))

-- A Clock2Q+ cache whose Small has no share is CLOCK: on every trace the same keys hit, the same keys leave, and each key
-- has the same slot.
use Rattle.std.proofs.Common.{◌≡◌, ℕ, ◌+◌, ◌<◌, ◌==◌, Bool, true, false, eqb, List, [], ◌∷◌, ◌++◌, map, length, drop, Option, Some, None, refl, sym, ap, ◌∙◌, subst, arith, eqb-true}
use Rattle.std.specs.Prelude.{if◌then◌else◌, is_some, nat_lt, slice_get}
use Rattle.std.specs.Cmp.{nat_eq_equiv}
use Rattle.std.specs.Option.{option_map, option_and_then}
use Rattle.std.proofs.lemmas.Bool.{lt-ltb, le-ltb, eqb-false}
use Rattle.std.proofs.lemmas.List.{length-map, map-append}
use Rattle.clock2q_machine.specs.Shares.{Shares, main_share}
use Rattle.clock2q_machine.specs.Policies.{shares_of}
use Rattle.clock2q_machine.specs.Entries.{MainEntry, main_hit, first_of, from_victim, behind_hand}
use Rattle.clock2q_machine.specs.Calls.{Call, Put}
use Rattle.clock2q_machine.specs.Leaving.{leaver}
use Rattle.clock2q_machine.specs.Machine.{Machine, empty, hit, stored, inserted, replacing_victim, joining_main, slot_of, value_of, vacant_slot}
use Rattle.clock2q_machine.specs.Steps.{replaced_at, after_all}
use Rattle.clock2q_machine.specs.Whole.{IsWhole}
use Rattle.clock2q_machine.specs.Hits.{hits, outcomes}
use Rattle.clock2q_machine.specs.MachineHits.{machine_holds, machine_after}
use Rattle.clock2q_machine.specs.SecondChance.{is_on, marked, moved_on, joined, clock_after, clock_hits, clock_outcomes, first_key, clock_victim, passed, rotated, frames_after}
use Rattle.clock2q_machine.specs.SecondChance.{clock_ring_from, clock_frames_from, clock_ring, clock_frames}
use Rattle.clock2q_machine.proofs.Whole.{none_is, some_is}
use Rattle.clock2q_machine.proofs.Weights.{length-from_victim}
use Rattle.clock2q_machine.proofs.Residents.{slot_among}
use Rattle.clock2q_machine.proofs.MachineInvariant.{lasting-after, lasting-empty, resident_made}
use Rattle.clock2q_machine.proofs.Standing.{get-within}
use Rattle.clock2q_machine.proofs.Rings.{entry_of, ring_of, frames_of, victim_alike, frames_rotated, frames_hit, first_alike, marked_alike, found_alike}

module _ (capacity : ℕ) where
  abbrev without_small : Shares
  without_small = shares_of capacity 0 0

  -- a cache without Small: only Main and the values
  abbrev cache_of : List (MainEntry ℕ) → List (Unit {0}) → Machine ℕ (Unit {0})
  cache_of main values = record { shares = without_small; small = []; main = main; history = []; free = []; values = values }

  -- after an access to a key: again such a cache, whose ring and frames are those of CLOCK
  record GoesOn (key : ℕ) (main : List (MainEntry ℕ)) (n : Machine ℕ (Unit {0})) : Type 0 where
    now : List (MainEntry ℕ)
    stored_values : List (Unit {0})
    is_cache : n ≡ cache_of now stored_values
    is_ring : ring_of now ≡ clock_after capacity key (ring_of main)
    is_frames : frames_of now ≡ frames_after capacity key (ring_of main) (frames_of main)

  module _ (key : ℕ) (main : List (MainEntry ℕ)) (values : List (Unit {0})) (h : IsWhole eqb (cache_of main values)) where
    abbrev is_key : ℕ → Bool
    is_key = λ held. key == held

    found_in_main : is_some (slot_of is_key (cache_of main values)) ≡ is_on key (ring_of main)
    found_in_main = ap {B = Bool} is_some (slot_among is_key [] main) ∙ found_alike key main

    with_value : (o : Option ℕ) → slot_of is_key (cache_of main values) ≡ o → is_some (option_and_then (slice_get values) o) ≡ is_some o
    with_value None absent = refl
    with_value (Some slot) found =
        let v = get-within values slot (resident_made eqb nat_eq_equiv is_key (cache_of main values) h slot found) in
        ap {B = Bool} is_some v.1

    -- it hits the same keys
    holds_alike : is_some (value_of is_key (cache_of main values)) ≡ is_on key (ring_of main)
    holds_alike = with_value (slot_of is_key (cache_of main values)) refl ∙ found_in_main

    -- the frames if the key isn't there
    abbrev added : List ℕ
    added = if nat_lt (length (ring_of main)) capacity then frames_of main ++ length (frames_of main) ∷ [] else rotated 1 (rotated (passed (ring_of main)) (frames_of main))

    hit_alike : (slot : ℕ) → slot_of is_key (cache_of main values) ≡ Some slot → GoesOn key main (stored slot tt (hit is_key (cache_of main values)))
    hit_alike slot found = record {
      now = main_hit is_key main;
      stored_values = (stored slot tt (cache_of main values)).values;
      is_cache = refl;
      is_ring = marked_alike key main ∙ sym (ap (λ b. if b then marked key (ring_of main) else joined capacity key (ring_of main)) (sym found_in_main ∙ ap {B = Bool} is_some found));
      is_frames = frames_hit is_key main ∙ ap (λ b. if b then frames_of main else added) (sym (sym found_in_main ∙ ap {B = Bool} is_some found));
    }

    missed : slot_of is_key (cache_of main values) ≡ None → is_on key (ring_of main) ≡ false
    missed absent = sym found_in_main ∙ ap {B = Bool} is_some absent

    -- the key is added behind the others
    behind_alike : (slot : ℕ) (others : List (MainEntry ℕ)) → ring_of (behind_hand key slot others) ≡ ring_of others ++ (key, false) ∷ []
    behind_alike slot others = map-append entry_of others (record { key = key; slot = slot; bit = false } ∷ [])

    entered_full : slot_of is_key (cache_of main values) ≡ None → (length main == main_share without_small) ≡ true → (es : List (MainEntry ℕ)) → from_victim main ≡ es
        → let p = replacing_victim key es (cache_of main values) in GoesOn key main (stored p.slot tt p.machine)
    entered_full absent full [] choice =
        absurd (omega (arith, h.small_below, eqb-true (length main) (main_share without_small) full, ap (length {A = MainEntry ℕ}) choice, length-from_victim main))
    entered_full absent full (victim ∷ others) choice =
        let no_room : nat_lt (length (ring_of main)) capacity ≡ false =
        le-ltb (length (ring_of main)) capacity (omega (arith, eqb-true (length main) (main_share without_small) full, length-map main entry_of)) in
        record {
          now = behind_hand key victim.slot others;
          stored_values = (stored victim.slot tt (cache_of main values)).values;
          is_cache = refl;
          is_ring =
              behind_alike victim.slot others
              ∙ ap (λ ring. drop 1 ring ++ (key, false) ∷ []) (sym (victim_alike main ∙ ap ring_of choice))
              ∙ ap (λ b. (if b then ring_of main else drop 1 (moved_on (length (ring_of main)) (ring_of main))) ++ (key, false) ∷ []) (sym no_room)
              ∙ ap (λ b. if b then marked key (ring_of main) else joined capacity key (ring_of main)) (sym (missed absent));
          is_frames =
              map-append (λ (e : MainEntry ℕ). e.slot) others (record { key = key; slot = victim.slot; bit = false } ∷ [])
              ∙ ap (rotated 1) (sym (ap frames_of choice) ∙ frames_rotated main)
              ∙ ap (λ b. if b then frames_of main ++ length (frames_of main) ∷ [] else rotated 1 (rotated (passed (ring_of main)) (frames_of main))) (sym no_room)
              ∙ ap (λ b. if b then frames_of main else added) (sym (missed absent));
        }

    -- the next slot that was never made
    next_slot : (slot : ℕ) → length main < capacity → vacant_slot [] (length values) capacity ≡ Some slot → slot ≡ length (frames_of main)
    next_slot slot room vacant =
        let made : length values < capacity = omega (arith, h.slots_counted, room) in
        omega (
          arith,
          some_is (length values) slot (ap (λ b. if b then Some (length values) else None) (sym (lt-ltb (length values) capacity made)) ∙ vacant),
          h.slots_counted,
          length-map main (λ e. e.slot),
        )

    entered_room : slot_of is_key (cache_of main values) ≡ None → length main < capacity → (v : Option ℕ) → vacant_slot [] (length values) capacity ≡ v
        → let p = joining_main key v (cache_of main values) in GoesOn key main (stored p.slot tt p.machine)
    entered_room absent room None vacant =
        absurd (none_is (length values)
        (sym vacant ∙ ap (λ b. if b then Some (length values) else None)
        (lt-ltb (length values) capacity (omega (arith, h.slots_counted, room)))))
    entered_room absent room (Some slot) vacant =
        let has_room : nat_lt (length (ring_of main)) capacity ≡ true = lt-ltb (length (ring_of main)) capacity (omega (arith, room, length-map main entry_of)) in
        record {
          now = behind_hand key slot main;
          stored_values = (stored slot tt (cache_of main values)).values;
          is_cache = refl;
          is_ring =
              behind_alike slot main
              ∙ ap (λ b. (if b then ring_of main else drop 1 (moved_on (length (ring_of main)) (ring_of main))) ++ (key, false) ∷ []) (sym has_room)
              ∙ ap (λ b. if b then marked key (ring_of main) else joined capacity key (ring_of main)) (sym (missed absent));
          is_frames =
              map-append (λ (e : MainEntry ℕ). e.slot) main (record { key = key; slot = slot; bit = false } ∷ [])
              ∙ ap (λ s. frames_of main ++ s ∷ []) (next_slot slot room vacant)
              ∙ ap (λ b. if b then frames_of main ++ length (frames_of main) ∷ [] else rotated 1 (rotated (passed (ring_of main)) (frames_of main))) (sym has_room)
              ∙ ap (λ b. if b then frames_of main else added) (sym (missed absent));
        }

    entered_alike : slot_of is_key (cache_of main values) ≡ None → GoesOn key main (inserted is_key key tt (cache_of main values))
    entered_alike absent =
        (elim (length main == main_share without_small) as (λ b. (length main == main_share without_small) ≡ b →
        let p = if b then replacing_victim key (from_victim main) (cache_of main values) else joining_main key (vacant_slot [] (length values) capacity) (cache_of main values) in
        GoesOn key main (stored p.slot tt p.machine)) [
          | true ↦ λ full. entered_full absent full (from_victim main) refl
          | false ↦ λ less. entered_room absent (within less) (vacant_slot [] (length values) capacity) refl
        ]) refl where
          within : (length main == main_share without_small) ≡ false → length main < capacity
          within less = omega (arith, h.main_within, eqb-false (length main) (main_share without_small) less)

    goes_on : (o : Option ℕ) → slot_of is_key (cache_of main values) ≡ o
        → GoesOn key main (if is_some o then replaced_at is_key tt o (cache_of main values) else inserted is_key key tt (cache_of main values))
    goes_on None absent = entered_alike absent
    goes_on (Some slot) found = hit_alike slot found

    -- the same key leaves
    abbrev leaves_full : Bool → Option ℕ
    leaves_full full = option_map (λ r. r.0) (if full then first_of (from_victim main) else None)

    abbrev stops_at : Bool → Option ℕ
    stops_at room = if room then None else first_key (moved_on (length (ring_of main)) (ring_of main))

    leaves_alike : leaves_full (length main == main_share without_small) ≡ stops_at (nat_lt (length (ring_of main)) capacity)
    leaves_alike =
        (elim (length main == main_share without_small) as (λ b. (length main == main_share without_small) ≡ b → leaves_full b ≡ stops_at (nat_lt (length (ring_of main)) capacity)) [
          | true ↦ λ full. first_alike (from_victim main) ∙ ap first_key (sym (victim_alike main))
              ∙ ap stops_at (sym (le-ltb (length (ring_of main)) capacity (omega (arith, eqb-true (length main) (main_share without_small) full, length-map main entry_of))))
          | false ↦ λ less. ap stops_at (sym (lt-ltb (length (ring_of main)) capacity
              (omega (arith, h.main_within, eqb-false (length main) (main_share without_small) less, length-map main entry_of))))
        ]) refl

    victim_leaves_alike : option_map (λ r. r.0) (leaver eqb (Put key tt) (cache_of main values)) ≡ clock_victim capacity key (ring_of main)
    victim_leaves_alike =
        ap (λ b. option_map (λ (r : ℕ × ℕ). r.0) (if b then None else (if length main == main_share without_small then first_of (from_victim main) else None))) found_in_main
        ∙ elim (is_on key (ring_of main)) as
        (λ b. option_map (λ (r : ℕ × ℕ). r.0) (if b then None else (if length main == main_share without_small then first_of (from_victim main) else None))
        ≡ (if b then None else stops_at (nat_lt (length (ring_of main)) capacity))) [ true ↦ refl | false ↦ leaves_alike ]

  -- so the same keys of every trace hit
  hits_alike : (trace : List ℕ) (main : List (MainEntry ℕ)) (values : List (Unit {0})) → IsWhole eqb (cache_of main values)
      → hits machine_holds machine_after trace (cache_of main values) ≡ hits is_on (clock_after capacity) trace (ring_of main)
  hits_alike [] main values h = refl
  hits_alike (key ∷ trace) main values h =
      let m = cache_of main values in
      let step = goes_on key main values h (slot_of (λ held. key == held) m) refl in
      let whole : IsWhole eqb (cache_of step.now step.stored_values) = subst (IsWhole eqb) step.is_cache (lasting-after eqb nat_eq_equiv (Put key tt) m h) in
      ap (λ b. (if b then 1 else 0) + hits machine_holds machine_after trace (machine_after key m)) (holds_alike key main values h)
      ∙ ap (λ n. (if is_on key (ring_of main) then 1 else 0) + hits machine_holds machine_after trace n) step.is_cache
      ∙ ap (λ n. (if is_on key (ring_of main) then 1 else 0) + n) (hits_alike trace step.now step.stored_values whole)
      ∙ ap (λ ring. (if is_on key (ring_of main) then 1 else 0) + hits is_on (clock_after capacity) trace ring) step.is_ring

  pub clock_without_small : 0 < capacity → (trace : List ℕ) → hits machine_holds machine_after trace (empty without_small) ≡ clock_hits capacity trace
  clock_without_small some trace = hits_alike trace [] [] (lasting-empty eqb nat_eq_equiv without_small some)

  -- one after another
  outcomes_alike : (trace : List ℕ) (main : List (MainEntry ℕ)) (values : List (Unit {0})) → IsWhole eqb (cache_of main values)
      → outcomes machine_holds machine_after trace (cache_of main values) ≡ outcomes is_on (clock_after capacity) trace (ring_of main)
  outcomes_alike [] main values h = refl
  outcomes_alike (key ∷ trace) main values h =
      let m = cache_of main values in
      let step = goes_on key main values h (slot_of (λ held. key == held) m) refl in
      let whole : IsWhole eqb (cache_of step.now step.stored_values) = subst (IsWhole eqb) step.is_cache (lasting-after eqb nat_eq_equiv (Put key tt) m h) in
      ap (λ b. b ∷ outcomes machine_holds machine_after trace (machine_after key m)) (holds_alike key main values h)
      ∙ ap (λ n. is_on key (ring_of main) ∷ outcomes machine_holds machine_after trace n) step.is_cache
      ∙ ap (λ more. is_on key (ring_of main) ∷ more) (outcomes_alike trace step.now step.stored_values whole)
      ∙ ap (λ ring. is_on key (ring_of main) ∷ outcomes is_on (clock_after capacity) trace ring) step.is_ring

  pub clock_outcomes_without_small : 0 < capacity → (trace : List ℕ) → outcomes machine_holds machine_after trace (empty without_small) ≡ clock_outcomes capacity trace
  clock_outcomes_without_small some trace = outcomes_alike trace [] [] (lasting-empty eqb nat_eq_equiv without_small some)

  -- The keys from the hand on, their marks and their slots after a trace, and who leaves next.

  abbrev puts : List ℕ → List (Call ℕ (Unit {0}))
  puts trace = map (λ key. Put key tt) trace

  record Ends (trace : List ℕ) (main : List (MainEntry ℕ)) (n : Machine ℕ (Unit {0})) : Type 0 where
    last : List (MainEntry ℕ)
    stored_values : List (Unit {0})
    is_cache : n ≡ cache_of last stored_values
    whole : IsWhole eqb (cache_of last stored_values)
    is_ring : ring_of last ≡ clock_ring_from capacity trace (ring_of main)
    is_frames : frames_of last ≡ clock_frames_from capacity trace (ring_of main) (frames_of main)

  ends_alike : (trace : List ℕ) (main : List (MainEntry ℕ)) (values : List (Unit {0})) → IsWhole eqb (cache_of main values)
      → Ends trace main (after_all eqb (puts trace) (cache_of main values))
  ends_alike [] main values h = record { last = main; stored_values = values; is_cache = refl; whole = h; is_ring = refl; is_frames = refl }
  ends_alike (key ∷ trace) main values h =
      let m = cache_of main values in
      let step = goes_on key main values h (slot_of (λ held. key == held) m) refl in
      let whole : IsWhole eqb (cache_of step.now step.stored_values) = subst (IsWhole eqb) step.is_cache (lasting-after eqb nat_eq_equiv (Put key tt) m h) in
      let rest = ends_alike trace step.now step.stored_values whole in
      record {
        last = rest.last;
        stored_values = rest.stored_values;
        is_cache = ap (after_all eqb (puts trace)) step.is_cache ∙ rest.is_cache;
        whole = rest.whole;
        is_ring = rest.is_ring ∙ ap (clock_ring_from capacity trace) step.is_ring;
        is_frames =
            rest.is_frames
            ∙ ap (λ ring. clock_frames_from capacity trace ring (frames_of step.now)) step.is_ring
            ∙ ap (clock_frames_from capacity trace (clock_after capacity key (ring_of main))) step.is_frames;
      }

  module _ (some : 0 < capacity) (trace : List ℕ) where
    abbrev ended : Machine ℕ (Unit {0})
    ended = after_all eqb (puts trace) (empty without_small)

    ends : Ends trace [] ended
    ends = ends_alike trace [] [] (lasting-empty eqb nat_eq_equiv without_small some)

    -- the residents are the keys of the ring, in its order and with its marks, and their slots are its frames
    pub clock_slots_without_small : (ended.small ≡ []) × ((map entry_of ended.main ≡ clock_ring capacity trace) × (map (λ e. e.slot) ended.main ≡ clock_frames capacity trace))
    clock_slots_without_small = (
      ap (λ (m : Machine ℕ (Unit {0})). m.small) ends.is_cache,
      (ap (λ (m : Machine ℕ (Unit {0})). ring_of m.main) ends.is_cache ∙ ends.is_ring, ap (λ (m : Machine ℕ (Unit {0})). frames_of m.main) ends.is_cache ∙ ends.is_frames),
    )

    -- the same key leaves for the next one
    pub clock_victim_without_small : (key : ℕ) → option_map (λ r. r.0) (leaver eqb (Put key tt) ended) ≡ clock_victim capacity key (clock_ring capacity trace)
    clock_victim_without_small key =
        ap (λ m. option_map (λ (r : ℕ × ℕ). r.0) (leaver eqb (Put key tt) m)) ends.is_cache
        ∙ victim_leaves_alike key ends.last ends.stored_values ends.whole
        ∙ ap (clock_victim capacity key) ends.is_ring

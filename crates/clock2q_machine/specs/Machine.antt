-- The state machine of a cache: two queues of residents, the history of keys evicted from Small, a stack of free slots,
-- and a value for each slot made. It uses no hash.
use Rattle.std.specs.Prelude.{ℕ, ◌+◌, ◌-◌, Bool, true, not, ◌&&◌, ◌||◌, ◌==◌, nat_lt, nat_le, if◌then◌else◌, List, [], ◌∷◌, ◌++◌, map, length, take, drop, slice_get, slice_set, Option, Some, None, is_some, refl}
use Rattle.std.specs.List.{filter, find, list_any, last_or, filter_map, fold, range_with_len}
use Rattle.std.specs.Option.{option_map, option_and_then}
use Rattle.std.specs.Coded.{Coded, code_by, coded×, coded_list, coded_ℕ}
use Rattle.clock2q_machine.specs.Shares.{Shares, main_share, shares_code}
use Rattle.clock2q_machine.specs.Ages.{is_promoted}
use Rattle.clock2q_machine.specs.Entries.{SmallEntry, MainEntry, small_hit, main_hit, small_admitted, first_of, from_victim, behind_hand, small_entry_code, main_entry_code}

-- Small and the history newest first, Main from the hand, the free slots from the top; slot `s` has the `s`-th value
pub record Machine (K V : Type 0) : Type 0 where
  pub shares : Shares
  pub small : List (SmallEntry K)
  pub main : List (MainEntry K)
  pub history : List K
  pub free : List ℕ
  pub values : List V

-- a key at its slot, whose value is still to be stored
pub record Placement (K V : Type 0) : Type 0 where
  pub slot : ℕ
  pub machine : Machine K V

-- the top of the free slots, otherwise the next slot that was never made
abbrev pub vacant_slot : List ℕ → ℕ → ℕ → Option ℕ
vacant_slot (slot ∷ free) made capacity = Some slot
vacant_slot [] made capacity = if nat_lt made capacity then Some made else None

-- whether Small has no tail to evict: it is empty, or its tail is promoted
abbrev pub keeps_tail : {K : Type 0} → Option (SmallEntry K) → Bool
keeps_tail None = true
keeps_tail (Some tail) = is_promoted tail.age

module _ {K V : Type 0} where
  -- nothing resident, remembered, free or made
  abbrev pub empty : Shares → Machine K V
  empty shares = record { shares = shares; small = []; main = []; history = []; free = []; values = [] }

  -- each resident key with its slot
  abbrev pub residents : Machine K V → List (K × ℕ)
  residents m = map (λ e. (e.key, e.slot)) m.small ++ map (λ e. (e.key, e.slot)) m.main

  -- the number of residents
  abbrev pub resident_count : Machine K V → ℕ
  resident_count m = length m.small + length m.main

  -- the slot of the resident whose key passes the test
  abbrev pub slot_of : (K → Bool) → Machine K V → Option ℕ
  slot_of is m = option_map (λ r. r.1) (find (λ r. is r.0) (residents m))

  -- its value
  abbrev pub value_of : (K → Bool) → Machine K V → Option V
  value_of is m = option_and_then (slice_get m.values) (slot_of is m)

  -- a hit sets the bit of the key's old entry in Small, or of its entry in Main
  abbrev pub hit : (K → Bool) → Machine K V → Machine K V
  hit is m = record m { small = small_hit is m.small; main = main_hit is m.main }

  -- a key enters Small at a slot
  abbrev pub admitted : K → ℕ → Machine K V → Machine K V
  admitted key slot m = record m { small = small_admitted m.shares.window key slot m.small }

  -- the slot that an insertion may take without an eviction
  abbrev pub vacancy : Machine K V → Option ℕ
  vacancy m = vacant_slot m.free (length m.values) m.shares.capacity

  -- a key with history goes to Main; so does any key if Small has no share, or is full while there is a vacancy
  abbrev pub goes_to_main : Bool → Machine K V → Bool
  goes_to_main known m = known || (m.shares.small == 0) || (is_some (vacancy m) && nat_le m.shares.small (length m.small))

  -- Small's tail is evicted to the history, and the key takes its slot
  abbrev pub evicting_tail : K → SmallEntry K → Machine K V → Placement K V
  evicting_tail key tail m = record {
    slot = tail.slot;
    machine = admitted key tail.slot (record m {
      small = take (length m.small - 1) m.small;
      history = take m.shares.history (tail.key ∷ m.history);
    });
  }

  -- Small's tail is promoted to Main with its own slot, and the key takes the slot of Main's victim, which gets no
  -- history
  abbrev pub promoting_tail : K → SmallEntry K → List (MainEntry K) → Machine K V → Placement K V
  promoting_tail key tail [] m = record { slot = 0; machine = m }
  promoting_tail key tail (victim ∷ others) m = record {
    slot = victim.slot;
    machine = admitted key victim.slot (record m {
      small = take (length m.small - 1) m.small;
      main = behind_hand tail.key tail.slot others;
    });
  }

  -- into Small: at a vacancy, otherwise in place of its tail, or of Main's victim if the tail is promoted
  abbrev pub into_small_at : K → Option ℕ → Option (SmallEntry K) → Machine K V → Placement K V
  into_small_at key (Some slot) tail m = record { slot = slot; machine = admitted key slot (record m { free = drop 1 m.free }) }
  into_small_at key None None m = record { slot = 0; machine = m }
  into_small_at key None (Some tail) m =
      if is_promoted tail.age then promoting_tail key tail (from_victim m.main) m else evicting_tail key tail m

  abbrev pub into_small : K → Machine K V → Placement K V
  into_small key m = into_small_at key (vacancy m) (last_or None m.small) m

  -- in place of Main's victim, which gets no history
  abbrev pub replacing_victim : K → List (MainEntry K) → Machine K V → Placement K V
  replacing_victim key [] m = record { slot = 0; machine = m }
  replacing_victim key (victim ∷ others) m = record {
    slot = victim.slot;
    machine = record m { main = behind_hand key victim.slot others };
  }

  -- into Main, if it has room
  abbrev pub joining_main : K → Option ℕ → Machine K V → Placement K V
  joining_main key None m = record { slot = 0; machine = m }
  joining_main key (Some slot) m = record {
    slot = slot;
    machine = record m { main = behind_hand key slot m.main; free = drop 1 m.free };
  }

  -- into Main: in place of its victim if it is full, otherwise at a vacancy
  abbrev pub into_main : K → Machine K V → Placement K V
  into_main key m = if length m.main == main_share m.shares then replacing_victim key (from_victim m.main) m else joining_main key (vacancy m) m

  -- the history without the key
  abbrev pub forgotten : (K → Bool) → Machine K V → Machine K V
  forgotten is m = record m { history = filter (λ k. not (is k)) m.history }

  -- the key's history is erased first, and if there was any, the key goes to Main
  abbrev pub placement : (K → Bool) → K → Machine K V → Placement K V
  placement is key m = if goes_to_main (list_any is m.history) m then into_main key (forgotten is m) else into_small key (forgotten is m)

  -- the value of a slot; that of the next slot makes it
  abbrev pub stored : ℕ → V → Machine K V → Machine K V
  stored slot value m = record m {
    values = if nat_lt slot (length m.values) then slice_set m.values slot value else m.values ++ value ∷ [];
  }

  -- the key is placed, and its slot has the value
  abbrev pub inserted : (K → Bool) → K → V → Machine K V → Machine K V
  inserted is key value m = let p = placement is key m in stored p.slot value p.machine

  -- the key is placed; a slot that was made before keeps its value, and only a new one gets this value
  abbrev pub reused : (K → Bool) → K → V → Machine K V → Machine K V
  reused is key fresh m = let p = placement is key m in
      if nat_lt p.slot (length m.values) then p.machine else stored p.slot fresh p.machine

  -- the resident at a slot leaves, and the slot goes on top of the free ones with its value
  abbrev pub vacated : ℕ → Machine K V → Machine K V
  vacated slot m = record m {
    small = filter (λ e. not (e.slot == slot)) m.small;
    main = filter (λ e. not (e.slot == slot)) m.main;
    free = slot ∷ m.free;
  }

  -- the key leaves; if it is not resident its history is erased
  abbrev pub removed_at : (K → Bool) → Option ℕ → Machine K V → Machine K V
  removed_at is (Some slot) m = vacated slot m
  removed_at is None m = forgotten is m

  abbrev pub removed : (K → Bool) → Machine K V → Machine K V
  removed is m = removed_at is (slot_of is m) m

  -- the resident at a slot, if there is one
  abbrev pub resident_at : Machine K V → ℕ → Option (K × ℕ)
  resident_at m slot = find (λ r. r.1 == slot) (residents m)

  -- the residents in the order in which `retain` asks of them: by ascending slot
  abbrev pub by_slot : Machine K V → List (K × ℕ)
  by_slot m = filter_map (resident_at m) (range_with_len 0 (length m.values))

  -- the residents at these slots leave, one after the other
  abbrev pub vacated_all : List ℕ → Machine K V → Machine K V
  vacated_all slots m = fold (λ state slot. vacated slot state) m slots

  -- whether a resident of Main is evicted next, rather than Small's tail
  abbrev pub victim_leaves : Machine K V → Bool
  victim_leaves m = nat_lt 0 (length m.main) && keeps_tail (last_or None m.small)

  -- the resident that is evicted next
  abbrev pub leaves_now : Machine K V → Option (K × ℕ)
  leaves_now m = if victim_leaves m then first_of (from_victim m.main) else option_map (λ tail. (tail.key, tail.slot)) (last_or None m.small)

  -- Small's tail leaves for the history, and its slot is free
  abbrev pub tail_evicted : Option (SmallEntry K) → Machine K V → Machine K V
  tail_evicted None m = m
  tail_evicted (Some tail) m = record m {
    small = take (length m.small - 1) m.small;
    history = take m.shares.history (tail.key ∷ m.history);
    free = tail.slot ∷ m.free;
  }

  -- Main's victim leaves without history, and its slot is free; Small's tail, if there is one, is promoted to Main
  abbrev pub victim_evicted : Option (SmallEntry K) → List (MainEntry K) → Machine K V → Machine K V
  victim_evicted tail [] m = m
  victim_evicted None (victim ∷ others) m = record m { main = others; free = victim.slot ∷ m.free }
  victim_evicted (Some tail) (victim ∷ others) m = record m {
    small = take (length m.small - 1) m.small;
    main = behind_hand tail.key tail.slot others;
    free = victim.slot ∷ m.free;
  }

  -- a resident is evicted, though no key comes
  abbrev pub evicted : Machine K V → Machine K V
  evicted m = if victim_leaves m then victim_evicted (last_or None m.small) (from_victim m.main) m else tail_evicted (last_or None m.small) m

  -- only the shares are left
  abbrev pub cleared : Machine K V → Machine K V
  cleared m = empty m.shares

  -- each slot that was never made is made with one of these values and is free, the lowest on top
  abbrev pub prefilled : List V → Machine K V → Machine K V
  prefilled made m = record m {
    free = range_with_len (length m.values) (length made) ++ m.free;
    values = m.values ++ made;
  }

  -- the code by which a model may hold a machine
  abbrev pub machine_code : Coded K → Coded V → Coded (Machine K V)
  machine_code key value = code_by (Shares × (List (SmallEntry K) × (List (MainEntry K) × (List K × (List ℕ × List V)))))
      (coded× shares_code (coded× (coded_list (small_entry_code key)) (coded× (coded_list (main_entry_code key)) (coded× (coded_list key) (coded× (coded_list coded_ℕ) (coded_list value))))))
      (λ m. (m.shares, (m.small, (m.main, (m.history, (m.free, m.values))))))
      (λ p. record { shares = p.0; small = p.1.0; main = p.1.1.0; history = p.1.1.1.0; free = p.1.1.1.1.0; values = p.1.1.1.1.1 })
      (λ _. refl)

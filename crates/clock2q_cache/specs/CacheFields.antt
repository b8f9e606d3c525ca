-- How a cache keeps its machine in the layers below. No public clause cites this file.
use Rattle.std.specs.Prelude.{◌≡◌, ℕ, ◌+◌, ◌^◌, ◌<◌, ◌≤◌, Bool, List, ◌++◌, map, length, reverse, Option}
use Rattle.std.specs.List.{filter_map, AllByRecursion}
use Rattle.std.specs.Option.{option_map}
use Rattle.clock2q_machine.specs.Ages.{Age}
use Rattle.clock2q_directory.specs.declared.keys.Entry.{Entry}
use Rattle.clock2q_directory.specs.Keys.{KeyPlaces, key_at}
use Rattle.clock2q_directory.specs.Indexes.{IsIndex}
use Rattle.clock2q_queues.specs.Queues.{QueueState, slots_of}
use Rattle.clock2q_handles.specs.Homes.{capacity}
use Rattle.clock2q_directory.specs.History.{Remembered, most_beside}
use Rattle.clock2q_machine.specs.Shares.{Shares}
use Rattle.clock2q_machine.specs.Entries.{SmallEntry, MainEntry}
use Rattle.clock2q_machine.specs.Machine.{Machine}
use Rattle.clock2q_machine.specs.Whole.{IsWhole}
use Rattle.clock2q_cache.specs.CacheState.{Counts}

module _ {K : Type 0} where
  -- Small, with the keys at its slots
  abbrev pub with_keys_small : (ℕ → Option K) → List (ℕ × Age) → List (SmallEntry K)
  with_keys_small key small = filter_map (λ e. option_map (λ k. record { key = k; slot = e.0; age = e.1 }) (key e.0)) small

  -- Main, with the keys at its slots
  abbrev pub with_keys_main : (ℕ → Option K) → List (ℕ × Bool) → List (MainEntry K)
  with_keys_main key main = filter_map (λ e. option_map (λ k. record { key = k; slot = e.0; bit = e.1 }) (key e.0)) main

-- the slots of the residents
abbrev pub queued_slots : QueueState → List ℕ
queued_slots q = slots_of q.small ++ slots_of q.main

module _ {K V : Type 0} where
  -- the machine, from the queues, the keys and values by slot, the keys of the history and the free slots, the last of
  -- which is the top
  abbrev pub machine_of : Shares → QueueState → List (Entry K V) → List (ℕ × K) → List ℕ → Machine K V
  machine_of shares q entries history free = record {
    shares = shares;
    small = with_keys_small (key_at entries) q.small;
    main = with_keys_main (key_at entries) q.main;
    history = map (λ e. e.1) history;
    free = reverse free;
    values = map (λ e. e.value) entries;
  }

  -- each of these slots has a key, with its hash, and the index has exactly these
  pub record IsStored (hash : K → ℕ) (index : List (List (ℕ × ℕ))) (entries : List (Entry K V)) (places : List ℕ) : Type 0 where
    pub made : AllByRecursion (λ s. s < length entries) places
    pub indexed : IsIndex index entries places
    pub hashed : AllByRecursion (λ e. e.hash ≡ hash e.key) entries

-- the layers are as large as the shares say
pub record IsSized (shares : Shares) (q : QueueState) (limit beside homes keys_room free_room : ℕ) : Type 0 where
  pub as_many : q.slots ≡ shares.capacity
  pub window : q.window ≡ shares.window
  pub windowed : 0 < shares.small → 0 < shares.window
  pub remembers : limit ≡ shares.history
  pub spacious : shares.capacity + beside ≤ capacity homes
  pub room_for_keys : shares.capacity ≤ keys_room
  pub room_for_free : shares.capacity ≤ free_room
  pub short : shares.capacity < 2 ^ 24
  pub few : shares.capacity + beside < 2 ^ 24

-- the invariant of a cache's fields. Each slot that has a value has a link record, so that no later call makes one for a
-- slot below its own
pub record IsCache {K V : Type 0} (eq : K → K → Bool) (hash : K → ℕ) (shares : Shares) (q : QueueState)
    (h : Remembered K) (index : List (List (ℕ × ℕ))) (keys : KeyPlaces K V) (free : List ℕ) (room : ℕ) : Type 0 where
  pub whole : IsWhole eq (machine_of shares q keys.entries h.entries free)
  pub stored : IsStored hash index keys.entries (queued_slots q)
  pub hashed : AllByRecursion (λ e. e.0 ≡ hash e.1) h.entries
  pub linked : length keys.entries ≤ q.made
  pub sized : IsSized shares q h.limit (most_beside h) (length index) keys.room room

-- what the layers below counted
abbrev pub counts_of : {K V : Type 0} → QueueState → Remembered K → KeyPlaces K V → Counts
counts_of q h keys = record { inspections = q.inspections; accesses = q.accesses + h.accesses; comparisons = h.comparisons + keys.comparisons }

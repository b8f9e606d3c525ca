-- Where a key that is not known is inserted: the number of inspections by the hand, and the value that its slot then
-- has. No public clause cites this file.
use Rattle.std.specs.Prelude.{◌≡◌, ℕ, ◌+◌, Bool, true, false, not, ◌&&◌, ◌==◌, if◌then◌else◌, nat_lt, length, Option, Some, None, MatchOption, is_some}
use Rattle.std.specs.Borrow.{Bor}
use Rattle.std.specs.Fn.{Once, FnOnceReturnsAt}
use Rattle.std.specs.List.{last_or, list_any}
use Rattle.std.specs.declared.hash.Hasher as hasher
use Rattle.std.specs.declared.hash.BuildHasher as builder
use Rattle.std.specs.HashMap.Lent.{HashMembers}
use Rattle.clock2q_machine.specs.Shares.{main_share}
use Rattle.clock2q_machine.specs.Entries.{inspections}
use Rattle.clock2q_handles.specs.Positions.{GapValue}
use Rattle.clock2q_directory.specs.declared.handle.Found.{Found}
use Rattle.clock2q_directory.specs.Index.{IsGapFor}
use Rattle.clock2q_directory.specs.History.{place_of, found_place, found_gap}
use Rattle.clock2q_directory.specs.Keys.{IsValueFor}
use Rattle.clock2q_machine.specs.Machine.{Machine, Placement, vacancy, forgotten, goes_to_main, into_main, into_small, slot_of, stored}
use Rattle.clock2q_machine.specs.Whole.{known_count}
use Rattle.clock2q_machine.specs.Bounds.{goes_on}
use Rattle.clock2q_machine.specs.Leaving.{leaves_for_main, leaves_for_small}
use Rattle.clock2q_cache.specs.declared.cache.insertion.Admission.{Admission}
use Rattle.clock2q_cache.specs.declared.cache.insertion.Admission.TheVariants.{Small, Main}
use Rattle.clock2q_cache.specs.CacheState.{CacheState}
use Rattle.clock2q_cache.specs.Costs.{Spends}
use Rattle.clock2q_cache.specs.Places.{Reindexes, discarded, hash_in, out_of}

-- whether a newcomer goes into Main
abbrev pub is_main : Admission → Bool
is_main Small = false
is_main Main = true

-- the most links that are accessed as a newcomer is placed, beside one for each inspection by the hand
abbrev pub placed_links : Bool → ℕ
placed_links main = if main then 10 else 29

module _ {K V : Type 0} where
  -- for a key that enters Main
  abbrev pub main_inspections : Machine K V → ℕ
  main_inspections m = if length m.main == main_share m.shares then inspections m.main else 0

  -- for a key that enters Small
  abbrev pub small_inspections : Machine K V → ℕ
  small_inspections m = if not (is_some (vacancy m)) && goes_on (last_or None m.small) then inspections m.main else 0

module _ {K V : Type 0} where
  -- a key was placed, and its slot has the given value or, without one, the value that it had
  pub record Fills (value : Option V) (p : Placement K V) (old new : Machine K V) : Type 0 where
    pub held : V
    pub is : IsValueFor value p.slot old.values held
    pub becomes : new ≡ stored p.slot held p.machine

  -- a key goes into Main, or into Small
  abbrev pub into_queue : Bool → K → Machine K V → Placement K V
  into_queue main key m = if main then into_main key m else into_small key m

  -- the number of inspections by the hand then
  abbrev pub placed_inspections : Bool → Machine K V → ℕ
  placed_inspections main m = if main then main_inspections m else small_inspections m

  -- whether a key can go into Main, or into Small, and take no other's slot
  abbrev pub has_room : Bool → Machine K V → Bool
  has_room main m = if main then not (length m.main == main_share m.shares) else is_some (vacancy m)

  -- whether no slot is free, and one was never made
  abbrev pub next_is_vacant : Machine K V → Bool
  next_is_vacant m = (length m.free == 0) && nat_lt (length m.values) m.shares.capacity

  -- whether a slot is made for the key: none is free, and it takes no other key's
  abbrev pub makes_slot : Bool → Machine K V → Bool
  makes_slot main m = next_is_vacant m && not (main && (length m.main == main_share m.shares))

  -- the resident that leaves then
  abbrev pub leaves_placed : Bool → Machine K V → Option (K × ℕ)
  leaves_placed main m = if main then leaves_for_main m else leaves_for_small (vacancy m) (last_or None m.small) m.main

-- a key is erased from the history, and goes into Main or into Small
pub record IsAdmitted {K V : Type 0} (is : K → Bool) (m m1 : Machine K V) (main : Bool) : Type 0 where
  pub erased : m1 ≡ forgotten is m
  pub goes : main ≡ goes_to_main (list_any is m.history) m

-- what a lookup of a key with this hash found, unless it is resident: its place in the history, or the gap for it
pub record IsFoundFor {K V S : Type 0} (eq : K → K → Bool) (found : Found) (k : K) (x : ℕ) (c : CacheState K V S) : Type 0 where
  pub place : found_place found ≡ place_of (eq k) c.machine.history c.known.taken
  pub gap : IsGapFor (found_gap found) x c.known.index

module _ {F K R : Type 0} (g : Once F (Bor K × Unit {0}) R) (f : F) where
  -- the closure was called with the key that left this slot, and returned the note; without a note none left
  pub record Notes (leaver : Option (K × ℕ)) (slot : ℕ) (note : Option R) : Type 0 where
    pub noted : MatchOption note (leaver ≡ None) (λ n. (key : K) × (leaver ≡ Some (key, slot)) × FnOnceReturnsAt g f key n)

module _ {K V S H : Type 0} (key : HashMembers K) (build : builder.Ghosts S H) (hash : hasher.Ghosts H) where
  -- a key that is not resident, with its hash
  pub record IsAbsent (k : K) (x : ℕ) (c : CacheState K V S) : Type 0 where
    pub hashed : x ≡ hash_in key build hash c k
    pub absent : slot_of (key.eq k) c.machine ≡ None

  -- a key that is neither resident nor in the history, with its hash and the gap for it, if a lookup found that
  pub record IsUnknown (k : K) (x : ℕ) (gap : Option GapValue) (c : CacheState K V S) : Type 0 where
    pub hashed : x ≡ hash_in key build hash c k
    pub absent : known_count (key.eq k) c.machine ≡ 0
    pub at : IsGapFor gap x c.known.index

  -- a key, whose gap a lookup may have found, was placed with its value, while another left for the history, if it did; the
  -- hand made `looks` inspections, and at most `links` more links were accessed
  pub record Enters (k : K) (value : Option V) (p : Placement K V) (is_found : Bool) (out : Option K) (looks links at : ℕ) (old new : CacheState K V S) : Type 0 where
    pub slot : at ≡ p.slot
    pub machine : Fills value p old.machine new.machine
    pub indexes : Reindexes (hash_in key build hash old) k at is_found out old new
    pub hasher : new.hasher ≡ old.hasher
    pub counts : Spends looks (looks + links) 0 old.counts new.counts

  -- the key went into Main, or into Small
  abbrev pub EntersMain : K → Option V → (is_found : Bool) → (looks slot : ℕ) → CacheState K V S → CacheState K V S → Type 0
  EntersMain k value is_found looks slot old new = Enters k value (into_main k old.machine) is_found None looks 10 slot old new

  abbrev pub EntersSmall : K → Option V → (is_found : Bool) → Option K → (looks links slot : ℕ) → CacheState K V S → CacheState K V S → Type 0
  EntersSmall k value is_found out looks links slot old new = Enters k value (into_small k old.machine) is_found out looks links slot old new

  -- or into that of the two that was chosen
  abbrev pub EntersQueue : (main : Bool) → K → Option V → (is_found : Bool) → (slot : ℕ) → CacheState K V S → CacheState K V S → Type 0
  EntersQueue main k value is_found slot old new =
      let m = old.machine in Enters k value (into_queue main k m) is_found (out_of main m) (placed_inspections main m) (placed_links main) slot old new

  -- a key that is not resident is erased from the history, and goes into Main or into Small; if it was remembered, and so
  -- goes into Main, that accesses links
  pub record Admits (k : K) (x : ℕ) (main : Bool) (old new : CacheState K V S) : Type 0 where
    pub sent : IsAdmitted (key.eq k) old.machine new.machine main
    pub known : new.known ≡ discarded (key.eq k) x old
    pub hasher : new.hasher ≡ old.hasher
    pub counts : Spends 0 (if main then 7 else 0) 0 old.counts new.counts

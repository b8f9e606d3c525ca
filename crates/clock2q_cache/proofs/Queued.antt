-- A key that isn't known enters a queue that has room, or Small in place of another.
use Rattle.clock2q_cache.proofs.Names.{◌≡◌, ℕ, ◌<◌, Bool, true, false, not, length, Option, None, arith, leaves_for_small, Enters, EntersQueue, EntersSmall, has_room, leaves_placed, HashMembers, CacheState, Spends, IfSome, is_some, into_queue, is_promoted, last_or, option_map, vacancy, Machine, IsWhole, main_share, goes_to_main, eqb-false}
use Rattle.std.specs.declared.hash.Hasher as hasher
use Rattle.std.specs.declared.hash.BuildHasher as builder
use Rattle.clock2q_machine.specs.Entries.{inspections}
use Rattle.clock2q_cache.proofs.Insertions.{looked-spends, tail-inspections}
use Rattle.clock2q_cache.proofs.Places.{key-out}
use Rattle.clock2q_cache.proofs.Spent.{spends-more}

not-full : {b : Bool} → not b ≡ true → b ≡ false
not-full {b} is = grind arith

-- what a queue that has room has
module _ {K V : Type 0} (main : Bool) (m : Machine K V) (room : has_room main m ≡ true) where
  pub room-main : {eq : K → K → Bool} → IsWhole eq m → main ≡ true → length m.main < main_share m.shares
  room-main whole is = grind (arith, whole.main_within, eqb-false)

  pub room-small : goes_to_main false m ≡ false → main ≡ false → length m.small < m.shares.small
  room-small goes is = grind arith

  pub room-leaver : leaves_placed main m ≡ None
  room-leaver = grind (arith, vacancy, is_some, leaves_for_small, last_or)

module _ {K V S H : Type 0} {key : HashMembers K} {build : builder.Ghosts S H} {hash : hasher.Ghosts H} {k : K} {value : Option V} {b : Bool} {slot : ℕ} {old new : CacheState K V S} where
  pub joins : (main : Bool) → has_room main old.machine ≡ true
      → Enters key build hash k value (into_queue main k old.machine) b None 0 10 slot old new → EntersQueue key build hash main k value b slot old new
  joins true room e = record { slot = e.slot; machine = e.machine; indexes = e.indexes; hasher = e.hasher; counts = rw (not-full room) e.counts }
  joins false room e = record { slot = e.slot; machine = e.machine; indexes = rw room e.indexes; hasher = e.hasher; counts = rw room (spends-more e.counts (omega arith) (omega arith)) }

  -- Small's tail is looked at: it moves on to Main, or is evicted
  module _ (full : is_some (vacancy old.machine) ≡ false) (some : 0 < length old.machine.small) {looked : CacheState K V S} (kept : looked ≡ record old { counts = looked.counts })
      (spent : Spends 0 1 0 old.counts looked.counts) where
    pub promotes-tail : IfSome (last_or None old.machine.small) (λ tail. true ≡ is_promoted tail.age)
        → EntersSmall key build hash k value b None (inspections looked.machine.main) 28 slot looked new → EntersQueue key build hash false k value b slot old new
    promotes-tail on entered =
        let e = rw kept at entered in
        record {
          slot = e.slot;
          machine = e.machine;
          indexes = rw (full, key-out true (last_or None old.machine.small) on) e.indexes;
          hasher = e.hasher;
          counts = rw (tail-inspections old.machine true full some on) (looked-spends spent e.counts);
        }

    pub evicts-tail : IfSome (last_or None old.machine.small) (λ tail. false ≡ is_promoted tail.age)
        → EntersSmall key build hash k value b (option_map (λ tail. tail.key) (last_or None looked.machine.small)) 0 28 slot looked new → EntersQueue key build hash false k value b slot old new
    evicts-tail out entered =
        let e = rw kept at entered in
        record {
          slot = e.slot;
          machine = e.machine;
          indexes = rw (full, key-out false (last_or None old.machine.small) out) e.indexes;
          hasher = e.hasher;
          counts = rw (tail-inspections old.machine false full some out) (looked-spends spent e.counts);
        }

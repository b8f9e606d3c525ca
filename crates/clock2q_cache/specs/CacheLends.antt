-- What a call that lends a value of a cache leaves of the cache.
use Rattle.std.specs.Prelude.{◌≡◌, ℕ, Option, None, IfNone, Result, MatchResult, ⊤}
use Rattle.std.specs.Borrow.{Fml, RattleType, Bor, MutBor, Lends, LendsSo, LendsSoOk, follows_so}
use Rattle.std.specs.HashMap.Lent.{HashMembers}
use Rattle.std.specs.declared.alloc.Allocator as alloc
use Rattle.std.specs.declared.hash.Hasher as hasher
use Rattle.std.specs.declared.hash.BuildHasher as builder
use mathlib.Core.Option.{none}
use Rattle.clock2q_machine.specs.Calls.{Call, Put, Get, Set, With, Try}
use Rattle.clock2q_cache.specs.Costs.{Costs, LooksAhead}
use Rattle.clock2q_cache.specs.Places.{known_with, looked_for}
use Rattle.clock2q_directory.specs.History.{Places}
use Rattle.clock2q_machine.specs.Machine.{Machine, stored}
use Rattle.clock2q_machine.specs.Steps.{replaced, put, fetched}
use Rattle.clock2q_cache.specs.CacheState.{CacheState}
use Rattle.clock2q_cache.specs.Charged.{with_slot}
use Rattle.clock2q_cache.specs.contracts.cache.Cache.{the_row}

module _ (K V S A H : RattleType) (key : HashMembers K.Denot) (build : builder.Ghosts S.Denot H.Denot) (hash : hasher.Ghosts H.Denot) (heap : alloc.Ghosts A.Denot) where
  -- the type of the cache, in the logic
  abbrev pub cache_row : RattleType
  cache_row = the_row K V S A H (record { hash_input = key.hash_input }) (record { eq = key.eq }) build hash heap

  -- the machine becomes this one and the index this one at the cost of the call, and the hasher stays
  abbrev pub BecomesKnown : Call K.Denot V.Denot → Machine K.Denot V.Denot → Places → CacheState K.Denot V.Denot S.Denot → CacheState K.Denot V.Denot S.Denot → Type 0
  BecomesKnown call m p old new = (new.machine ≡ m) × (new.hasher ≡ old.hasher) × Costs key build hash call old new × (new.known ≡ p)

  -- once the reference into the cache has ended, the machine and the index are these
  abbrev pub LeavesKnown : MutBor (CacheState K.Denot V.Denot S.Denot) → Call K.Denot V.Denot → Machine K.Denot V.Denot → Places → Fml
  LeavesKnown c call m p = follows_so cache_row cache_row c.ghost_name none (λ _ _. ⊤) (BecomesKnown call m p c.now)

  -- once the reference into the cache has ended, only counts have changed, by a look ahead
  abbrev pub LeavesLooked : MutBor (CacheState K.Denot V.Denot S.Denot) → Fml
  LeavesLooked c = follows_so cache_row cache_row c.ghost_name none (λ _ _. ⊤) (LooksAhead key build hash c.now)

  -- the key was fetched, at the cost of the call, and has this value; at `Err` the machine is as it was
  abbrev pub Tries : {E : Type 0} → CacheState K.Denot V.Denot S.Denot → K.Denot → Result (Bor V.Denot) E → CacheState K.Denot V.Denot S.Denot → Type 0
  Tries old k r new =
      MatchResult r (λ value. BecomesKnown (With k value.now) (fetched (key.eq k) k value.now old.machine) (known_with key build hash k old) old new)
      (λ _. BecomesKnown (Try k None) old.machine (looked_for key build hash k old).known old new)

  -- the same once the reference into the cache has ended; a tactic that looked into it would take minutes
  unfoldable pub LeavesTried : {E : Type 0} → MutBor (CacheState K.Denot V.Denot S.Denot) → K.Denot → Result (Bor V.Denot) E → Fml
  LeavesTried c k r = follows_so cache_row cache_row c.ghost_name none (λ _ _. ⊤) (Tries c.now k r)

  -- the value of that slot is what the caller leaves behind the reference, and nothing else changes
  abbrev pub LendsSlot : MutBor (CacheState K.Denot V.Denot S.Denot) → ℕ → MutBor V.Denot → Fml
  LendsSlot c slot r = Lends cache_row V c r (λ w. record c.now { machine = stored slot w c.now.machine })

  -- the key was looked up and is hit, and its value is what the caller leaves behind the reference; at `None` the machine is as it was
  abbrev pub LendsHit : MutBor (CacheState K.Denot V.Denot S.Denot) → K.Denot → Option (MutBor V.Denot) → Fml
  LendsHit c k r =
      LendsSo cache_row V c r (λ n w. BecomesKnown (Set k w) (replaced (key.eq k) w c.now.machine) (looked_for key build hash k c.now).known c.now n)
      (λ n. IfNone r (BecomesKnown (Get k) c.now.machine (looked_for key build hash k c.now).known c.now n))

  -- the key has the value that the caller leaves behind the reference, as after `put`; at `Err` the machine is as it was
  abbrev pub LendsPut : {E : Type 0} → MutBor (CacheState K.Denot V.Denot S.Denot) → K.Denot → Result (MutBor V.Denot) E → Fml
  LendsPut c k r =
      LendsSoOk cache_row V c r (λ n w. BecomesKnown (Put k w) (put (key.eq k) k w c.now.machine) (known_with key build hash k c.now) c.now n)
      (λ n. BecomesKnown (Try k None) c.now.machine (looked_for key build hash k c.now).known c.now n)

  -- the key has its slot, where the value is what the caller leaves behind the reference, as after `put`; the counts are raised to their bounds
  abbrev pub LendsTaken : MutBor (CacheState K.Denot V.Denot S.Denot) → K.Denot → MutBor V.Denot → Fml
  LendsTaken c k r = Lends cache_row V c r (λ w. with_slot key build hash k w c.now)

-- What `try_get_or_insert_with` ensures, from what its two calls ensure: the search for the slot, and the loan of the
-- value there.
use Rattle.clock2q_cache.proofs.Names.{arith, ◌≡◌, ℕ, ◌<◌, length, Some, None, Result, Ok, Err, MatchResult, IsOkAnd, IfErr, IfOk, OnErr, OnOk, sym, ◌∙◌, Bor, HashMembers, slice_get, UnwrapsOrElse, CacheState, Reaches, Spends, Fetches, hit-absent, slot_of, value_of, some_is, inspections_for, accesses_for, alike, slots_for, walked, known_with, looked_for, Tries}
use Rattle.std.specs.Borrow.{RattleType}
use Rattle.std.specs.declared.alloc.Allocator as alloc
use Rattle.std.specs.declared.hash.Hasher as hasher
use Rattle.std.specs.declared.hash.BuildHasher as builder
use Rattle.clock2q_cache.proofs.Spent.{costs-of}

module _ (K V S A H : RattleType) (key : HashMembers K.Denot) (build : builder.Ghosts S.Denot H.Denot) (hash : hasher.Ghosts H.Denot) (heap : alloc.Ghosts A.Denot)
    {E : Type 0} (k : K.Denot) (post : Result V.Denot E → Type 0) (old new : CacheState K.Denot V.Denot S.Denot) where
  -- what the search for the slot ensures, clause by clause
  abbrev pub Slot-fetched : Result ℕ E → Type 0
  Slot-fetched found = IfOk found (λ slot. Fetches (key.eq k) k (λ v. post (Ok v)) old.machine slot new.machine)

  abbrev pub Slot-made : Result ℕ E → Type 0
  Slot-made found = IfOk found (λ slot. slot < length new.machine.values)

  abbrev pub Slot-err : Result ℕ E → Type 0
  Slot-err found = IfErr found (λ e. post (Err e))

  abbrev pub Slot-absent : Result ℕ E → Type 0
  Slot-absent found = OnErr found (slot_of (key.eq k) old.machine ≡ None)

  abbrev pub Slot-machine : Result ℕ E → Type 0
  Slot-machine found = OnErr found (new.machine ≡ old.machine)

  abbrev pub Slot-counts : Result ℕ E → Type 0
  Slot-counts found =
      OnOk found (Spends (inspections_for (key.eq k) old.machine) (accesses_for (key.eq k) old.machine) (alike key build hash k old) old.counts new.counts)

  abbrev pub Slot-index : Result ℕ E → Type 0
  Slot-index found = MatchResult found (λ _. Reaches (slots_for key build hash k old) old new) (λ _. Reaches (walked key build hash old k) old new)

  abbrev pub Slot-asked : Result ℕ E → Type 0
  Slot-asked found = OnErr found (Spends 0 0 (alike key build hash k old) old.counts new.counts)

  abbrev pub Slot-known : Result ℕ E → Type 0
  Slot-known found = MatchResult found (λ _. new.known ≡ known_with key build hash k old) (λ _. new.known ≡ (looked_for key build hash k old).known)

  -- all of that except that the slot is made
  pub record Searched (found : Result ℕ E) : Type 0 where
    pub fetched : Slot-fetched found
    pub err : Slot-err found
    pub absent : Slot-absent found
    pub machine : Slot-machine found
    pub hasher : new.hasher ≡ old.hasher
    pub counts : Slot-counts found
    pub index : Slot-index found
    pub asked : Slot-asked found
    pub known : Slot-known found

  -- what the loan of the slot's value ensures
  abbrev pub Lent : Result ℕ E → Result (Bor V.Denot) E → Type 0
  Lent found result = MatchResult found (λ slot. IsOkAnd result (λ value. slice_get new.machine.values slot ≡ Some value.now)) (λ e. result ≡ Err e)

  -- what the whole call ensures, apart from `Tries`
  abbrev pub Has-value : Result (Bor V.Denot) E → Type 0
  Has-value result = IfOk result (λ value. UnwrapsOrElse (value_of (key.eq k) old.machine) (λ v. post (Ok v)) value.now)

  abbrev pub Is-err : Result (Bor V.Denot) E → Type 0
  Is-err result = IfErr result (λ e. post (Err e))

  abbrev pub Is-absent : Result (Bor V.Denot) E → Type 0
  Is-absent result = OnErr result (slot_of (key.eq k) old.machine ≡ None)

  pub record Fetched (result : Result (Bor V.Denot) E) : Type 0 where
    pub tries : Tries K V S A H key build hash heap old k result new
    pub value : Has-value result
    pub err : Is-err result
    pub absent : Is-absent result

  pub fetches : (found : Result ℕ E) (result : Result (Bor V.Denot) E) → Searched found → Lent found result → Fetched result
  fetches (Ok slot) (Ok value) s lent =
      let f = s.fetched in let same = some_is f.value value.now (sym f.there ∙ lent) in
      let becomes = rw same at f.becomes in
      record { tries = (becomes, s.hasher, costs-of becomes s.index s.counts, s.known); value = rw same at f.had; err = tt; absent = tt }
  fetches (Ok slot) (Err e) s lent = absurd lent
  fetches (Err e) result s lent = grind (arith, hit-absent, costs-of)

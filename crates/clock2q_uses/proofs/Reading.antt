-- What `read_through` ensures, from what its two calls ensure: the fetch, and the copy of what it lent.
use Rattle.std.proofs.Common.{◌≡◌, None, Result, Ok, Err, MatchResult, IfOk, IfErr, OnErr, sym, subst}
use Rattle.std.specs.Borrow.{RattleType, Bor}
use Rattle.std.specs.HashMap.Lent.{HashMembers}
use Rattle.std.specs.Option.{UnwrapsOrElse}
use Rattle.std.specs.declared.alloc.Allocator as alloc
use Rattle.std.specs.declared.hash.Hasher as hasher
use Rattle.std.specs.declared.hash.BuildHasher as builder
use Rattle.clock2q_cache.specs.CacheState.{CacheState}
use Rattle.clock2q_cache.specs.CacheLends.{Tries}
use Rattle.clock2q_cache.proofs.Tried.{Has-value, Is-err, Is-absent}
use Rattle.clock2q_machine.specs.Machine.{slot_of, value_of}
use Rattle.clock2q_machine.specs.Steps.{fetched}

-- a copy of the value, or the same error
abbrev pub Copied : {T E : Type 0} → Result (Bor T) E → Result T E → Type 0
Copied lent result = MatchResult lent (λ value. result ≡ Ok value.now) (λ e. result ≡ Err e)

module _ (K V S A H : RattleType) (key : HashMembers K.Denot) (build : builder.Ghosts S.Denot H.Denot) (hash : hasher.Ghosts H.Denot) (heap : alloc.Ghosts A.Denot)
    {E : Type 0} (k : K.Denot) (post : Result V.Denot E → Type 0) (old new : CacheState K.Denot V.Denot S.Denot) where
  abbrev pub Read-machine : Result V.Denot E → Type 0
  Read-machine result = IfOk result (λ value. new.machine ≡ fetched (key.eq k) k value old.machine)

  abbrev pub Read-value : Result V.Denot E → Type 0
  Read-value result = IfOk result (λ value. UnwrapsOrElse (value_of (key.eq k) old.machine) (λ v. post (Ok v)) value)

  abbrev pub Read-err : Result V.Denot E → Type 0
  Read-err result = IfErr result (λ e. post (Err e))

  abbrev pub Read-absent : Result V.Denot E → Type 0
  Read-absent result = OnErr result (slot_of (key.eq k) old.machine ≡ None)

  abbrev pub Unchanged : Result V.Denot E → Type 0
  Unchanged result = OnErr result (new.machine ≡ old.machine)

  pub record Read (result : Result V.Denot E) : Type 0 where
    pub machine : Read-machine result
    pub value : Read-value result
    pub err : Read-err result
    pub absent : Read-absent result
    pub unchanged : Unchanged result
    pub hasher : new.hasher ≡ old.hasher

  pub reads : (lent : Result (Bor V.Denot) E) (result : Result V.Denot E) → Tries K V S A H key build hash heap old k lent new
      → Has-value K V S A H key build hash heap k post old new lent → Is-err K V S A H key build hash heap k post old new lent
      → Is-absent K V S A H key build hash heap k post old new lent → Copied lent result → Read result
  reads (Ok value) result ends had failed absent is =
      subst Read (sym is) (record { machine = ends.0; value = had; err = tt; absent = tt; unchanged = tt; hasher = ends.1 })
  reads (Err e) result ends had failed absent is =
      subst Read (sym is) (record { machine = tt; value = tt; err = failed; absent = absent; unchanged = ends.0; hasher = ends.1 })

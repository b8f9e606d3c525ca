-- What a call that makes room and then inserts promises at each of its ends.
use Rattle.std.proofs.Common.{◌≡◌, ◌≢◌, ℕ, ◌+◌, ◌^◌, ◌<◌, ◌≤◌, Bool, true, false, refl, ap, subst, arith, List, Some, None, Result, Ok, Err, IsOk, IsTrue, IfOk, OnOk, OnErr}
use Rattle.std.specs.Fn.{Mut}
use Rattle.clock2q_handles.specs.declared.error.TableError.{TableError}
use Rattle.clock2q_handles.specs.declared.error.TableError.TheVariants.{Memory, RunTooLong}
use Rattle.clock2q_handles.specs.Changes.{Inserts, IsLaidOut, OnlyReads, PutIn, ReadsAtMost, ReadsWalk, Restores, WritesAtMost}
use Rattle.clock2q_handles.specs.Homes.{candidates, total}
use Rattle.clock2q_handles.specs.Layout.{run, walk}
use Rattle.clock2q_handles.specs.Offers.{FindsOrPuts, Offers}
use Rattle.clock2q_handles.specs.Rehash.{AfterGrowth, AsksHeld}
use Rattle.clock2q_handles.specs.TableStep.{IsBelowCapacity, IsFull, TableValue}
use Rattle.clock2q_handles.proofs.Promises.{no_error}
use Rattle.clock2q_handles.proofs.rebuild.Growing.{MakesRoom}

module _ {H : Type 0} (eq : H → H → Bool) (x : ℕ) (v : H) (old : TableValue H) where
  -- the clauses of insert_within_capacity
  abbrev pub InsertsWithin : Result (Unit {0}) TableError → TableValue H → Type 0
  InsertsWithin result new = record {
    put : PutIn old.homes x v result new.homes;
    refused : OnErr result (new ≡ record old { reads = new.reads });
    few : total old.homes + 1 < 2 ^ 24 → IsOk result;
    writes : WritesAtMost (run old.slots x + 1) old new;
    reads : total old.homes + 1 < 2 ^ 24 → ReadsWalk (walk old.homes x) old new;
    reads_counted : old.reads ≤ new.reads;
    restores : OnOk result (Restores eq x v old new);
    laid : IsLaidOut new;
  }

  -- an insertion at the end of a walk that was read promises them
  pub inserts_within : (r : ℕ) → r ≡ old.reads + walk old.homes x → (result : Result (Unit {0}) TableError) (new : TableValue H) → Inserts eq x v result (record old { reads = r }) new → InsertsWithin result new
  inserts_within r is result new inserts = record {
    put = inserts.put;
    refused = inserts.refused;
    few = inserts.few;
    writes = inserts.writes;
    reads = λ few. omega (arith, inserts.reads few, is);
    reads_counted = omega (arith, inserts.counted, is);
    restores = inserts.restores;
    laid = inserts.laid;
  }

  module _ {M : Type 0} (g : Mut M (H × Unit {0}) Bool) (f last : M) where
    -- the clauses of find_or_put
    abbrev pub FindsWithin : Result (H × Bool) TableError → TableValue H → Type 0
    FindsWithin result new = record {
      settles : FindsOrPuts g f old.homes x v result new.homes last;
      found : IfOk result (λ r. r.1 ≡ false → OnlyReads (walk old.homes x) old new);
      only : result ≢ Err Memory;
      few : total old.homes + 1 < 2 ^ 24 → IsOk result;
      writes : WritesAtMost (run old.slots x + 1) old new;
      reads : total old.homes + 1 < 2 ^ 24 → ReadsAtMost (walk old.homes x) old new;
      reads_counted : old.reads ≤ new.reads;
      restores : IfOk result (λ r. IsTrue r.1 → Restores eq x v old new);
      laid : IsLaidOut new;
    }

    -- a candidate that was accepted
    pub finds_one : (w : H) (new : TableValue H) → OnlyReads (walk old.homes x) old new → Offers g f (candidates old.homes x) (Some w) last → IsLaidOut new → FindsWithin (Ok (w, false)) new
    finds_one w new only offers laid =
        let writes = ap (λ t. t.writes) only.0 in
        record {
          settles = (Some w, offers, (refl, ap (λ t. t.homes) only.0));
          found = λ _. only;
          only = λ e. cc;
          few = λ _. refl;
          writes = (omega (arith, writes), omega (arith, writes));
          reads = λ _. (only.1.0, omega (arith, writes, only.1.1));
          reads_counted = only.1.0;
          restores = λ e. absurd (cc);
          laid = laid;
        }

    module _ (read : TableValue H) (only : OnlyReads (walk old.homes x) old read) (all : read.reads ≡ old.reads + walk old.homes x) (offers : Offers g f (candidates old.homes x) None last) (new : TableValue H) where
      -- none was, and the handle is put in
      pub finds_none : Inserts eq x v (Ok tt) read new → FindsWithin (Ok (v, true)) new
      finds_none inserts =
          let within = inserts_within read.reads all (Ok tt) new (subst (λ t. Inserts eq x v (Ok tt) t new) only.0 inserts) in
          record {
            settles = (None, offers, (refl, within.put.0, within.put.1));
            found = λ e. absurd (cc);
            only = λ e. cc;
            few = λ _. refl;
            writes = within.writes;
            reads = λ few. (within.reads_counted, omega (arith, within.reads few));
            reads_counted = within.reads_counted;
            restores = λ _. within.restores;
            laid = within.laid;
          }

      -- or it is refused
      pub finds_refused : (e : TableError) → Inserts eq x v (Err e) read new → FindsWithin (Err e) new
      finds_refused e inserts =
          let within = inserts_within read.reads all (Err e) new (subst (λ t. Inserts eq x v (Err e) t new) only.0 inserts) in
          let long : e ≡ RunTooLong = within.put.0 in
          record {
            settles = (None, offers, within.put);
            found = tt;
            only = λ is. cc;
            few = within.few;
            writes = within.writes;
            reads = λ few. (within.reads_counted, omega (arith, within.reads few));
            reads_counted = within.reads_counted;
            restores = tt;
            laid = within.laid;
          }

module _ {F H : Type 0} (eq : H → H → Bool) (g : Mut F (H × Unit {0}) ℕ) (f : F) (x : ℕ) (v : H) (old : TableValue H) where
  -- the clauses of insert
  abbrev pub InsertsGrowing : Result (Unit {0}) TableError → TableValue H → Type 0
  InsertsGrowing result new = record {
    put : result ≢ Err Memory → AfterGrowth g f old.homes (λ homes. PutIn homes x v result new.homes);
    memory : result ≡ Err Memory → IsFull old.homes × (new ≡ old);
    few : total old.homes + 1 < 2 ^ 24 → result ≢ Err RunTooLong;
    asks : result ≢ Err Memory → IsFull old.homes → (last : F) × AsksHeld g f old.homes last;
    writes : IsBelowCapacity old.homes → WritesAtMost (run old.slots x + 1) old new;
    reads : IsBelowCapacity old.homes → total old.homes + 1 < 2 ^ 24 → ReadsWalk (walk old.homes x) old new;
    reads_counted : old.reads ≤ new.reads;
    restores : IsBelowCapacity old.homes → OnOk result (Restores eq x v old new);
    laid : IsLaidOut new;
    counted : old.writes ≤ new.writes;
  }

  -- the clauses of find_or_insert
  abbrev pub FindsGrowing : {M : Type 0} → Mut M (H × Unit {0}) Bool → M → Result (H × Bool) TableError → TableValue H → Type 0
  FindsGrowing {M} g' f' result new = record {
    settles : result ≢ Err Memory → (last : M) × AfterGrowth g f old.homes (λ homes. FindsOrPuts g' f' homes x v result new.homes last);
    memory : result ≡ Err Memory → IsFull old.homes × (new ≡ old);
    few : total old.homes + 1 < 2 ^ 24 → result ≢ Err RunTooLong;
    asks : result ≢ Err Memory → IsFull old.homes → (last : F) × AsksHeld g f old.homes last;
    writes : IsBelowCapacity old.homes → WritesAtMost (run old.slots x + 1) old new;
    reads : IsBelowCapacity old.homes → total old.homes + 1 < 2 ^ 24 → ReadsAtMost (walk old.homes x) old new;
    reads_counted : old.reads ≤ new.reads;
    laid : IsLaidOut new;
    found : IsBelowCapacity old.homes → IfOk result (λ r. r.1 ≡ false → OnlyReads (walk old.homes x) old new);
    counted : old.writes ≤ new.writes;
    restores : IsBelowCapacity old.homes → IfOk result (λ r. IsTrue r.1 → Restores eq x v old new);
  }

  module _ (made : TableValue H) (full : IsFull old.homes) (same : made ≡ old) (laid : IsLaidOut made) where
    -- no memory to grow
    pub inserts_not : InsertsGrowing (Err Memory) made
    inserts_not = record {
      put = λ no. absurd (no refl);
      memory = λ _. (full, same);
      few = λ _ e. cc;
      asks = λ no. absurd (no refl);
      writes = λ room. absurd (omega (arith, full, room));
      reads = λ room _. absurd (omega (arith, full, room));
      reads_counted = omega (arith, ap (λ t. t.reads) same);
      restores = λ _. tt;
      laid = laid;
      counted = omega (arith, ap (λ t. t.writes) same);
    }

    pub finds_not : {M : Type 0} (g' : Mut M (H × Unit {0}) Bool) (f' : M) → FindsGrowing g' f' (Err Memory) made
    finds_not g' f' = record {
      settles = λ no. absurd (no refl);
      memory = λ _. (full, same);
      few = λ _ e. cc;
      asks = λ no. absurd (no refl);
      writes = λ room. absurd (omega (arith, full, room));
      reads = λ room _. absurd (omega (arith, full, room));
      reads_counted = omega (arith, ap (λ t. t.reads) same);
      laid = laid;
      found = λ _. tt;
      counted = omega (arith, ap (λ t. t.writes) same);
      restores = λ _. tt;
    }

  -- a refused insertion isn't refused for memory
  refused_otherwise : (before after : List (List (ℕ × H))) (result : Result (Unit {0}) TableError) → PutIn before x v result after → result ≢ Err Memory
  refused_otherwise before after (Ok u) put e = cc
  refused_otherwise before after (Err e) put is = let other = put.0 in cc

  module _ (last : F) (made : TableValue H) (room : MakesRoom g f old last (Ok tt) made) where
    few_still : total old.homes + 1 < 2 ^ 24 → total made.homes + 1 < 2 ^ 24
    few_still few = omega (arith, few, room.as_many)

    -- there is room
    pub inserts_then : (result : Result (Unit {0}) TableError) (new : TableValue H) → InsertsWithin eq x v made result new → InsertsGrowing result new
    inserts_then result new within = record {
      put = λ _ key gives. subst (λ hs. PutIn hs x v result new.homes) (room.grown key gives) within.put;
      memory = λ e. absurd (refused_otherwise _ _ result within.put e);
      few = λ few. no_error result RunTooLong (within.few (few_still few));
      asks = λ _ full. (last, room.asks full);
      writes = λ more. subst (λ t. WritesAtMost (run t.slots x + 1) t new) (room.kept more).1 within.writes;
      reads = λ more few. subst (λ t. ReadsWalk (walk t.homes x) t new) (room.kept more).1 (within.reads (few_still few));
      reads_counted = omega (arith, room.reads, within.reads_counted);
      restores = λ more. subst (λ t. OnOk result (Restores eq x v t new)) (room.kept more).1 within.restores;
      laid = within.laid;
      counted = omega (arith, room.counted, within.writes.0);
    }

    pub finds_then : {M : Type 0} (g' : Mut M (H × Unit {0}) Bool) (f' : M) (last' : M) (result : Result (H × Bool) TableError) (new : TableValue H)
        → FindsWithin eq x v made g' f' last' result new → FindsGrowing g' f' result new
    finds_then g' f' last' result new within = record {
      settles = λ _. (last', λ key gives. subst (λ hs. FindsOrPuts g' f' hs x v result new.homes last') (room.grown key gives) within.settles);
      memory = λ e. absurd (within.only e);
      few = λ few. no_error result RunTooLong (within.few (few_still few));
      asks = λ _ full. (last, room.asks full);
      writes = λ more. subst (λ t. WritesAtMost (run t.slots x + 1) t new) (room.kept more).1 within.writes;
      reads = λ more few. subst (λ t. ReadsAtMost (walk t.homes x) t new) (room.kept more).1 (within.reads (few_still few));
      reads_counted = omega (arith, room.reads, within.reads_counted);
      laid = within.laid;
      found = λ more. subst (λ t. IfOk result (λ r. r.1 ≡ false → OnlyReads (walk t.homes x) t new)) (room.kept more).1 within.found;
      counted = omega (arith, room.counted, within.writes.0);
      restores = λ more. subst (λ t. IfOk result (λ r. IsTrue r.1 → Restores eq x v t new)) (room.kept more).1 within.restores;
    }

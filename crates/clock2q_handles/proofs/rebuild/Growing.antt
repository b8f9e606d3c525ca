-- What a call that grows a full table promises at each of its ends, and one that grows it only if it is full.
use Rattle.std.proofs.Common.{◌≡◌, ℕ, ◌<◌, ◌≤◌, refl, sym, ap, ◌∙◌, subst, arith, length, Result, Ok, Err, IsOk, IsOkUnless, OnOk, OnErr}
use Rattle.std.specs.Fn.{Mut}
use Rattle.clock2q_handles.specs.declared.error.TableError.{TableError}
use Rattle.clock2q_handles.specs.declared.error.TableError.TheVariants.{Memory}
use Rattle.clock2q_handles.specs.Changes.{IsLaidOut}
use Rattle.clock2q_handles.specs.Homes.{capacity, total}
use Rattle.clock2q_handles.specs.Rehash.{AfterGrowth, AsksHeld, GivesHashes, MayRehash}
use Rattle.clock2q_handles.specs.Slots.{IsSlotCount}
use Rattle.clock2q_handles.specs.Table.{IsWholeTable}
use Rattle.clock2q_handles.specs.TableStep.{doubled, rebuilt, IsBelowCapacity, IsFull, TableValue}
use Rattle.clock2q_handles.proofs.Promises.{whole_laid}
use Rattle.clock2q_handles.proofs.rebuild.Growth.{doubled_is, doubled_more, rebuilt_room}
use Rattle.clock2q_handles.proofs.rebuild.Hashes.{rebuilt-total}

module _ {F H : Type 0} (g : Mut F (H × Unit {0}) ℕ) (f : F) (old : TableValue H) where
  -- the clauses of grow
  abbrev pub Grows : F → Result (Unit {0}) TableError → TableValue H → Type 0
  Grows last result new = record {
    grown : OnOk result ((key : H → ℕ) → GivesHashes g key old.homes f → new.homes ≡ rebuilt key (doubled (length old.homes)) old.homes);
    room : OnOk result (IsBelowCapacity new.homes);
    asks : OnOk result (AsksHeld g f old.homes last);
    refused : OnErr result (new ≡ old);
    unasked : OnErr result (last ≡ f);
    as_many : total new.homes ≡ total old.homes;
    only : IsOkUnless result Memory;
    laid : IsLaidOut new;
    counted : old.writes ≤ new.writes;
    reads : old.reads ≤ new.reads;
  }

  -- no memory for the slots
  pub grows_not : (last : F) → last ≡ f → IsLaidOut old → Grows last (Err Memory) old
  grows_not last same laid =
      record { grown = tt; room = tt; asks = tt; refused = refl; unasked = same; as_many = refl; only = refl; laid = laid; counted = omega arith; reads = omega arith }

  -- twice the slots, or 16 of them
  pub grows_to : (m : ℕ) → m ≡ doubled (length old.homes) → IsSlotCount (length old.homes) → IsFull old.homes → MayRehash g f old.homes → (last : F) {new : TableValue H}
      → ((key : H → ℕ) → GivesHashes g key old.homes f → new.homes ≡ rebuilt key m old.homes) → AsksHeld g f old.homes last → IsLaidOut new → old.writes ≤ new.writes → old.reads ≤ new.reads
      → Grows last (Ok tt) new
  grows_to m is is_count full asked last {new} made asks laid writes reads =
      let homes = old.homes in
      let key = asked.0 in
      let at = made key asked.1 in
      let room : total homes ≤ capacity (length homes) = omega (arith, full) in
      let some : 0 < m = omega (arith, is) in
      let fits : total homes < capacity m = omega (arith, full, is, doubled_more homes (length homes) refl is_count, doubled_is homes (length homes) refl is_count) in
      record {
        grown = λ k gives. made k gives ∙ ap (λ n. rebuilt k n homes) is;
        room = subst (λ hs. total hs < capacity (length hs)) (sym at) (rebuilt_room key homes m room some fits);
        asks = asks;
        refused = tt;
        unasked = tt;
        as_many = ap total at ∙ rebuilt-total key homes m room some;
        only = tt;
        laid = laid;
        counted = writes;
        reads = reads;
      }

  -- the clauses of make_room
  abbrev pub MakesRoom : F → Result (Unit {0}) TableError → TableValue H → Type 0
  MakesRoom last result new = record {
    grown : OnOk result (AfterGrowth g f old.homes (λ homes. new.homes ≡ homes));
    room : OnOk result (IsBelowCapacity new.homes);
    kept : IsBelowCapacity old.homes → IsOk result × (new ≡ old);
    asks : OnOk result (IsFull old.homes → AsksHeld g f old.homes last);
    quiet : IsBelowCapacity old.homes → last ≡ f;
    full : OnErr result (IsFull old.homes);
    refused : OnErr result (new ≡ old);
    unasked : OnErr result (last ≡ f);
    as_many : total new.homes ≡ total old.homes;
    only : IsOkUnless result Memory;
    laid : IsLaidOut new;
    counted : old.writes ≤ new.writes;
    reads : old.reads ≤ new.reads;
  }

  -- a full table grows
  pub makes_room : IsFull old.homes → (last : F) (new : TableValue H) (result : Result (Unit {0}) TableError) → Grows last result new → MakesRoom last result new
  makes_room full last new (Ok u) grows = record {
    grown = λ key gives. let at = grows.grown key (gives full) in grind (arith, at, full);
    room = grows.room;
    kept = λ room. absurd (omega (arith, full, room));
    asks = λ _. grows.asks;
    quiet = λ room. absurd (omega (arith, full, room));
    full = tt;
    refused = tt;
    unasked = tt;
    as_many = grows.as_many;
    only = tt;
    laid = grows.laid;
    counted = grows.counted;
    reads = grows.reads;
  }
  makes_room full last new (Err e) grows = record {
    grown = tt;
    room = tt;
    kept = λ room. absurd (omega (arith, full, room));
    asks = tt;
    quiet = λ room. absurd (omega (arith, full, room));
    full = full;
    refused = grows.refused;
    unasked = grows.unasked;
    as_many = grows.as_many;
    only = grows.only;
    laid = grows.laid;
    counted = grows.counted;
    reads = grows.reads;
  }

  -- any other has room
  pub has_room : IsWholeTable old → (IsFull old.homes → ⊥) → MakesRoom f (Ok tt) old
  has_room whole more = record {
    grown = λ key gives. grind (arith, more);
    room = omega (arith, whole.room, more);
    kept = λ _. (refl, refl);
    asks = λ full. absurd (more full);
    quiet = λ _. refl;
    full = tt;
    refused = tt;
    unasked = tt;
    as_many = refl;
    only = tt;
    laid = whole_laid old whole;
    counted = omega arith;
    reads = omega arith;
  }

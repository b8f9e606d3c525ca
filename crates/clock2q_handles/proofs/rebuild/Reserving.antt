-- What a call of `reserve` promises at each of its ends.
use Rattle.std.proofs.Common.{◌≡◌, ◌≢◌, ◌↔◌, ℕ, ◌+◌, ◌^◌, ◌<◌, ◌≤◌, inl, inr, refl, sym, subst, arith, length, Result, Ok, Err, IsOk, OnOk, OnErr}
use Rattle.std.specs.Fn.{Mut}
use Rattle.clock2q_handles.specs.declared.error.TableError.{TableError}
use Rattle.clock2q_handles.specs.declared.error.TableError.TheVariants.{Memory, Size, RunTooLong}
use Rattle.clock2q_handles.specs.Changes.{IsLaidOut, IsNearer}
use Rattle.clock2q_handles.specs.Homes.{capacity, count, total}
use Rattle.clock2q_handles.specs.Layout.{spill_of}
use Rattle.clock2q_handles.specs.Rehash.{AsksHeld, GivesHashes, MayRehash}
use Rattle.clock2q_handles.specs.Slots.{IsSlotCount}
use Rattle.clock2q_handles.specs.Table.{IsWholeTable}
use Rattle.clock2q_handles.specs.TableStep.{fit, rebuilt, reserved, IsPastSize, IsShortOf, TableValue}
use Rattle.clock2q_handles.proofs.Promises.{whole_laid}
use Rattle.clock2q_handles.proofs.layout.TidyLayout.{capacity-lt}
use Rattle.clock2q_handles.proofs.layout.TooLong.{rebuilt-reach}
use Rattle.clock2q_handles.proofs.rebuild.Growth.{larger_multiple}

module _ {F H : Type 0} (g : Mut F (H × Unit {0}) ℕ) (f : F) (n : ℕ) (old : TableValue H) where
  -- the clauses of the call
  abbrev pub Reserves : Result (Unit {0}) TableError → TableValue H → Type 0
  Reserves result new = record {
    reserved : OnOk result ((key : H → ℕ) → (IsShortOf old.homes n → GivesHashes g key old.homes f) → new.homes ≡ reserved key old.homes n);
    kept : total old.homes + n ≤ capacity (length old.homes) → total old.homes + n < 2 ^ 64 → IsOk result × (new ≡ old);
    asks : OnOk result (IsShortOf old.homes n → (last : F) × AsksHeld g f old.homes last);
    size : (result ≡ Err Size) ↔ IsPastSize old.homes n;
    memory : result ≡ Err Memory → IsShortOf old.homes n;
    only : result ≢ Err RunTooLong;
    refused : OnErr result (new ≡ old);
    laid : IsLaidOut new;
    counted : old.writes ≤ new.writes;
    reads : old.reads ≤ new.reads;
    nearer : IsNearer old.homes new.homes;
  }

  module _ (whole : IsWholeTable old) where
    -- too many entries or slots
    pub reserves_past : IsPastSize old.homes n → Reserves (Err Size) old
    reserves_past past = record {
      reserved = tt;
      kept = λ room few. absurd (elim past [ inl many ↦ omega (arith, many, few) | inr short ↦ omega (arith, short.0, room) ]);
      asks = tt;
      size = (λ _. past, λ _. refl);
      memory = λ e. absurd (cc);
      only = λ e. cc;
      refused = refl;
      laid = whole_laid old whole;
      counted = omega arith;
      reads = omega arith;
      nearer = λ x. omega arith;
    }

    -- room already
    pub reserves_nothing : total old.homes + n ≤ capacity (length old.homes) → total old.homes + n < 2 ^ 64 → Reserves (Ok tt) old
    reserves_nothing room few = record {
      reserved = λ key gives. grind arith;
      kept = λ _ _. (refl, refl);
      asks = λ short. absurd (omega (arith, short, room));
      size = (λ e. absurd (cc), λ past. absurd (elim past [ inl many ↦ omega (arith, many, few) | inr short ↦ omega (arith, short.0, room) ]));
      memory = λ e. absurd (cc);
      only = λ e. cc;
      refused = tt;
      laid = whole_laid old whole;
      counted = omega arith;
      reads = omega arith;
      nearer = λ x. omega arith;
    }

    module _ (short : IsShortOf old.homes n) (few : total old.homes + n < 2 ^ 64) (counts : fit (total old.homes + n) < 2 ^ 64) where
      not_past : IsPastSize old.homes n → ⊥
      not_past past = elim past [ inl many ↦ omega (arith, many, few) | inr more ↦ omega (arith, more.1, counts) ]

      -- no memory for the slots
      pub reserves_failed : Reserves (Err Memory) old
      reserves_failed = record {
        reserved = tt;
        kept = λ room _. absurd (omega (arith, short, room));
        asks = tt;
        size = (λ e. absurd (cc), λ past. absurd (not_past past));
        memory = λ _. short;
        only = λ e. cc;
        refused = refl;
        laid = whole_laid old whole;
        counted = omega arith;
        reads = omega arith;
        nearer = λ x. omega arith;
      }

      -- more slots
      pub reserves_more : (m : ℕ) → IsSlotCount m → m ≡ fit (total old.homes + n) → total old.homes + n ≤ capacity m → (asked : MayRehash g f old.homes) → {new : TableValue H} (last : F)
          → ((key : H → ℕ) → GivesHashes g key old.homes f → new.homes ≡ rebuilt key m old.homes) → AsksHeld g f old.homes last → IsLaidOut new → old.writes ≤ new.writes → old.reads ≤ new.reads
          → Reserves (Ok tt) new
      reserves_more m is_count is enough asked {new} last made asks laid writes reads =
          let homes = old.homes in
          let more : capacity (length homes) < capacity m = omega (arith, short, enough) in
          let fits : total homes < m = omega (arith, enough, short, capacity-lt m (omega (arith, more))) in
          let near = rebuilt-reach asked.0 homes m whole.room fits (larger_multiple homes _ refl whole.slot_count m is_count more) asked.1.hashes in
          record {
            reserved = λ key gives. let at = made key (gives short) in grind (arith, at);
            kept = λ room _. absurd (omega (arith, short, room));
            asks = λ _. (last, asks);
            size = (λ e. absurd (cc), λ past. absurd (not_past past));
            memory = λ e. absurd (cc);
            only = λ e. cc;
            refused = tt;
            laid = laid;
            counted = writes;
            reads = reads;
            nearer = λ x. subst (λ hs. spill_of hs x + count hs x ≤ spill_of homes x + count homes x) (sym (made asked.0 asked.1)) (near x);
          }

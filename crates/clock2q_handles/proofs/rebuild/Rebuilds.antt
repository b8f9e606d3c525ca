-- A rebuild, slot by slot: the calls of the closure, and what is in the next slot.
use Rattle.std.proofs.Common.{◌≡◌, ℕ, ◌+◌, ◌*◌, ◌<◌, refl, ap, sym, ◌∙◌, subst, arith, add-one, List, [], ◌∷◌, ◌++◌, map, take, drop, length, Option, Some, None, IfSome, mod-eq_of_lt, drop-cons}
use Rattle.std.proofs.lemmas.Bool.{cases_lt}
use Rattle.std.proofs.lemmas.List.{map-append, append-nil, length-append}
use Rattle.std.specs.Fn.{Called, Takes, Mut}
use Rattle.clock2q_handles.specs.Homes.{capacity, total, no_entries, with_handle}
use Rattle.clock2q_handles.specs.Layout.{Placed, slot_at, reach, entries, homes_of, IsTooLong}
use Rattle.clock2q_handles.specs.Moves.{MayMove, Moves}
use Rattle.clock2q_handles.specs.Rehash.{GivesHashes, AnswersInTurn, Asks}
use Rattle.clock2q_handles.specs.Candidates.{EndsAt}
use Rattle.clock2q_handles.specs.Shifts.{HasRoomAt, PutsAt}
use Rattle.clock2q_handles.specs.Slots.{Mark}
use Rattle.clock2q_handles.specs.Table.{IsTable}
use Rattle.clock2q_handles.specs.TableStep.{put_all}
use Rattle.clock2q_handles.proofs.layout.FewerEntries.{total-put_all, put_all-push, total-no_entries}
use Rattle.clock2q_handles.proofs.layout.TidyLayout.{length-homes_of, tidy-layout, tidy-total, tidy-room, capacity-lt}
use Rattle.clock2q_handles.proofs.layout.TooLong.{rebuilding-short}
use Rattle.clock2q_handles.proofs.rebuild.Hashes.{entries-more, entries-split, entries-all, hash-slot, rebuilt-total}
use Rattle.clock2q_handles.proofs.layout.Tables.{table-empty, table-short, homes_of-empty, length-nothing}
use Rattle.clock2q_handles.proofs.shifts.Insertions.{Insertion, short_room, inserted}

module _ {F H : Type 0} (g : Mut F (H × Unit {0}) ℕ) (key : H → ℕ) where
  -- one more call
  Asks-push : (f : F) (hs : List H) (f' : F) (h : H) (next : F) → Asks g key f hs f' → Called g f' (h, tt) (key h) next → Asks g key f (hs ++ h ∷ []) next
  Asks-push f [] f' h next so_far called = (next, subst (λ s. Called g s (h, tt) (key h) next) so_far called, refl)
  Asks-push f (x ∷ hs) f' h next so_far called = (so_far.0, so_far.1, Asks-push so_far.0 hs f' h next so_far.2 called)

-- slot i has an entry with the handle v
pub record Holds {H : Type 0} (slots : List (Option (Placed (ℕ × H)))) (i : ℕ) (v : H) : Type 0 where
  pub occupied : 0 < reach (slot_at slots i)
  pub handle : IfSome (slot_at slots i) (λ p. v ≡ p.entry.1)

entry_of : {H : Type 0} (o : Option (Placed (ℕ × H))) (v : H) → 0 < reach o → IfSome o (λ p. v ≡ p.entry.1) → (s : Placed (ℕ × H)) × (o ≡ Some s) × (v ≡ s.entry.1)
entry_of None v some handle = absurd (omega (arith, some))
entry_of (Some s) v some handle = (s, refl, handle)

module _ {F H : Type 0} (g : Mut F (H × Unit {0}) ℕ) where
  -- the handles by slot
  abbrev handles : List (Option (Placed (ℕ × H))) → List H
  handles slots = map (λ s. s.entry.1) (entries slots)

  -- the first i slots of old have been moved, and f has become last
  pub record MovedSo (f last : F) (old from new : List (Option (Placed (ℕ × H)))) (i : ℕ) : Type 0 where
    pub table : IsTable new (total (homes_of new))
    pub len : length new ≡ length from
    pub built : (key : H → ℕ) → GivesHashes g key (homes_of old) f → homes_of new ≡ put_all key (no_entries (length from)) (entries (take i old))
    pub asked : (key : H → ℕ) → GivesHashes g key (homes_of old) f → Asks g key f (handles (take i old)) last
    pub rest : (key : H → ℕ) → GivesHashes g key (homes_of old) f → AnswersInTurn g key last (handles (drop i old))

  module _ {f : F} {old from : List (Option (Placed (ℕ × H)))} (may : MayMove g f old from) where
    abbrev homes : List (List (ℕ × H))
    homes = homes_of old

    pub moving_begins : MovedSo f f old from from 0
    moving_begins =
        grind (arith, homes_of-empty (ℕ × H) (length from), table-empty H (length from) may.slot_count, tidy-layout old may.table.tidy, λ (k : H → ℕ) (gives : GivesHashes g k homes f). gives.in_turn)

    module _ {last : F} {new : List (Option (Placed (ℕ × H)))} {i : ℕ} (so_far : MovedSo f last old from new i) where
      -- an empty slot adds nothing
      pub moving_past : i < length old → slot_at old i ≡ None → MovedSo f last old from new (i + 1)
      moving_past within empty =
          let before : entries (take (i + 1) old) ≡ entries (take i old) = grind (arith, empty, entries-more old i within, append-nil) in
          let after : entries (drop i old) ≡ entries (drop (i + 1) old) = rw (add-one, drop-cons old i None within, rw (mod-eq_of_lt within) at empty) refl in
          grind (arith, before, after)

      module _ (within : i < length old) {v : H} (holds : Holds old i v) where
        abbrev held : (s : Placed (ℕ × H)) × (slot_at old i ≡ Some s) × (v ≡ s.entry.1)
        held = entry_of (slot_at old i) v holds.occupied holds.handle

        -- in the handles by slot, v follows those of the slots before
        handles_more : handles (take (i + 1) old) ≡ handles (take i old) ++ v ∷ []
        handles_more = grind (arith, held, entries-more old i within, map-append {A = Placed (ℕ × H)} {B = H} (λ s. s.entry.1))

        next_at : (key : H → ℕ) → GivesHashes g key homes f → AnswersInTurn g key last (v ∷ handles (drop (i + 1) old))
        next_at key gives = grind (arith, held, so_far.rest key gives, drop-cons old i None within, mod-eq_of_lt within)

        -- f may be called on the handle there
        pub moving_takes : Takes g last (v, tt)
        moving_takes = (next_at may.asked.0 may.asked.1).0

        module _ {r : ℕ} {next : F} (called : Called g last (v, tt) r next) where
          answered : (key : H → ℕ) → GivesHashes g key homes f → r ≡ key v
          answered key gives = ((next_at key gives).1 r next called).0

          -- the lists with that entry
          with_next : (key : H → ℕ) → GivesHashes g key homes f → with_handle (homes_of new) r v ≡ put_all key (no_entries (length from)) (entries (take (i + 1) old))
          with_next key gives =
              let hash = hash-slot key old may.table.tidy gives.hashes i held.0 within held.1 in
              let push = put_all-push key (no_entries (length from)) (entries (take i old)) held.0 in
              grind (arith, held.1, held.2, answered key gives, so_far.built key gives, entries-more old i within, hash, push)

          room : total (homes_of new) < capacity (length new)
          room =
              let made = so_far.built may.asked.0 may.asked.1 in
              let few : length (entries (take i old)) < length (entries old) = grind (arith, held.1, entries-split old i held.0, mod-eq_of_lt within, length-append) in
              grind (arith, made, few, so_far.len, may.fits, tidy-total old may.table.tidy, total-put_all, total-no_entries may.asked.0 (length from), length-nothing)

          -- there are slots to put it in
          pub moving_some : 0 < length new
          moving_some = omega (arith, room)

          -- and room for it at the end of its walk
          pub moving_room : {mark : Mark} {s : ℕ} → EndsAt new r mark s → HasRoomAt new mark s
          moving_room ends =
              let key = may.asked.0 in
              let k = may.multiple (omega (arith, within)) in
              let less : total homes < length homes = omega (arith, tidy-room old may.table.tidy, capacity-lt (length homes), length-homes_of old, within) in
              short_room so_far.table (record { fits = room; ends = ends }) v (λ long. rebuilding-short key homes k.0 (i + 1) less
              (grind (arith, k.1, so_far.len, room, length-homes_of old)) may.asked.1.hashes (table-short old (total homes) may.table)
              (subst IsTooLong (with_next key may.asked.1 ∙ ap (λ m. put_all key (no_entries m) (entries (take (i + 1) old))) (k.1 ∙ ap (λ m. k.0 * m) (sym (length-homes_of old)))
              ∙ ap (λ ss. put_all key (no_entries (k.0 * length homes)) (entries (take (i + 1) ss))) (tidy-layout old may.table.tidy)) long))

          pub moving_on : {mark : Mark} {s : ℕ} {others : List (Option (Placed (ℕ × H)))} {before after : ℕ}
              → EndsAt new r mark s → PutsAt new others mark s v before after → MovedSo f next old from others (i + 1)
          moving_on {mark} {s} {others} {before} {after} ends puts =
              let done : Insertion r v new others (total (homes_of new)) before after = inserted so_far.table (record { fits = room; ends = ends }) (moving_room ends) puts in
              record {
                table = subst (IsTable others) done.table.counted done.table;
                len = puts.len ∙ so_far.len;
                built = λ key gives. done.homes ∙ with_next key gives;
                asked = λ key gives. rw handles_more (Asks-push g key f (handles (take i old)) last v next
                    (so_far.asked key gives) (subst (λ n. Called g last (v, tt) n next) (answered key gives) called));
                rest = λ key gives. ((next_at key gives).1 r next called).1;
              }

    -- once every slot has been moved, so has every entry
    pub moving_ends : {last : F} {new : List (Option (Placed (ℕ × H)))} {i : ℕ} → i ≡ length old → MovedSo f last old from new i → Moves g f last old from new
    moving_ends {last = last} {new = new} {i = i} all so_far =
        grind (arith, entries-all, tidy-layout, cases_lt, rebuilt-total, tidy-room, tidy-room, length-homes_of)

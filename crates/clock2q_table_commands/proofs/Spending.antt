-- What commands that a table has room for leave of its lists, and what a run of them costs.
use Rattle.std.proofs.Common.{◌≡◌, ℕ, ◌+◌, ◌<◌, ◌≤◌, arith, sym, ap, ◌∙◌, subst, Bool, true, false, List, [], ◌∷◌, drop, length, get_or, Some, None}
use Rattle.std.specs.declared.vec.Vec.{Vec}
use Rattle.std.proofs.lemmas.List.{drop_all, drop_more}
use Rattle.clock2q_handles.specs.Changes.{WritesAtMost, ReadsAtMost}
use Rattle.clock2q_handles.specs.Homes.{capacity, total, with_handle}
use Rattle.clock2q_handles.specs.Layout.{IsTooLong}
use Rattle.clock2q_handles.specs.TableStep.{TableValue, HasSpare, grown, reserved}
use Rattle.clock2q_handles.specs.declared.error.TableError.TheVariants.{Memory, Size, RunTooLong}
use Rattle.clock2q_handles.proofs.Promises.{few_fit}
use Rattle.clock2q_table_commands.specs.TableCommands.{IsReplied, RepliesToInsert, RepliesToFind}
use Rattle.clock2q_table_commands.specs.TableCosts.{HasRoomFor, HaveRoom, Spends, left_by, most_walked, most_written, summed}
use Rattle.clock2q_table_commands.specs.declared.table_commands.TableCommand.{TableCommand}
use Rattle.clock2q_table_commands.specs.declared.table_commands.TableCommand.TheVariants.{Insert, Remove, Find, Reserve, Get}
use Rattle.clock2q_table_commands.specs.declared.table_commands.TableReply.{TableReply}
use Rattle.clock2q_table_commands.specs.declared.table_commands.TableReply.TheVariants.{Done, Removed, Found, Handles, Refused}

module _ {H : Type 0} where
  -- a table that has room doesn't grow
  grown_not : (key : H → ℕ) (homes : List (List (ℕ × H))) → HasSpare homes → grown key homes ≡ homes
  grown_not key homes spare = grind (arith, spare.room)

  reserved_not : (key : H → ℕ) (homes : List (List (ℕ × H))) (n : ℕ) → total homes + n ≤ capacity (length homes) → reserved key homes n ≡ homes
  reserved_not key homes n room = grind arith

module _ {H : Type 0} (A : Type 0) (eq : H → H → Bool) (key : H → ℕ) where
  inserted : (v : H) (old : List (List (ℕ × H))) (reply : TableReply H (Vec H A)) (new : List (List (ℕ × H))) → HasSpare old → RepliesToInsert eq key v old reply new
      → new ≡ with_handle old (key v) v
  inserted v old Done new spare r = r.0 ∙ ap (λ hs. with_handle hs (key v) v) (grown_not key old spare)
  inserted v old (Removed was) new spare r = absurd r
  inserted v old (Found c is_new) new spare r = absurd r
  inserted v old (Handles handles) new spare r = absurd r
  inserted v old (Refused RunTooLong) new spare r =
      let long = subst (λ hs. IsTooLong (with_handle hs (key v) v)) (grown_not key old spare) r.1 in absurd (few_fit old (key v) v spare.room spare.few long)
  inserted v old (Refused Memory) new spare r = absurd (omega (arith, r.1, spare.room))
  inserted v old (Refused Size) new spare r = absurd r

  -- what a command leaves of the lists
  left-replied : (command : TableCommand H (Vec H A)) (old : List (List (ℕ × H))) (reply : TableReply H (Vec H A)) (new : List (List (ℕ × H))) → HasRoomFor command old
      → IsReplied eq key command old reply new → new ≡ left_by eq key command old
  left-replied (Insert v) old reply new room r = inserted v old reply new room r
  left-replied (Remove x v) old Done new room r = absurd r
  left-replied (Remove x v) old (Removed was) new room r = r.1
  left-replied (Remove x v) old (Found c is_new) new room r = absurd r
  left-replied (Remove x v) old (Handles handles) new room r = absurd r
  left-replied (Remove x v) old (Refused e) new room r = absurd r
  left-replied (Find v accepted) old Done new room r = absurd r
  left-replied (Find v accepted) old (Removed was) new room r = absurd r
  left-replied (Find v accepted) old (Found c true) new room r = let q = rw (grown_not key old room) at r in grind (arith, q.0, q.2.0)
  left-replied (Find v accepted) old (Found c false) new room r = let q = rw (grown_not key old room) at r in grind (arith, q.0, q.1)
  left-replied (Find v accepted) old (Handles handles) new room r = absurd r
  left-replied (Find v accepted) old (Refused RunTooLong) new room r = let q = rw (grown_not key old room) at r in absurd (few_fit old (key v) v room.room room.few q.1.1)
  left-replied (Find v accepted) old (Refused Memory) new room r = absurd (omega (arith, r.1, room.room))
  left-replied (Find v accepted) old (Refused Size) new room r = absurd r
  left-replied (Reserve n) old Done new room r = r.0 ∙ reserved_not key old n room
  left-replied (Reserve n) old (Removed was) new room r = absurd r
  left-replied (Reserve n) old (Found c is_new) new room r = absurd r
  left-replied (Reserve n) old (Handles handles) new room r = absurd r
  left-replied (Reserve n) old (Refused RunTooLong) new room r = absurd r
  left-replied (Reserve n) old (Refused Memory) new room r = r.0
  left-replied (Reserve n) old (Refused Size) new room r = r.0
  left-replied (Get x) old Done new room r = absurd r
  left-replied (Get x) old (Removed was) new room r = absurd r
  left-replied (Get x) old (Found c is_new) new room r = absurd r
  left-replied (Get x) old (Handles handles) new room r = r.1
  left-replied (Get x) old (Refused RunTooLong) new room r = absurd r
  left-replied (Get x) old (Refused Memory) new room r = r
  left-replied (Get x) old (Refused Size) new room r = absurd r

  -- of all the commands these are left: there is room for them, and what was spent leaves them their bounds
  pub record IsSpent (all rest : List (TableCommand H (Vec H A))) (start now : TableValue H) : Type 0 where
    pub room : HaveRoom eq key rest now.homes
    pub writes : (start.writes ≤ now.writes) × (now.writes + summed eq key (most_written key) rest now.homes ≤ start.writes + summed eq key (most_written key) all start.homes)
    pub reads : (start.reads ≤ now.reads)
        × (now.reads + start.writes + summed eq key (most_walked key) rest now.homes ≤ start.reads + now.writes + summed eq key (most_walked key) all start.homes)

  pub spent_begins : (all : List (TableCommand H (Vec H A))) (start : TableValue H) → HaveRoom eq key all start.homes → IsSpent all all start start
  spent_begins all start room = record { room = room; writes = (omega arith, omega arith); reads = (omega arith, omega arith) }

  spent_goes : (all rest : List (TableCommand H (Vec H A))) (c : TableCommand H (Vec H A)) (start now next : TableValue H) → IsSpent all (c ∷ rest) start now
      → Spends (most_written key c now.homes) (most_walked key c now.homes) now next → next.homes ≡ left_by eq key c now.homes → IsSpent all rest start next
  spent_goes all rest c start now next spent spends left = record {
    room = subst (HaveRoom eq key rest) (sym left) spent.room.1;
    writes = (
      omega (arith, spent.writes.0, spends.writes.0),
      omega (arith, spent.writes.1, spends.writes.1, ap (summed eq key (most_written key) rest) left),
    );
    reads = (
      omega (arith, spent.reads.0, spends.reads.0),
      omega (arith, spent.reads.1, spends.reads.1, ap (summed eq key (most_walked key) rest) left),
    );
  }

  -- one more command has its reply
  pub spent_more : (all : List (TableCommand H (Vec H A))) (i : ℕ) (c d : TableCommand H (Vec H A)) (reply : TableReply H (Vec H A)) (start now next : TableValue H)
      → i < length all → c ≡ get_or all i d → IsSpent all (drop i all) start now → IsReplied eq key c now.homes reply next.homes
      → (HasRoomFor c now.homes → Spends (most_written key c now.homes) (most_walked key c now.homes) now next) → IsSpent all (drop (i + 1) all) start next
  spent_more all i c d reply start now next within is spent replied spends =
      let here = subst (λ cs. IsSpent all cs start now) (drop_more all i d within ∙ ap (λ e. e ∷ drop (i + 1) all) (sym is)) spent in
      spent_goes all (drop (i + 1) all) c start now next here (spends here.room.0) (left-replied c now.homes reply next.homes here.room.0 replied)

  spent_none : (all : List (TableCommand H (Vec H A))) (start now : TableValue H) → IsSpent all [] start now
      → WritesAtMost (summed eq key (most_written key) all start.homes) start now × ReadsAtMost (summed eq key (most_walked key) all start.homes) start now
  spent_none all start now spent = ((omega (arith, spent.writes.0), omega (arith, spent.writes.1)), (omega (arith, spent.reads.0), omega (arith, spent.reads.1)))

  -- none is left
  pub spent_ended : (all : List (TableCommand H (Vec H A))) (i : ℕ) (start now : TableValue H) → length all ≤ i → IsSpent all (drop i all) start now
      → WritesAtMost (summed eq key (most_written key) all start.homes) start now × ReadsAtMost (summed eq key (most_walked key) all start.homes) start now
  spent_ended all i start now end spent = spent_none all start now (subst (λ cs. IsSpent all cs start now) (drop_all i all end) spent)

use Rattle.std.proofs.Common.{◌≡◌, ◌+◌, ℕ, Option, ap, arith}
use Rattle.clock2q_handles.specs.Layout.{homes_of, walk}
use Rattle.clock2q_handles.specs.Positions.{GapValue, walk_to_gap}
use Rattle.clock2q_handles.specs.Slots.{SlotsValue}
use Rattle.clock2q_handles.specs.Table.{IsTable}
use Rattle.clock2q_handles.specs.TableStep.{TableValue, table_value}
use Rattle.clock2q_handles.proofs.shifts.Calls.{end_here, end_of_gap, end_room, putting}
use Rattle.clock2q_handles.proofs.shifts.Insertions.{IsEnd, end_within, inserted}
use Rattle.clock2q_handles.proofs.walks.Finding.{ends_reads}
use Rattle.clock2q_handles.proofs.table.Table.insert_at_gap.Given.{Over}
use Rattle.clock2q_handles.proofs.table.Table.insert_at_gap.Goals.{Joined-gap, in-Some, in-None}
use Rattle.clock2q_handles.proofs.table.Table.insert_at_gap.Goals as goal

-- the gap is where the walk for the hash ends, and nothing changed but for the reads of that walk
record Come {H : Type 0} (old : TableValue H) (given : Option GapValue) (x r : ℕ) (slots : SlotsValue H) (reads len : ℕ) (gap : GapValue) : Type 0 where
  table : IsTable slots.slots len
  is : table_value (homes_of slots.slots) slots.slots slots.writes r ≡ old
  end : IsEnd slots.slots x gap.mark gap.position
  counted : reads ≡ r + walk_to_gap given old.homes x

come : (g : Over) (c : Joined-gap g) → Come c.args.self.now c.args.gap c.args.hash c.self.inside.reads.total c.match-gap.self-inside.slots c.match-gap.self-inside.reads.total c.match-gap.self-inside.len c.match-gap.gap
come g c =
    let room = c.requires.spare.room in
    elim c.match-gap.branch [
      | in-Some w ↦
          rw (w.self-inside-is, w.gap-is) (record {
            table = c.self.invariant;
            is = c.self.view_is;
            end = end_of_gap c.self.invariant c.self.view_is room (rw w.in-Some.is at c.requires.gap);
            counted = rw w.in-Some.is (omega arith);
          })
      | in-None w ↦
          let read = ends_reads c.self.inside.slots.slots c.self.invariant.tidy c.args.hash w.gap-gap.result.position w.gap-gap.result.mark w.gap-gap.ensures.ends in
          rw (w.self-inside-is, w.gap-is) (record {
            table = c.self.invariant;
            is = c.self.view_is;
            end = end_here c.self.invariant c.self.view_is room w.gap-gap.ensures.ends;
            counted = rw w.in-None.is (omega (arith, read, ap (λ t. walk t.homes c.args.hash) c.self.view_is, w.gap-gap.ensures.reads));
          })
    ]

pub put_at-requires : goal.put_at-requires
put_at-requires g c =
    let at = come g (goal.at.put_at-requires g c).Joined-gap in
    record { tidy = at.table.tidy; within = end_within at.table at.end; room = end_room at.table at.is c.requires.spare.few at.end }

pub invariant_of-self : goal.invariant_of-self
invariant_of-self g c =
    let at = come g (goal.at.invariant_of-self g c).Joined-gap in
    (inserted at.table at.end (end_room at.table at.is c.requires.spare.few at.end) c.put_at.ensures.puts).table

pub returns : goal.returns
returns g c =
    let at = come g (goal.at.returns g c).Joined-gap in
    let done = putting at.table at.is g.H.PartialEq.eq at.end (end_room at.table at.is c.requires.spare.few at.end) c.put_at.ensures.puts
    (g.met.H.Eq.laws.refl c.args.handle) c.put_at.new.reads.total (walk_to_gap c.args.gap c.args.self.now.homes c.args.hash) (omega (arith, at.counted, c.put_at.ensures.reads)) in
    record { put = done.put; writes = done.writes; reads = done.reads; restores = done.restores; laid = done.laid }

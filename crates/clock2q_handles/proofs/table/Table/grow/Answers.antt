use Rattle.std.proofs.Common.{◌≡◌, Ok, Err, length, sym, ap, ◌∙◌, subst, arith}
use Rattle.std.proofs.lemmas.Result.{err_from_is_err_and}
use Rattle.clock2q_handles.specs.Changes.{IsLaidOut}
use Rattle.clock2q_handles.specs.Slots.{IsSlotCount}
use Rattle.clock2q_handles.specs.declared.error.TableError.TheVariants.{Memory}
use Rattle.clock2q_handles.proofs.layout.TidyLayout.{length-homes_of}
use Rattle.clock2q_handles.proofs.rebuild.Growing.{Grows, grows_not, grows_to}
use Rattle.clock2q_handles.proofs.rebuild.Growth.{doubled_is, doubled_more, doubled_multiple, slot_count_doubled}
use Rattle.clock2q_handles.proofs.shifts.Steps.{table-laid}
use Rattle.clock2q_handles.proofs.table.Table.grow.Given.{Over}
use Rattle.clock2q_handles.proofs.table.Table.grow.Goals.{After-max-count}
use Rattle.clock2q_handles.proofs.table.Table.grow.Goals as goal

-- the slots that the table has
slots : (g : Over) (c : After-max-count g) → (length c.args.self.now.homes ≡ c.count.result) × IsSlotCount c.count.result
slots g c =
    (ap (λ t. length t.homes) (sym c.self.view_is) ∙ length-homes_of c.self.inside.slots.slots ∙ sym c.count.ensures.count, subst IsSlotCount (sym c.count.ensures.count) c.count.ensures.power)

pub rebuilt-requires : goal.rebuilt-requires
rebuilt-requires g c =
    let homes = c.args.self.now.homes in
    let n = c.count.result in
    let s = slots g (goal.at.rebuilt-requires g c).After-max-count in
    let more = doubled_more homes n s.0 s.1 in
    record {
      count = subst IsSlotCount (sym c.max-count.ensures) (slot_count_doubled n s.1);
      fits = omega (arith, c.requires.full, more, c.max-count.ensures);
      multiple = λ some. let k = doubled_multiple homes n s.0 s.1 some in (k.0, c.max-count.ensures ∙ k.1);
      asked = c.requires.asked;
    }

pub returns-in_err-self-inside : goal.returns-in_err-self-inside
returns-in_err-self-inside g c =
    let e = err_from_is_err_and c.from_residual.result c.from_residual.ensures.1 in
    let refusal : c.from_residual.result ≡ Err Memory = cc (e.1, e.2, c.in_err-self-inside.ensures.only) in
    let laid = subst IsLaidOut c.self.view_is (table-laid c.self.inside.slots.slots c.self.inside.len c.self.invariant c.self.inside.slots.writes c.self.inside.reads.total) in
    subst (λ r. Grows g.F.FnMut c.args.rehash.now c.args.self.now c.rebuilt.new.rehash r c.args.self.now) (sym refusal)
    (grows_not g.F.FnMut c.args.rehash.now c.args.self.now _ c.in_err-self-inside.ensures.unasked laid)

pub returns : goal.returns
returns g c =
    let homes = c.args.self.now.homes in
    let s = slots g (goal.at.returns g c).After-max-count in
    let made = c.in_ok-self-inside.ensures in
    subst (λ t. Grows g.F.FnMut c.args.rehash.now c.args.self.now c.rebuilt.new.rehash (Ok tt) t) (sym c.drop.view_is)
    (grows_to g.F.FnMut c.args.rehash.now c.args.self.now c.max-count.result (c.max-count.ensures ∙ doubled_is homes c.count.result s.0 s.1) (subst IsSlotCount (sym s.0) s.1)
    c.requires.full c.requires.asked _ made.made made.asks made.laid made.counted made.reads)

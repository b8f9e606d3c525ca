use Rattle.std.proofs.Common.{◌≡◌, ◌<◌, ◌≤◌, ◌+◌, ◌^◌, inl, inr, length, Err, refl, sym, subst, arith}
use Rattle.std.proofs.lemmas.Result.{err_from_is_err_and}
use Rattle.clock2q_handles.specs.Homes.{capacity, total}
use Rattle.clock2q_handles.specs.TableStep.{fit, IsShortOf}
use Rattle.clock2q_handles.specs.declared.error.TableError.TheVariants.{Memory}
use Rattle.clock2q_handles.proofs.rebuild.Growth.{larger_multiple}
use Rattle.clock2q_handles.proofs.rebuild.Reserving.{Reserves, reserves_past, reserves_nothing, reserves_failed, reserves_more}
use Rattle.clock2q_handles.proofs.table.Table.reserve.Given.{Over}
use Rattle.clock2q_handles.proofs.table.Table.reserve.Goals.{Else-entries-capacity, After-rebuilt}
use Rattle.clock2q_handles.proofs.table.Table.reserve.Goals as goal

-- more slots are needed
short : (g : Over) (c : Else-entries-capacity g) → IsShortOf c.args.self.now.homes c.args.additional
short g c = omega (arith, c.in-Some.ensures.1, c.len.ensures.len, c.if-entries-capacity.false, c.capacity.ensures.capacity)

pub returns-in_default : goal.returns-in_default
returns-in_default g c =
    reserves_past g.F.FnMut c.args.rehash c.args.additional c.args.self.now c.facts.ensures.whole (inl (omega (arith, c.in_default.ensures, c.len.ensures.len)))

pub returns-then-entries-capacity : goal.returns-then-entries-capacity
returns-then-entries-capacity g c =
    let few = c.in-Some.ensures in
    reserves_nothing g.F.FnMut c.args.rehash c.args.additional c.args.self.now c.facts.ensures.whole
    (omega (arith, few.1, c.len.ensures.len, c.if-entries-capacity.true, c.capacity.ensures.capacity)) (omega (arith, few.0, c.len.ensures.len))

pub returns-in_default-slots_for : goal.returns-in_default-slots_for
returns-in_default-slots_for g c =
    let entries : total c.args.self.now.homes + c.args.additional ≡ c.in-Some.entries = omega (arith, c.in-Some.ensures.1, c.len.ensures.len) in
    let before = (goal.at.returns-in_default-slots_for g c).Else-entries-capacity in
    reserves_past g.F.FnMut c.args.rehash c.args.additional c.args.self.now c.facts.ensures.whole (inr (short g before, rw entries c.in_default-slots_for.ensures.count))

-- the count of the slots that are needed
counts : (g : Over) (c : After-rebuilt g) → (c.in-Some-slots_for.count ≡ fit (total c.args.self.now.homes + c.args.additional)) × (c.in-Some-slots_for.count < 2 ^ 64)
counts g c =
    let entries : total c.args.self.now.homes + c.args.additional ≡ c.in-Some.entries = omega (arith, c.in-Some.ensures.1, c.len.ensures.len) in
    (rw entries c.in-Some-slots_for.ensures.count, omega arith)

pub rebuilt-requires : goal.rebuilt-requires
rebuilt-requires g c =
    let homes = c.args.self.now.homes in
    let m = c.in-Some-slots_for.count in
    let whole = c.facts.ensures.whole in
    let need = short g (goal.at.rebuilt-requires g c).Else-entries-capacity in
    let fits : total homes ≤ capacity m = omega (arith, c.in-Some-slots_for.ensures.enough, c.in-Some.ensures.1, c.len.ensures.len) in
    let more : capacity (length homes) < capacity m = omega (arith, c.in-Some-slots_for.ensures.enough, c.if-entries-capacity.false, c.capacity.ensures.capacity) in
    record { count = c.in-Some-slots_for.ensures.power; fits = fits; multiple = larger_multiple homes (length homes) refl whole.slot_count m c.in-Some-slots_for.ensures.power more; asked = c.requires.rehash need }

pub returns-in_err-self : goal.returns-in_err-self
returns-in_err-self g c =
    let at = goal.at.returns-in_err-self g c in
    let count = counts g at.After-rebuilt in
    let e = err_from_is_err_and c.from_residual.result c.from_residual.ensures.1 in
    let refusal : c.from_residual.result ≡ Err Memory = cc (e.1, e.2, c.in_err-self.ensures.only) in
    subst (λ r. Reserves g.F.FnMut c.args.rehash c.args.additional c.args.self.now r c.args.self.now) (sym refusal)
    (reserves_failed g.F.FnMut c.args.rehash c.args.additional c.args.self.now c.facts.ensures.whole (short g at.Else-entries-capacity)
    (omega (arith, c.in-Some.ensures, c.len.ensures.len)) (omega (arith, count.0, count.1)))

pub returns : goal.returns
returns g c =
    let at = goal.at.returns g c in
    let count = counts g at.After-rebuilt in
    let few : total c.args.self.now.homes + c.args.additional < 2 ^ 64 = omega (arith, c.in-Some.ensures, c.len.ensures.len) in
    let need = short g at.Else-entries-capacity in
    let made = c.in_ok-self.ensures in
    reserves_more g.F.FnMut c.args.rehash c.args.additional c.args.self.now c.facts.ensures.whole need few (omega (arith, count.0, count.1)) c.in-Some-slots_for.count
    c.in-Some-slots_for.ensures.power count.0 (omega (arith, c.in-Some-slots_for.ensures.enough, c.in-Some.ensures.1, c.len.ensures.len)) (c.requires.rehash need)
    _ made.made made.asks made.laid made.counted made.reads

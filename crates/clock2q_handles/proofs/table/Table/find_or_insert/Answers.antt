use Rattle.std.proofs.Common.{◌≡◌, Err, inl, inr, length, sym, subst}
use Rattle.std.proofs.lemmas.Result.{err_from_is_err_and}
use Rattle.std.proofs.lemmas.Bool.{cases_eq}
use Rattle.clock2q_handles.specs.Homes.{total, capacity}
use Rattle.clock2q_handles.specs.declared.error.TableError.TheVariants.{Memory}
use Rattle.clock2q_handles.proofs.rebuild.Inserting.{FindsGrowing, finds_not, finds_then}
use Rattle.clock2q_handles.proofs.table.Table.find_or_insert.Goals as goal

pub find_or_put-requires-clause-callable : goal.find_or_put-requires-clause-callable
find_or_put-requires-clause-callable g c =
    let grown = c.in_ok-make_room.ensures.grown in
    elim (cases_eq (total c.args.self.now.homes) (capacity (length c.args.self.now.homes))) [
      | inl full ↦ let asked = c.requires.rehash full in rw (grown asked.0 (λ _. asked.1)) (c.requires.callable asked.0 (λ _. asked.1))
      | inr room ↦ rw (grown (λ _. 0) (λ full. absurd (room full))) (c.requires.callable (λ _. 0) (λ full. absurd (room full)))
    ]

pub returns-in_err-make_room : goal.returns-in_err-make_room
returns-in_err-make_room g c =
    let e = err_from_is_err_and c.from_residual.result c.from_residual.ensures.1 in
    let room = c.in_err-make_room.ensures in
    let refusal : c.from_residual.result ≡ Err Memory = cc (e.1, e.2, room.only) in
    subst (λ r. FindsGrowing g.H.PartialEq.eq g.F.FnMut c.args.rehash c.args.hash c.args.handle c.args.self.now g.M.FnMut c.args.matches r c.make_room.new.self) (sym refusal)
    (finds_not g.H.PartialEq.eq g.F.FnMut c.args.rehash c.args.hash c.args.handle c.args.self.now _ room.full room.refused room.laid g.M.FnMut c.args.matches)

pub returns : goal.returns
returns g c =
    finds_then g.H.PartialEq.eq g.F.FnMut c.args.rehash c.args.hash c.args.handle c.args.self.now c.make_room.new.rehash c.make_room.new.self c.in_ok-make_room.ensures
    g.M.FnMut c.args.matches c.find_or_put.new.matches c.find_or_put.result c.find_or_put.new.self c.find_or_put.ensures

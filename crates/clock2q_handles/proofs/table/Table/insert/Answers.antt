use Rattle.std.proofs.Common.{◌≡◌, Err, sym, subst}
use Rattle.std.proofs.lemmas.Result.{err_from_is_err_and}
use Rattle.clock2q_handles.specs.declared.error.TableError.TheVariants.{Memory}
use Rattle.clock2q_handles.proofs.rebuild.Inserting.{InsertsGrowing, inserts_not, inserts_then}
use Rattle.clock2q_handles.proofs.table.Table.insert.Goals as goal

pub returns-in_err-make_room : goal.returns-in_err-make_room
returns-in_err-make_room g c =
    let e = err_from_is_err_and c.from_residual.result c.from_residual.ensures.1 in
    let room = c.in_err-make_room.ensures in
    let refusal : c.from_residual.result ≡ Err Memory = cc (e.1, e.2, room.only) in
    subst (λ r. InsertsGrowing g.H.PartialEq.eq g.F.FnMut c.args.rehash c.args.hash c.args.handle c.args.self.now r c.make_room.new.self) (sym refusal)
    (inserts_not g.H.PartialEq.eq g.F.FnMut c.args.rehash c.args.hash c.args.handle c.args.self.now _ room.full room.refused room.laid)

pub returns : goal.returns
returns g c =
    inserts_then g.H.PartialEq.eq g.F.FnMut c.args.rehash c.args.hash c.args.handle c.args.self.now c.make_room.new.rehash c.make_room.new.self c.in_ok-make_room.ensures
    c.insert_within_capacity.result c.insert_within_capacity.new.self c.insert_within_capacity.ensures

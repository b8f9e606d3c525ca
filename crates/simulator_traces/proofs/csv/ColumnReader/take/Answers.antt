use Rattle.std.proofs.Common.{◌≡◌, ◌∷◌, ◌++◌, [], arith}
use Rattle.simulator_traces.proofs.FieldByField.{adds, ends, passes, skips}
use Rattle.simulator_traces.proofs.csv.ColumnReader.take.Goals as goal

pub returns-in-Skip-clause-taken : goal.returns-in-Skip-clause-taken
returns-in-Skip-clause-taken g c =
    let self = c.args.self.now in
    skips c.args.separator self.left self.key.items self.place c.in-Skip.next c.args.byte c.in-Some.step c.in-Some.ensures.step c.in-Skip.is

pub returns-in-End-clause-taken : goal.returns-in-End-clause-taken
returns-in-End-clause-taken g c =
    let self = c.args.self.now in
    ends c.args.separator self.left self.key.items self.place self.place c.args.byte c.in-Some.step
    c.in-Some.ensures.step c.saturating_sub-self.result c.in-End.is
    (omega (arith, c.saturating_sub-self.ensures)) c.requires.early

pub returns-in_ok-reserve-in-Add-clause-taken : goal.returns-in_ok-reserve-in-Add-clause-taken
returns-in_ok-reserve-in-Add-clause-taken g c =
    let self = c.args.self.now in
    let longer : c.push_reserved.new.self.items ≡ self.key.items ++ c.args.byte ∷ [] = cc (c.push_reserved.ensures.items, c.reserve.ensures.items) in
    adds c.args.separator self.left self.key.items self.place c.in-Add.next c.args.byte c.in-Some.step c.in-Some.ensures.step c.push_reserved.new.self.items c.in-Add.is c.if-self-eq1.true longer

pub returns-in-Add-2-clause-taken : goal.returns-in-Add-2-clause-taken
returns-in-Add-2-clause-taken g c =
    let self = c.args.self.now in
    passes c.args.separator self.left self.key.items self.place c.in-Add-2.next c.args.byte c.in-Some.step c.in-Some.ensures.step c.in-Add-2.is c.if-self-eq1.false

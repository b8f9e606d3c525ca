use Rattle.std.proofs.Common.{◌≡◌, true, false, get_or, sym, ◌∙◌}
use Rattle.std.proofs.lemmas.Bool.{lt-ltb, le-ltb}
use Rattle.clock2q_machine.specs.Hits.{is_in}
use Rattle.simulator_policies.specs.Residents.{held_by}
use Rattle.simulator_policies.proofs.Holding.{held-iff}
use Rattle.simulator_policies.proofs.plain.Residents.access.Goals as goal

pub hit-requires-clause-held : goal.hit-requires-clause-held
hit-requires-clause-held g c = held-iff _ _ _ c.args.self.now c.requires.holding c.requires.at c.index.result.now c.index.ensures ∙ lt-ltb _ _ c.if-is_hit.true

pub bring-requires-clause-absent : goal.bring-requires-clause-absent
bring-requires-clause-absent g c = held-iff _ _ _ c.args.self.now c.requires.holding c.requires.at c.index.result.now c.index.ensures ∙ le-ltb _ _ c.if-is_hit.false

pub returns-then-is_hit-clause-hit : goal.returns-then-is_hit-clause-hit
returns-then-is_hit-clause-hit g c = sym (held-iff _ _ _ c.args.self.now c.requires.holding c.requires.at c.index.result.now c.index.ensures)

pub returns-then-is_hit-clause-held : goal.returns-then-is_hit-clause-held
returns-then-is_hit-clause-held g c =
    let is : is_in (get_or c.args.trace.now c.args.at 0) (held_by c.args.trace.now c.args.at c.args.self.now) ≡ true =
    held-iff _ _ _ c.args.self.now c.requires.holding c.requires.at c.index.result.now c.index.ensures
    ∙ lt-ltb _ _ c.if-is_hit.true in
    rw is c.hit.ensures.held

pub returns-else-is_hit-clause-hit : goal.returns-else-is_hit-clause-hit
returns-else-is_hit-clause-hit g c = sym (held-iff _ _ _ c.args.self.now c.requires.holding c.requires.at c.index.result.now c.index.ensures)

pub returns-else-is_hit-clause-held : goal.returns-else-is_hit-clause-held
returns-else-is_hit-clause-held g c =
    let is : is_in (get_or c.args.trace.now c.args.at 0) (held_by c.args.trace.now c.args.at c.args.self.now) ≡ false =
    held-iff _ _ _ c.args.self.now c.requires.holding c.requires.at c.index.result.now c.index.ensures
    ∙ le-ltb _ _ c.if-is_hit.false in
    rw is c.bring.ensures.held

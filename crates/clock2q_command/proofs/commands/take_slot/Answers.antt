-- The value is the slot's own, or that of the command if the slot was made.
use Rattle.std.proofs.Common.{rules, refl, ◌∙◌}
use Rattle.clock2q_cache.proofs.Charged.{charged-costs}
use Rattle.clock2q_command.proofs.Fetching.{slotted-given}
use Rattle.clock2q_command.proofs.commands.take_slot.Goals as goal

pub returns : goal.returns
returns g c =
    let e = c.get_or_insert_mut-slot.ensures in
    let h = slotted-given
    (g.K.PartialEq.eq c.args.key) c.args.key c.args.cache.now.machine _ c.get_or_insert_mut-slot.result.1.now c.args.value
    (λ w gave. search rules) c.get_or_insert_mut-slot.result.0 e.slot e.value in
    let spent = charged-costs {key = record { eq = g.K.PartialEq.eq; hash_input = g.K.Hash.hash_input }} {build = g.S.BuildHasher} {hash = g.S.Hasher.Hasher}
    c.get_or_insert_mut-slot.result.1.now c.args.cache.now g.met.K.Eq.laws g.met.K.Hash.respects_eq c.facts.ensures.whole c.facts.ensures.indexed.as_many c.facts.ensures.within in
    record { slot = e.slot; value = h.0; machine = e.unwritten ∙ h.1; known = refl; hasher = refl; costs = record { counts = spent.counts; index = spent.index; clock = spent.clock } }

-- A key that takes the slot of another: the other comes back with the value of the slot.
use Rattle.clock2q_cache.proofs.Names.{arith, false, refl, ap, ◌∙◌, rules, Places, ltb-true}
use Rattle.clock2q_cache.proofs.Making.{makes-here}
use Rattle.clock2q_cache.proofs.Evicting.{leaver-there, map-gives, hands-over, slot-made, slot-had, slot-stored}
use Rattle.clock2q_cache.proofs.cache.Cache.insert_evicting.Goals as goal

pub insert_unknown-slot-requires-clause-had : goal.insert_unknown-slot-requires-clause-had
insert_unknown-slot-requires-clause-had g c =
    ltb-true _ _ (makes-here g.K.PartialEq.eq c.args.key c.choose_queue-admission.ensures.sent.sent c.makes_slot.ensures.whole false c.if-makes_slot.ensures.makes)

pub replace_value-before-requires : goal.replace_value-before-requires
replace_value-before-requires g c =
    let e = c.insert_unknown-slot.ensures.entered in
    slot-made g.K.PartialEq.eq c.args.key c.choose_queue-admission.ensures.sent.sent c.makes_slot.ensures.whole e.slot e.machine

pub returns-clause-machine : goal.returns-clause-machine
returns-clause-machine g c = grind (arith, c.insert_unknown-slot.ensures.entered, c.replace_value-before.ensures.machine, slot-stored, c.choose_queue-admission.ensures.sent.sent, c.makes_slot.ensures.whole)

pub returns-clause-evicted : goal.returns-clause-evicted
returns-clause-evicted g c =
    let s = c.choose_queue-admission.ensures.sent.sent in
    let e = c.insert_unknown-slot.ensures.entered in
    map-gives (λ key. (key, c.replace_value-before.result)) c.insert_unknown-slot.result.1 c.map.result c.map.ensures.cases (λ key r called. search rules)
    ∙ hands-over c.args.self.now.machine c.insert_unknown-slot.ensures.left (leaver-there s) (λ key note called. search rules)
    (slot-had g.K.PartialEq.eq c.args.key s c.makes_slot.ensures.whole e.slot e.machine c.replace_value-before.ensures.value)
    c.insert_unknown-slot.result.1 refl

pub returns-clause-known : goal.returns-clause-known
returns-clause-known g c =
    let s = c.choose_queue-admission.ensures.sent in
    let e = c.insert_unknown-slot.ensures.entered in
    let known = ap {B = Places} (λ z. z.known) c.replace_value-before.ensures.kept ∙ e.indexes in
    rw (e.slot, c.gap-gap.ensures.gap, s.hasher, s.sent.erased, s.sent.goes, s.known, c.requires.absent.hashed) at known

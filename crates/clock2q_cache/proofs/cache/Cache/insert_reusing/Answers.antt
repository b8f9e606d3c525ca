-- A slot is made if none is free and no other key's is taken.
use Rattle.clock2q_cache.proofs.Names.{arith, not, sym, ap, ◌∙◌}
use Rattle.clock2q_cache.proofs.Making.{makes-here, makes-there, values-there, reuses, made-or-none, fills-there}
use Rattle.clock2q_cache.proofs.cache.Cache.insert_reusing.Goals as goal

pub insert_unknown-slot-requires-clause-had : goal.insert_unknown-slot-requires-clause-had
insert_unknown-slot-requires-clause-had g c =
    grind (arith, makes-here, c.choose_queue-admission.ensures.sent.sent, c.makes_slot.ensures.whole, c.makes_slot.ensures.makes, made-or-none, not, c.then-value.ensures.variant)

pub returns-clause-machine : goal.returns-clause-machine
returns-clause-machine g c =
    let s = rw c.find_place-found.ensures.kept at c.choose_queue-admission.ensures.sent.sent in
    let there = makes-there g.K.PartialEq.eq c.args.key s c.makes_slot.ensures.whole c.makes_slot.result c.makes_slot.ensures.makes in
    let values = values-there g.K.PartialEq.eq c.args.key s c.makes_slot.ensures.whole c.makes_slot.result c.makes_slot.ensures.makes in
    reuses (g.K.PartialEq.eq c.args.key) c.args.key (goal.F-post g c.args.make) c.args.self.now.machine values c.then-value.result c.insert_unknown-slot.new.self.machine
    (there ∙ ap not (sym c.then-value.ensures.variant)) c.then-value.ensures.some
    (fills-there g.K.PartialEq.eq c.args.key s c.then-value.result c.insert_unknown-slot.new.self.machine c.insert_unknown-slot.ensures.entered.machine)

pub returns-clause-known : goal.returns-clause-known
returns-clause-known g c =
    let s = c.choose_queue-admission.ensures.sent in
    rw (c.gap.ensures.gap, c.find_place-found.ensures.gap, s.hasher, s.sent.erased, s.sent.goes, s.known, c.find_place-found.ensures.kept, c.requires.absent.hashed) at c.insert_unknown-slot.ensures.entered.indexes

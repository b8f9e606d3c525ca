-- Who had the slot until now.
use Rattle.std.proofs.Common.{◌≡◌, ◌<◌, eqb, if◌then◌else◌, None, Some, sym, ap, ◌∙◌, subst}
use Rattle.std.specs.Prelude.{IfSome, is_some}
use Rattle.std.specs.Option.{unwrap_or}
use Rattle.clock2q_machine.specs.Calls.{Put}
use Rattle.clock2q_machine.specs.Leaving.{leaver}
use Rattle.clock2q_c.specs.Handle.{machine_in}
use Rattle.clock2q_c.specs.Holders.{holder}
use Rattle.clock2q_machine.specs.Machine.{Machine}
use Rattle.clock2q_c.proofs.Holders.{holder-is, same-shares}
use Rattle.clock2q_c.proofs.calls.clock2q_enter_key.Goals as goal

pub returns-clause-last : goal.returns-clause-last
returns-clause-last c =
    let p = c.put_slot-slot in
    subst (λ o. IfSome (machine_in o) (λ m. c.place_of.result.has_last ≡ is_some (holder c.args.key m))) c.held-held.ensures.value
    (c.place_of.ensures.last ∙ ap is_some (holder-is c.args.key c.held-held.result.now.cache.machine p.result.0 p.result.1 p.ensures.hit p.ensures.evicted))

pub returns-clause-which : goal.returns-clause-which
returns-clause-which c =
    let p = c.put_slot-slot in
    subst (λ o. IfSome (machine_in o) (λ m. c.place_of.result.last ≡ unwrap_or (holder c.args.key m) 0)) c.held-held.ensures.value
    (c.place_of.ensures.which ∙ ap (λ o. unwrap_or o 0) (holder-is c.args.key c.held-held.result.now.cache.machine p.result.0 p.result.1 p.ensures.hit p.ensures.evicted))

pub returns-clause-evicted : goal.returns-clause-evicted
returns-clause-evicted c =
    let p = c.put_slot-slot in
    subst (λ o. IfSome (machine_in o) (λ m. leaver eqb (Put c.args.key tt) m ≡ (if c.place_of.result.evicted then Some (c.place_of.result.last, c.place_of.result.slot) else None))) c.held-held.ensures.value
    (rw c.place_of.ensures.slot (sym p.ensures.evicted ∙ c.place_of.ensures.evicted))

pub returns-clause-within : goal.returns-clause-within
returns-clause-within c =
    let p = c.put_slot-slot in
    let m = c.held-held.result.now.cache.machine in
    let capacity = ap (λ (z : Machine _ _). z.shares.capacity) p.ensures.machine ∙ ap (λ z. z.capacity) (same-shares c.args.key m c.facts.ensures.whole) in
    subst (λ o. IfSome (machine_in o) (λ m. c.place_of.result.slot < m.shares.capacity)) c.held-held.ensures.value
    (rw c.place_of.ensures.slot (subst (λ n. p.result.0 < n) capacity p.ensures.within))

-- Whatever is left behind the reference is the value of the key that is hit.
use Rattle.clock2q_cache.proofs.Names.{rules, refl, sym}
use Rattle.clock2q_cache.proofs.KnownIndex.{becomes-known}
use Rattle.clock2q_cache.proofs.Spent.{unhit-becomes, unlent-becomes, lent-becomes}
use Rattle.clock2q_cache.proofs.cache.Cache.get_mut.Goals as goal

pub returns : goal.returns
returns g c = ((refl, (λ w. becomes-known (lent-becomes c.in_ok-resident.ensures.slot c.hit.ensures.becomes) c.hit.ensures.known), tt), record { writes_back = tt; value = search rules; missed = tt })

pub returns-in_err-resident : goal.returns-in_err-resident
returns-in_err-resident g c =
    let absent = sym c.in_err-resident.ensures.slot in (
      (
        search rules,
        (λ w. becomes-known (unlent-becomes absent c.hit.ensures.becomes) c.hit.ensures.known),
        rw c.from_residual.ensures (becomes-known (unhit-becomes absent c.hit.ensures.becomes) c.hit.ensures.known),
      ),
      record { writes_back = tt; value = search rules; missed = rw c.from_residual.ensures absent },
    )

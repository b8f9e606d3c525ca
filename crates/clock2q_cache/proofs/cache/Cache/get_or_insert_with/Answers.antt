-- The value that the key was fetched with is at its slot.
use Rattle.clock2q_cache.proofs.Names.{refl, sym, ◌∙◌, some_is}
use Rattle.clock2q_cache.proofs.Spent.{costs-of}
use Rattle.clock2q_cache.proofs.cache.Cache.get_or_insert_with.Goals as goal

pub returns : goal.returns
returns g c =
    let e = c.find_or_insert-slot.ensures in
    let f = e.fetched in
    let same = some_is f.value c.value.result.now (sym f.there ∙ c.value.ensures) in
    let becomes = rw same at f.becomes in (
      (refl, λ _. tt, (becomes, e.hasher, costs-of becomes e.index e.counts, e.known)),
      record { machine = tt; value = rw same at f.had },
    )

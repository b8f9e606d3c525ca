-- Whatever is left behind the reference is the key's value, as after `put`.
use Rattle.clock2q_cache.proofs.Names.{Result, Ok, Err, IsOk, IsErr, OnErr, refl, rules, sym, ◌∙◌, hit-absent, some_is}
use Rattle.clock2q_cache.proofs.Fetched.{unwritten}
use Rattle.clock2q_cache.proofs.Spent.{costs-of}
use Rattle.clock2q_cache.proofs.cache.Cache.try_get_or_insert_with_mut.Goals as goal

not_both : {T E : Type 0} (r : Result T E) → IsErr r → IsOk r → ⊥
not_both (Ok x) err ok = cc
not_both (Err e) err ok = cc

on_err : {T E P : Type 0} (r : Result T E) → P → OnErr r P
on_err (Ok x) p = tt
on_err (Err e) p = p

pub returns : goal.returns
returns g c =
    let e = c.in_ok-slot.ensures in
    let f = e.fetched in
    let same = some_is f.value c.value_mut.result.now (sym f.there ∙ c.value_mut.ensures.value) in (
      (refl, (λ w _. (f.writes w, e.hasher, costs-of (f.writes w) (record { accesses = e.index.accesses }) e.counts, e.known)), tt),
      record { writes_back = tt; value = rw same at f.had; unwritten = rw same at (unwritten f); err = tt; absent = tt },
    )

pub returns-in_err-slot : goal.returns-in_err-slot
returns-in_err-slot g c =
    let e = c.in_err-slot.ensures in
    let is = e.machine ∙ sym (hit-absent (g.K.PartialEq.eq c.args.key) c.args.self.now.machine e.absent) in (
      (search rules, (λ w ok. absurd (not_both c.from_residual.result c.from_residual.ensures.0 ok)), on_err c.from_residual.result (e.machine, e.hasher, costs-of is e.index e.asked, e.known)),
      record { writes_back = tt; value = search rules; unwritten = search rules; err = search rules; absent = search rules },
    )

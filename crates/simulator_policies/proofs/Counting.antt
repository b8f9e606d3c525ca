-- The hits of a trace with one more key.
use Rattle.std.proofs.Common.{◌≡◌, ℕ, ◌+◌, ◌<◌, ap, arith, add-one, Bool, cond, List, length, drop, drop-cons, get_or}
use Rattle.clock2q_machine.specs.Hits.{hits}

pub counted : {Cache : Type 0} (holds : ℕ → Cache → Bool) (after : ℕ → Cache → Cache) (trace : List ℕ) (i before now total : ℕ) (cache : Cache) → i < length trace
    → before + hits holds after (drop i trace) cache ≡ total → now ≡ before + cond (holds (get_or trace i 0) cache) 1 0 →
    now + hits holds after (drop (i + 1) trace) (after (get_or trace i 0) cache) ≡ total
counted holds after trace i before now total cache within so_far more =
    let rest : hits holds after (drop i trace) cache ≡
    cond (holds (get_or trace i 0) cache) 1 0 + hits holds after (drop (i + 1) trace) (after (get_or trace i 0) cache) =
    rw add-one (ap (λ keys. hits holds after keys cache) (drop-cons trace i 0 within)) in
    omega (arith, rest, so_far, more)

-- What is read after a write.
use Rattle.std.proofs.Common.{arith, ◌≡◌, ℕ, zero, suc, ◌<◌, cond, eqb, List, ◌∷◌, length, get_or, map, set, replicate, refl, ap}
use Rattle.std.proofs.lemmas.Bool.{cases_Bool, eqb-true, eqb-false}
use Rattle.std.proofs.lemmas.List.{get_or-set_same, get_or-set_other}

-- what is read at t after a write at i
pub changed : {A X : Type 0} (f : A → X) (xs : List A) (i : ℕ) (x d : A) (t : ℕ) → i < length xs → f (get_or (set xs i x) t d) ≡ cond (eqb t i) (f x) (f (get_or xs t d))
changed f xs i x d t h = grind (arith, cases_Bool, eqb-true, get_or-set_same, get_or-set_other, eqb-false)

-- if all items are the same, so is the one that is read
pub get_or-same : {X : Type 0} (n i : ℕ) (x : X) → get_or (replicate n x) i x ≡ x
get_or-same zero i x = refl
get_or-same (suc n) zero x = refl
get_or-same (suc n) (suc i) x = get_or-same n i x

pub mapped-same : {X Y : Type 0} (f : X → Y) (n : ℕ) (x : X) → map f (replicate n x) ≡ replicate n (f x)
mapped-same f zero x = refl
mapped-same f (suc n) x = ap (λ z. f x ∷ z) (mapped-same f n x)

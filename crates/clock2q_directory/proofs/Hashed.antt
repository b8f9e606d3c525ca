-- Histories whose hashes are their keys' remainders.
use Rattle.clock2q_directory.proofs.Names.{◌≡◌, ℕ, zero, suc, ◌%◌, false, eqb, List, [], ◌∷◌, take, inl, inr, refl, sym, ap, ◌∙◌, AllByRecursion, cases_Bool, HasHash, is_remembered, forgotten}
use Rattle.std.proofs.Common.{eqb-true}

pub has_hash : (key hashes : ℕ) (es : List (ℕ × ℕ)) → AllByRecursion (λ e. e.0 ≡ e.1 % hashes) es → HasHash eqb (key % hashes) key es
has_hash key hashes [] a = tt
has_hash key hashes (e ∷ es) a = ((λ q. a.0 ∙ ap (λ z. z % hashes) (sym (eqb-true key e.1 q))), has_hash key hashes es a.1)

pub all-forgotten : (P : ℕ × ℕ → Type 0) (key : ℕ) (es : List (ℕ × ℕ)) → AllByRecursion P es → AllByRecursion P (forgotten eqb key es)
all-forgotten P key [] a = tt
all-forgotten P key (e ∷ es) a = elim (cases_Bool (eqb key e.1)) [
  | inl k ↦ rw k (all-forgotten P key es a.1)
  | inr k ↦ rw k ((a.0, all-forgotten P key es a.1))
]

pub all-take : (P : ℕ × ℕ → Type 0) (k : ℕ) (es : List (ℕ × ℕ)) → AllByRecursion P es → AllByRecursion P (take k es)
all-take P zero es a = tt
all-take P (suc k) [] a = tt
all-take P (suc k) (e ∷ es) a = (a.0, all-take P k es a.1)

pub absent-forgotten : (key : ℕ) (es : List (ℕ × ℕ)) → is_remembered eqb key (forgotten eqb key es) ≡ false
absent-forgotten key [] = refl
absent-forgotten key (e ∷ es) = elim (cases_Bool (eqb key e.1)) [
  | inl k ↦ rw k (absent-forgotten key es)
  | inr k ↦ rw (k, k) (absent-forgotten key es)
]

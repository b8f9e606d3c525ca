-- A slot is in either of two queues, or in neither.
use Rattle.std.proofs.Common.{◌≡◌, ◌⊎◌, ℕ, true, false, List, ◌++◌, sym, ◌∙◌, eqb}
use Rattle.std.proofs.lemmas.Bool.{or_cases}
use Rattle.std.specs.List.{list_any}
use Rattle.clock2q_queues.proofs.Booleans.{or_parts}
use Rattle.std.proofs.lemmas.List.Folds.{list_any-append}

pub in_neither : (slot : ℕ) (small main : List ℕ) → list_any (eqb slot) (small ++ main) ≡ false → (list_any (eqb slot) small ≡ false) × (list_any (eqb slot) main ≡ false)
in_neither slot small main h = or_parts (list_any (eqb slot) small) (list_any (eqb slot) main) (sym (list_any-append (eqb slot) small main) ∙ h)

pub in_either : (slot : ℕ) (small main : List ℕ) → list_any (eqb slot) (small ++ main) ≡ true → (list_any (eqb slot) small ≡ true) ⊎ (list_any (eqb slot) main ≡ true)
in_either slot small main h = or_cases (list_any (eqb slot) small) (list_any (eqb slot) main) (sym (list_any-append (eqb slot) small main) ∙ h)

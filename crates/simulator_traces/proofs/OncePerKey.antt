-- How often keys are accessed, with one more access.
use Rattle.std.proofs.Common.{◌≡◌, ℕ, zero, suc, ◌+◌, ◌<◌, ◌≤◌, inl, inr, Bool, true, false, cond, List, [], ◌∷◌, length, length-append, take, get_or, set, get_or-set_same, get_or-set_other, length-set, replicate, min, eqb, refl, sym, ap, ◌∙◌, arith}
use Rattle.std.specs.List.{filter}
use Rattle.std.proofs.lemmas.Bool.{cases_eq, eq-eqb, ne_eqb}
use Rattle.std.proofs.lemmas.List.{get_or-replicate, length-replicate}
use Rattle.std.proofs.lemmas.List.Elements.{filter_more}
use Rattle.simulator_traces.specs.Uses.{is_one, keys_once, ones, uses_of}

-- one element more is counted or not
pub counted_more : (p : ℕ → Bool) (xs : List ℕ) (i : ℕ) → i < length xs → length (filter p (take (i + 1) xs)) ≡ length (filter p (take i xs)) + cond (p (get_or xs i 0)) 1 0
counted_more p xs i within =
    ap length (filter_more p xs i 0 within) ∙ length-append (filter p (take i xs)) (cond (p (get_or xs i 0)) (get_or xs i 0 ∷ []) [])
    ∙ ap (λ n. length (filter p (take i xs)) + n) (one (p (get_or xs i 0)) (get_or xs i 0))
  where
    one : (b : Bool) (x : ℕ) → length (cond b (x ∷ []) []) ≡ cond b 1 0
    one true x = refl
    one false x = refl

-- a byte counts up to 255
abbrev pub IsCounted : List ℕ → List ℕ → Type 0
IsCounted uses numbers = (key : ℕ) → key < length uses → get_or uses key 0 ≡ min (uses_of key numbers) 255

-- before the first access, none is counted
pub none_counted : (uses : List ℕ) (n : ℕ) → uses ≡ replicate n 0 → IsCounted uses []
none_counted uses n e = λ key inside. ap (λ xs. get_or xs key 0) e ∙ get_or-replicate n key 0 0 (omega (arith, inside, ap length e, length-replicate {A = ℕ} n 0))

-- after one access to a key that is below
pub counted_access : (uses numbers : List ℕ) (i : ℕ) → i < length numbers → IsCounted uses (take i numbers) → (n : ℕ) → n ≡ min (get_or uses (get_or numbers i 0) 0 + 1) 255
    → IsCounted (set uses (get_or numbers i 0) n) (take (i + 1) numbers)
counted_access uses numbers i within are n is key below =
    let number : ℕ = get_or numbers i 0 in
    let inside : key < length uses = omega (arith, below, length-set uses number n) in
    let more : uses_of key (take (i + 1) numbers) ≡ uses_of key (take i numbers) + cond (eqb number key) 1 0 = counted_more (λ m. eqb m key) numbers i within in
    elim (cases_eq key number) [
      | inl same ↦
          let yes : eqb number key ≡ true = eq-eqb number key (sym same) in
          let one : uses_of key (take (i + 1) numbers) ≡ uses_of key (take i numbers) + 1 = more ∙ ap (λ b. uses_of key (take i numbers) + cond b 1 0) yes in
          let new : get_or (set uses number n) key 0 ≡ n = ap (λ k. get_or (set uses number n) k 0) same ∙ get_or-set_same uses number n 0 (omega (arith, inside, same)) in
          let old : get_or uses number 0 ≡ min (uses_of key (take i numbers)) 255 = ap (λ k. get_or uses k 0) (sym same) ∙ are key inside in
          omega (arith, new, is, old, one)
      | inr other ↦
          let no : eqb number key ≡ false = ne_eqb number key (λ e. other (sym e)) in
          let none : uses_of key (take (i + 1) numbers) ≡ uses_of key (take i numbers) = more ∙ ap (λ b. uses_of key (take i numbers) + cond b 1 0) no ∙ omega arith in
          let kept : get_or (set uses number n) key 0 ≡ get_or uses key 0 = get_or-set_other uses number key n 0 other in
          omega (arith, kept, are key inside, none)
    ]

-- a count up to 255 is 1 if and only if the whole is
one_of : (n : ℕ) → eqb (min n 255) 1 ≡ eqb n 1
one_of n = elim (cases_eq n 1) [
  | inl same ↦ ap (λ m. eqb (min m 255) 1) same ∙ sym (ap (λ m. eqb m 1) same)
  | inr other ↦ ne_eqb (min n 255) 1 (λ e. other (omega (arith, e))) ∙ sym (ne_eqb n 1 other)
]

-- the ones are the keys accessed once
pub ones_are : (uses numbers : List ℕ) → IsCounted uses numbers → (different : ℕ) → different ≤ length uses → ones (take different uses) ≡ keys_once different numbers
ones_are uses numbers are zero few = refl
ones_are uses numbers are (suc key) few =
    let inside : key < length uses = omega (arith, few) in
    let next : suc key ≡ key + 1 = omega arith in
    ap (λ n. ones (take n uses)) next ∙ counted_more is_one uses key inside
    ∙ ap (λ n. n + cond (eqb (get_or uses key 0) 1) 1 0) (ones_are uses numbers are key (omega (arith, few)))
    ∙ ap (λ b. keys_once key numbers + cond b 1 0) (ap (λ m. eqb m 1) (are key inside) ∙ one_of (uses_of key numbers))

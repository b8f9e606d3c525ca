-- The digits of a number, written from the last one on.
use Rattle.std.proofs.Common.{◌≡◌, ℕ, ◌+◌, ◌/◌, ◌%◌, ◌<◌, ◌≤◌, ◌^◌, cond, List, [], ◌∷◌, ◌++◌, length, drop, set, Result, Ok, Err, sym, ap, ◌∙◌, append_assoc, length-append, arith, rules}
use Rattle.std.specs.Prelude.{decimal, OnOk, is_ok}
use Rattle.std.proofs.lemmas.Fmt.{decimal_step, decimal_digit, decimal_nonempty}
use Rattle.std.proofs.lemmas.List.{drop-set}

-- a tenth has one digit less
pub digit-less : (n : ℕ) → 10 ≤ n → n < 2 ^ 64 → length (decimal n) ≡ length (decimal (n / 10)) + 1
digit-less n h small = ap length (decimal_step n h small) ∙ length-append (decimal (n / 10)) ((48 + n % 10) ∷ [])

-- so there are two or more
pub two-digits : (n : ℕ) → 10 ≤ n → n < 2 ^ 64 → 2 ≤ length (decimal n)
two-digits n h small =
    let less : n / 10 < 2 ^ 64 = omega (arith, small) in
    omega (arith, digit-less n h small, decimal_nonempty (n / 10) less)

-- the last digit is written
pub digits-moved : (shown bytes : List ℕ) (rest start next : ℕ) → 10 ≤ rest → rest < 2 ^ 64 → start < length bytes → next ≡ start
    → shown ≡ decimal rest ++ drop (start + 1) bytes → shown ≡ decimal (rest / 10) ++ drop next (set bytes start (48 + rest % 10))
digits-moved shown bytes rest start next h small room is e =
    e ∙ ap (λ ds. ds ++ drop (start + 1) bytes) (decimal_step rest h small) ∙ append_assoc (decimal (rest / 10)) ((48 + rest % 10) ∷ []) (drop (start + 1) bytes)
    ∙ ap (λ ds. decimal (rest / 10) ++ ds) (sym (drop-set bytes start (48 + rest % 10) room)) ∙ ap (λ n. decimal (rest / 10) ++ drop n (set bytes start (48 + rest % 10))) (sym is)

-- and the first one
pub digits-ended : (shown bytes : List ℕ) (rest start : ℕ) → rest < 10 → start < length bytes → shown ≡ decimal rest ++ drop (start + 1) bytes → drop start (set bytes start (48 + rest)) ≡ shown
digits-ended shown bytes rest start h room e = drop-set bytes start (48 + rest) room ∙ sym (e ∙ ap (λ ds. ds ++ drop (start + 1) bytes) (decimal_digit rest h))

-- a text that was added to
pub added : {A E : Type 0} (r : Result A E) (old new more front end : List ℕ) → new ≡ cond (is_ok r) (old ++ more) old → more ≡ front ++ end → OnOk r (new ≡ (old ++ front) ++ end)
added (Ok a) old new more front end e is = e ∙ ap (λ xs. old ++ xs) is ∙ sym (append_assoc old front end)
added (Err x) old new more front end e is = search rules

-- Sums of sizes, one access at a time.
use Rattle.std.proofs.Common.{◌≡◌, ℕ, ◌+◌, ◌-◌, ◌<◌, ◌≤◌, Bool, false, cond, List, [], ◌∷◌, length, take, drop, get_or, min, refl, ap, ◌∙◌, arith}
use Rattle.std.specs.List.{sum}
use Rattle.std.proofs.lemmas.List.{drop_all, drop_more, get_or-take, length-drop, length-take, take_all}
use Rattle.std.proofs.lemmas.List.Sums.{sum_by-drop_more}
use Rattle.simulator_traces.specs.Bytes.{between, capped, hit_between, hit_bytes}

-- nothing has a size
pub unsized_hits : (outcomes : List Bool) → hit_bytes outcomes [] ≡ 0
unsized_hits [] = refl
unsized_hits (hit ∷ outcomes) = refl

-- the next access
part-more : {X : Type 0} (xs : List X) (last i : ℕ) (d : X) → i < last → i < length xs → between i last xs ≡ get_or xs i d ∷ between (i + 1) last xs
part-more xs last i d low within =
    let long : i < length (take last xs) = omega (arith, low, within, length-take last xs) in
    drop_more (take last xs) i d long ∙ ap (λ x. x ∷ between (i + 1) last xs) (get_or-take last xs i d low)

pub hit-more : (outcomes : List Bool) (sizes : List ℕ) (last i : ℕ) → i < last → i < length outcomes → i < length sizes
    → hit_bytes (between i last outcomes) (between i last sizes) ≡ cond (get_or outcomes i false) (get_or sizes i 0) 0 + hit_bytes (between (i + 1) last outcomes) (between (i + 1) last sizes)
hit-more outcomes sizes last i low seen sized = rw (part-more outcomes last i false low seen, part-more sizes last i 0 low sized) refl

pub sum-more : (sizes : List ℕ) (last i : ℕ) → i < last → i < length sizes → sum (between i last sizes) ≡ get_or sizes i 0 + sum (between (i + 1) last sizes)
sum-more sizes last i low sized =
    let long : i < length (take last sizes) = omega (arith, low, sized, length-take last sizes) in
    sum_by-drop_more (λ x. x) (take last sizes) i 0 long ∙ ap (λ x. x + sum (between (i + 1) last sizes)) (get_or-take last sizes i 0 low)

-- no access is left
long : {X : Type 0} (xs : List X) (last i : ℕ) → length (between i last xs) ≡ min last (length xs) - i
long xs last i = length-drop i (take last xs) ∙ ap (λ n. n - i) (length-take last xs)

none : (outcomes : List Bool) (sizes : List ℕ) → min (length outcomes) (length sizes) ≡ 0 → hit_bytes outcomes sizes ≡ 0
none [] sizes e = refl
none (hit ∷ outcomes) [] e = refl
none (hit ∷ outcomes) (size ∷ sizes) e = absurd (omega (arith, e))

pub hit-done : (outcomes : List Bool) (sizes : List ℕ) (last i : ℕ) → min (min last (length outcomes)) (length sizes) ≤ i → hit_bytes (between i last outcomes) (between i last sizes) ≡ 0
hit-done outcomes sizes last i past = none (between i last outcomes) (between i last sizes) (omega (arith, past, long outcomes last i, long sizes last i))

pub sum-done : (sizes : List ℕ) (last i : ℕ) → min last (length sizes) ≤ i → sum (between i last sizes) ≡ 0
sum-done sizes last i past = ap sum (drop_all i (take last sizes) (omega (arith, past, length-take last sizes)))

-- Without sizes there are no bytes.
pub no-bytes : (first last : ℕ) (outcomes : List Bool) → hit_between first last outcomes [] ≡ 0
no-bytes first last outcomes =
    let nothing : between first last [] ≡ [] = ap (drop first) (take_all last [] (omega arith)) ∙ drop_all first [] (omega arith) in
    ap (λ sizes. capped (hit_bytes (between first last outcomes) sizes)) nothing ∙ ap capped (unsized_hits (between first last outcomes))

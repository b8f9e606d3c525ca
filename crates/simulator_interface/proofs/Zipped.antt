-- Two lists, element by element, with one more each.
use Rattle.std.proofs.Common.{◌≡◌, ℕ, zero, suc, ◌+◌, ◌<◌, List, [], ◌∷◌, ◌++◌, length, take, get_or, map, sym, ap, ◌∙◌, subst, arith}
use Rattle.std.specs.List.{All}
use Rattle.std.proofs.lemmas.List.{map-append, take_more}
use Rattle.std.proofs.lemmas.List.Elements.{All-append}

pub zipped-more : {X Y : Type 0} (f : X → ℕ) (g : Y → ℕ) (xs : List X) (x : X) (new : List X) (ys : List Y) (i : ℕ) (d : Y) → i < length ys → new ≡ xs ++ x ∷ []
    → map f xs ≡ map g (take i ys) → f x ≡ g (get_or ys i d) → map f new ≡ map g (take (i + 1) ys)
zipped-more f g xs x new ys i d l n h e =
    ap (map f) n ∙ map-append f xs (x ∷ []) ∙ ap (λ zs. zs ++ f x ∷ []) h ∙ ap (λ z. map g (take i ys) ++ z ∷ []) e
    ∙ sym (ap (map g) (take_more ys i d l) ∙ map-append g (take i ys) (get_or ys i d ∷ []))

one : {X : Type 0} (P : X → Type 0) (x : X) → P x → All P (x ∷ [])
one P x p zero d l = p
one P x p (suc k) d l = absurd (omega (arith, l))

pub All-more : {X : Type 0} (P : X → Type 0) (xs : List X) (x : X) (new : List X) → new ≡ xs ++ x ∷ [] → All P xs → P x → All P new
All-more P xs x new n h p = subst (All P) (sym n) (All-append P xs (x ∷ []) h (one P x p))

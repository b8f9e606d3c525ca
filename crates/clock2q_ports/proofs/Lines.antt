-- The lines of a text, from the first one on.
use Rattle.std.proofs.Common.{◌≡◌, ℕ, ◌<◌, Bool, true, List, [], ◌∷◌, length, eqb, refl, sym, ap, ◌∙◌, arith}
use Rattle.std.specs.List.{slice_split, join_with_byte}
use Rattle.std.proofs.lemmas.Bool.{eqb-true}
use Rattle.std.proofs.lemmas.List.Splits.{length-slice_split, join_with_byte-slice_split}
use Rattle.clock2q_ports.specs.Lines.{lines_of, lines_of_parts}

-- a list has at least one part
pub parts_are_some : {X : Type 0} (p : X → Bool) (xs : List X) → slice_split p xs ≡ [] → ⊥
parts_are_some p xs e = omega (arith, length-slice_split p xs, ap length e)

-- the lines of more than one part
lines_more : (part : List ℕ) (parts : List (List ℕ)) → (parts ≡ [] → ⊥) → lines_of_parts (part ∷ parts) ≡ part ∷ lines_of_parts parts
lines_more [] [] h = absurd (h refl)
lines_more [] (q ∷ qs) h = refl
lines_more (b ∷ bs) parts h = refl

-- the lines of the only part of a text that isn't empty
lines_one : (part : List ℕ) → 0 < length part → lines_of_parts (part ∷ []) ≡ part ∷ []
lines_one [] h = absurd (omega arith)
lines_one (b ∷ bs) h = refl

-- the first line if it has its line end
pub lines_of-ended : (text line rest : List ℕ) → slice_split (λ b. eqb b 10) text ≡ line ∷ slice_split (λ b. eqb b 10) rest → lines_of text ≡ line ∷ lines_of rest
unfolding lines_of
lines_of-ended text line rest e =
    ap lines_of_parts e ∙ lines_more line (slice_split (λ b. eqb b 10) rest) (parts_are_some (λ b. eqb b 10) rest)

-- a text without a line end is a line
pub lines_of-last : (text line : List ℕ) → slice_split (λ b. eqb b 10) text ≡ line ∷ [] → 0 < length text → lines_of text ≡ line ∷ lines_of []
unfolding lines_of
lines_of-last text line e h =
    let same : line ≡ text = sym (ap (join_with_byte 10) e) ∙ join_with_byte-slice_split 10 text in
    ap lines_of_parts e ∙ lines_one line (omega (arith, ap length same))

-- an empty text has no lines
pub lines_of-empty : (text : List ℕ) → eqb (length text) 0 ≡ true → lines_of text ≡ []
unfolding lines_of
lines_of-empty [] e = refl
lines_of-empty (b ∷ bs) e = absurd (omega (arith, eqb-true (length (b ∷ bs)) 0 e))

-- The text of answers, with one more at the end.
use Rattle.std.proofs.Common.{◌≡◌, ℕ, ◌+◌, ◌<◌, List, [], ◌∷◌, ◌++◌, length, map, take, get_or, refl, ap, ◌∙◌, append-nil}
use Rattle.std.specs.Prelude.{codes}
use Rattle.std.proofs.lemmas.List.{take_more, map-append}
use Rattle.std.proofs.lemmas.Grind.{flat_map-append}
use Rattle.clock2q_machine.specs.Calls.{Answer, Done}
use Rattle.clock2q_text.specs.Text.{answer_line, answer_lines, output_of}

-- the text without answers
pub output_of-none : output_of [] ≡ codes "ok\n"
unfolding answer_lines
output_of-none = refl

-- one more answer
pub output_of-push : (answers : List (Answer ℕ)) (a : Answer ℕ) → output_of (answers ++ a ∷ []) ≡ output_of answers ++ answer_line a
unfolding answer_lines
output_of-push answers a = flat_map-append answer_line (Done ∷ answers) (a ∷ []) ∙ ap (λ xs. answer_lines (Done ∷ answers) ++ xs) (append-nil (answer_line a))

-- the same, if the answers are those of the front of a list
pub output_of-more : {X : Type 0} (view : X → Answer ℕ) (xs : List X) (i : ℕ) (d : X) → i < length xs
    → output_of (map view (take (i + 1) xs)) ≡ output_of (map view (take i xs)) ++ answer_line (view (get_or xs i d))
output_of-more view xs i d h =
    ap (λ ys. output_of (map view ys)) (take_more xs i d h) ∙ ap output_of (map-append view (take i xs) (get_or xs i d ∷ [])) ∙ output_of-push (map view (take i xs)) (view (get_or xs i d))

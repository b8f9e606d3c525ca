-- Lists cut at the first element that passes a test.
use Rattle.std.proofs.Common.{◌≡◌, ℕ, ◌+◌, ◌-◌, ◌≤◌, Bool, true, false, cond, List, [], ◌∷◌, length, take, drop, Option, Some, None, eqb, ltb, refl, sym, ap, ◌∙◌, subst, arith}
use Rattle.std.specs.List.{slice_split, position, position_or_len}
use Rattle.std.proofs.lemmas.Bool.{ltb-true, ltb-false}
use Rattle.std.proofs.lemmas.List.{length-drop, take_all, drop-drop}
use Rattle.std.proofs.lemmas.List.Splits.{slice_split_first, slice_split_none}
use Rattle.std.proofs.lemmas.List.Sums.{fails_before_first}
use Rattle.std.specs.Borrow.{Bor}
use Rattle.std.specs.Option.{unwrap_or}
use Rattle.clock2q_text.specs.Cut.{parts_after}
use Rattle.clock2q_ports.specs.Lines.{lines_of}
use Rattle.clock2q_ports.proofs.Lines.{lines_of-ended, lines_of-last}

-- a test that chose `Some` held
chosen : (b : Bool) (q at : ℕ) → cond b (Some q) None ≡ Some at → (b ≡ true) × (q ≡ at)
chosen true q at e = (refl, cc)
chosen false q at e = cc

-- a test that chose `None` failed
left_out : (b : Bool) (q : ℕ) → cond b (Some q) None ≡ None → b ≡ false
left_out true q e = cc
left_out false q e = refl

-- at the first element that passes, the list is split into the elements before it and the parts of those after it
pub slice_split_at_first : {X : Type 0} (p : X → Bool) (xs : List X) (d : X) (at : ℕ) → position p xs ≡ Some at → slice_split p xs ≡ take at xs ∷ slice_split p (drop (at + 1) xs)
slice_split_at_first p xs d at e =
    let found : (ltb (position_or_len p xs) (length xs) ≡ true) × (position_or_len p xs ≡ at) = chosen _ _ _ e in
    subst (λ n. slice_split p xs ≡ take n xs ∷ slice_split p (drop (n + 1) xs)) found.1
    (slice_split_first p xs d (ltb-true _ _ found.0))

-- the same, if the list was cut there and the separator removed
pub slice_split_cut : (p : ℕ → Bool) (bytes front back : List ℕ) (at : ℕ) → position p bytes ≡ Some at → front ≡ take at bytes
    → back ≡ drop at bytes → slice_split p bytes ≡ front ∷ slice_split p (take (length back - 1) (drop 1 back))
slice_split_cut p bytes front back at e f b =
    let whole : take (length back - 1) (drop 1 back) ≡ drop 1 back = take_all (length back - 1) (drop 1 back) (omega (arith, length-drop 1 back)) in
    let rest : drop 1 back ≡ drop (at + 1) bytes = ap (drop 1) b ∙ drop-drop 1 at bytes in
    slice_split_at_first p bytes 0 at e ∙ subst (λ xs. take at bytes ∷ slice_split p (drop (at + 1) bytes) ≡ xs ∷ slice_split p (take (length back - 1) (drop 1 back))) (sym f)
    (ap (λ xs. take at bytes ∷ slice_split p xs) (sym (whole ∙ rest)))

-- if none passes, the list is the only part
pub slice_split_whole : {X : Type 0} (p : X → Bool) (xs : List X) → position p xs ≡ None → slice_split p xs ≡ xs ∷ []
slice_split_whole p xs e =
    let none : length xs ≤ position_or_len p xs = ltb-false _ _ (left_out _ _ e) in
    slice_split_none p xs (λ k d h. fails_before_first p xs k d (omega (arith, none)))

-- the first line, and the lines of the rest after a cut, which is empty if there is no line end
pub lines_of-cut : (text line : List ℕ) (after : Option (Bor (List ℕ))) (rest d : Bor (List ℕ)) → eqb (length text) 0 ≡ false
    → slice_split (λ b. eqb b 10) text ≡ line ∷ parts_after 10 after → rest ≡ unwrap_or after d → d.now ≡ [] → lines_of text ≡ line ∷ lines_of rest.now
lines_of-cut [] line after rest d some e r none = cc
lines_of-cut (b ∷ bs) line (Some found) rest d some e r none =
    lines_of-ended (b ∷ bs) line found.now e ∙ ap (λ (x : Bor (List ℕ)). line ∷ lines_of x.now) (sym r)
lines_of-cut (b ∷ bs) line None rest d some e r none =
    lines_of-last (b ∷ bs) line e (omega arith) ∙ ap (λ xs. line ∷ lines_of xs) (sym (ap (λ (x : Bor (List ℕ)). x.now) r ∙ none))

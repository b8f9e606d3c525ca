-- The shares that a first line spells.
use Rattle.std.proofs.Common.{◌≡◌, ℕ, true, false, List, [], ◌∷◌, Option, Some, None, refl, ap, ◌∙◌}
use Rattle.std.specs.Prelude.{codes}
use Rattle.std.specs.Option.{option_and_then, option_map}
use Rattle.std.specs.Str.{bytes_eq}
use Rattle.std.proofs.lemmas.Bool.{ne_eqb}
use Rattle.clock2q_machine.specs.Shares.{Shares}
use Rattle.clock2q_machine.specs.Policies.{shares_of, shares_with}
use Rattle.clock2q_text.specs.Cut.{number_first}
use Rattle.clock2q_text.specs.Text.{number_of, all_read, with_one, chosen_from, shares_from, shares_in}

-- without `new` there are no shares; with it, those of the words after it
pub shares_in-other : (name : List ℕ) (arguments : List (List ℕ)) → bytes_eq name (codes "new") ≡ false → shares_in (name ∷ arguments) ≡ None
unfolding shares_in
shares_in-other name arguments e = rw e refl

pub shares_in-new : (name : List ℕ) (arguments : List (List ℕ)) → bytes_eq name (codes "new") ≡ true → shares_in (name ∷ arguments) ≡ option_and_then shares_from (all_read number_of arguments)
unfolding shares_in
shares_in-new name arguments e = rw e refl

-- the shares that the words after `new` choose
abbrev pub Chosen : List (List ℕ) → Option Shares
Chosen words = option_and_then shares_from (all_read number_of words)

-- a first word that isn't a number
pub none_read : (words : List (List ℕ)) → (words ≡ [] → ⊥) → number_first words ≡ None → all_read number_of words ≡ None
none_read [] some e = absurd (some refl)
none_read (word ∷ others) some e = not_read (number_of word) e where
  not_read : (o : Option ℕ) → option_map {U = ℕ × List (List ℕ)} (λ n. (n, others)) o ≡ None
      → option_and_then (λ y. option_map (λ ys. y ∷ ys) (all_read number_of others)) o ≡ None
  not_read None e = refl
  not_read (Some n) e = cc

-- a first number with others after it
pub read_first : (words : List (List ℕ)) (n : ℕ) (others : List (List ℕ)) → number_first words ≡ Some (n, others)
    → all_read number_of words ≡ option_map (λ ns. n ∷ ns) (all_read number_of others)
read_first [] n others e = cc
read_first (word ∷ words) n others e = read (number_of word) e where
  read : (o : Option ℕ) → option_map {U = ℕ × List (List ℕ)} (λ m. (m, words)) o ≡ Some (n, others)
      → option_and_then (λ y. option_map (λ ys. y ∷ ys) (all_read number_of words)) o ≡ option_map (λ ns. n ∷ ns) (all_read number_of others)
  read None h = let none : ◌≡◌ {A = Option (ℕ × List (List ℕ))} None (Some (n, others)) = h in cc
  read (Some m) h =
      let both : ◌≡◌ {A = Option (ℕ × List (List ℕ))} (Some (m, words)) (Some (n, others)) = h in
      let pairs : ◌≡◌ {A = ℕ × List (List ℕ)} (m, words) (n, others) = cc in
      let same : m ≡ n = ap (λ (p : ℕ × List (List ℕ)). p.0) pairs in
      let rest : words ≡ others = ap (λ (p : ℕ × List (List ℕ)). p.1) pairs in
      ap (λ ws. option_map (λ ns. m ∷ ns) (all_read number_of ws)) rest ∙ ap (λ k. option_map (λ ns. k ∷ ns) (all_read number_of others)) same

-- no number, and so no shares
pub shares-bad : (words : List (List ℕ)) → (words ≡ [] → ⊥) → number_first words ≡ None → Chosen words ≡ None
shares-bad words some e = ap (option_and_then shares_from) (none_read words some e)

-- none if the capacity is 0
none_of_zero : (o : Option (List ℕ)) → option_and_then shares_from (option_map (λ ns. 0 ∷ ns) o) ≡ None
none_of_zero None = refl
none_of_zero (Some ns) = refl

pub shares-zero : (words : List (List ℕ)) (n : ℕ) (others : List (List ℕ)) → number_first words ≡ Some (n, others) → n ≡ 0 → Chosen words ≡ None
shares-zero words n others e zero = ap (option_and_then shares_from) (read_first words n others e)
    ∙ ap (λ k. option_and_then shares_from (option_map (λ ns. k ∷ ns) (all_read number_of others))) zero ∙ none_of_zero (all_read number_of others)

-- what the numbers after another capacity choose
pub shares-chosen : (words : List (List ℕ)) (n : ℕ) (others : List (List ℕ)) → number_first words ≡ Some (n, others) → (n ≡ 0 → ⊥)
    → Chosen words ≡ option_and_then (chosen_from n) (all_read number_of others)
shares-chosen words n others e some = ap (option_and_then shares_from) (read_first words n others e) ∙ chosen (all_read number_of others) where
  chosen : (o : Option (List ℕ)) → option_and_then shares_from (option_map (λ ns. n ∷ ns) o) ≡ option_and_then (chosen_from n) o
  chosen None = refl
  chosen (Some ns) = rw (ne_eqb n 0 some) refl

module _ (capacity : ℕ) where
  -- what words choose after a capacity
  abbrev pub After : List (List ℕ) → Option Shares
  After words = option_and_then (chosen_from capacity) (all_read number_of words)

  pub after-bad : (words : List (List ℕ)) → (words ≡ [] → ⊥) → number_first words ≡ None → After words ≡ None
  after-bad words some e = ap (option_and_then (chosen_from capacity)) (none_read words some e)

  -- one number alone chooses nothing
  pub after-one : (words : List (List ℕ)) (n : ℕ) → number_first words ≡ Some (n, []) → After words ≡ None
  after-one words n e = ap (option_and_then (chosen_from capacity)) (read_first words n [] e)

  module _ (words : List (List ℕ)) (n : ℕ) (others : List (List ℕ)) (first : number_first words ≡ Some (n, others)) where
    -- a second word that isn't a number
    pub after-bad-second : (others ≡ [] → ⊥) → number_first others ≡ None → After words ≡ None
    after-bad-second some bad =
        ap (option_and_then (chosen_from capacity)) (read_first words n others first ∙ ap (option_map (λ ns. n ∷ ns)) (none_read others some bad))

    module _ (m : ℕ) (rest : List (List ℕ)) (second : number_first others ≡ Some (m, rest)) where
      two : After words ≡ option_and_then (chosen_from capacity) (option_map (λ ns. n ∷ ns) (option_map (λ ns. m ∷ ns) (all_read number_of rest)))
      two = ap (option_and_then (chosen_from capacity)) (read_first words n others first ∙ ap (option_map (λ ns. n ∷ ns)) (read_first others m rest second))

      -- two numbers alone
      pub after-two : rest ≡ [] → After words ≡ Some (shares_of capacity n m)
      after-two e = two ∙ ap (λ ws. option_and_then (chosen_from capacity) (option_map (λ ns. n ∷ ns) (option_map (λ ns. m ∷ ns) (all_read number_of ws)))) e

      -- and a third, which must be the last
      pub after-three : (rest ≡ [] → ⊥) → After words ≡ option_map (shares_with capacity n m) (with_one number_of (λ h. h) rest)
      after-three some = two ∙ third rest some where
        third : (ws : List (List ℕ)) → (ws ≡ [] → ⊥) → option_and_then (chosen_from capacity) (option_map (λ ns. n ∷ ns) (option_map (λ ns. m ∷ ns) (all_read number_of ws)))
            ≡ option_map (shares_with capacity n m) (with_one number_of (λ h. h) ws)
        third [] some = absurd (some refl)
        third (a ∷ []) some = one (number_of a) where
          one : (o : Option ℕ) → option_and_then (chosen_from capacity) (option_map (λ ns. n ∷ ns) (option_map (λ ns. m ∷ ns) (option_and_then (λ y. option_map (λ ys. y ∷ ys) (Some [])) o)))
              ≡ option_map (shares_with capacity n m) (option_map (λ h. h) o)
          one None = refl
          one (Some h) = refl
        third (a ∷ b ∷ ws) some = more (number_of a) (number_of b) (all_read number_of ws) where
          more : (o q : Option ℕ) (r : Option (List ℕ)) → option_and_then (chosen_from capacity) (option_map (λ ns. n ∷ ns) (option_map (λ ns. m ∷ ns)
              (option_and_then (λ y. option_map (λ ys. y ∷ ys) (option_and_then (λ z. option_map (λ zs. z ∷ zs) r) q)) o))) ≡ None
          more None q r = refl
          more (Some h) None r = refl
          more (Some h) (Some k) None = refl
          more (Some h) (Some k) (Some ks) = refl

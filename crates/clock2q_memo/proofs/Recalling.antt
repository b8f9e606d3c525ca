-- A list of lookups: one more, and all of them.
use Rattle.std.proofs.Common.{◌≡◌, ℕ, ◌+◌, Bool, List, [], ◌∷◌, ◌++◌, ◌∙◌, sym, ap, arith}
use Rattle.std.proofs.lemmas.List.{append_assoc, append-nil}
use Rattle.clock2q_machine.specs.Machine.{Machine}
use Rattle.clock2q_machine.specs.Steps.{fetched}
use Rattle.clock2q_memo.specs.Memo.{recalled, evaluations_of, evaluations_for}

module _ {K V : Type 0} (eq : K → K → Bool) where
  -- looking up the rest after a first lookup leaves what looking up all leaves
  pub recalled-step : (keys rest all : List K) (key : K) (value : V) (m n start : Machine K V) (values pushed : List V) →
      keys ≡ key ∷ rest → n ≡ fetched (eq key) key value m → pushed ≡ values ++ value ∷ []
      → ((more : List V) → recalled eq keys more m ≡ recalled eq all (values ++ more) start)
      → (more : List V) → recalled eq rest more n ≡ recalled eq all (pushed ++ more) start
  recalled-step keys rest all key value m n start values pushed left is push so more =
      ap (recalled eq rest more) is
      ∙ ap (λ k. recalled eq k (value ∷ more) m) (sym left)
      ∙ so (value ∷ more)
      ∙ ap (λ v. recalled eq all v start) (sym (ap (λ v. v ++ more) push ∙ append_assoc values (value ∷ []) more))

  -- the calls of a first lookup and of the rest are those of all lookups
  pub evaluations-step : (keys rest all : List K) (key : K) (value : V) (m n start : Machine K V) (values pushed : List V)
      (before after first : ℕ) → keys ≡ key ∷ rest → n ≡ fetched (eq key) key value m → pushed ≡ values ++ value ∷ []
      → after ≡ before + evaluations_for eq key m
      → ((more : List V) → before + evaluations_of eq keys more m ≡ first + evaluations_of eq all (values ++ more) start)
      → (more : List V) → after + evaluations_of eq rest more n ≡ first + evaluations_of eq all (pushed ++ more) start
  evaluations-step keys rest all key value m n start values pushed before after first left is push counted so more =
      ap (λ z. after + evaluations_of eq rest more z) is
      ∙ one_first after before (evaluations_for eq key m) (evaluations_of eq rest more (fetched (eq key) key value m)) counted
      ∙ ap (λ k. before + evaluations_of eq k (value ∷ more) m) (sym left)
      ∙ so (value ∷ more)
      ∙ ap (λ v. first + evaluations_of eq all v start) (sym (ap (λ v. v ++ more) push ∙ append_assoc values (value ∷ []) more))
    where
      one_first : (after before one others : ℕ) → after ≡ before + one → after + others ≡ before + (one + others)
      one_first after before one others e = search (arith, e)

  -- if no key is left, all were looked up
  pub recalled-ended : (keys all : List K) (m start : Machine K V) (values : List V) → keys ≡ []
      → ((more : List V) → recalled eq keys more m ≡ recalled eq all (values ++ more) start)
      → m ≡ recalled eq all values start
  recalled-ended keys all m start values ended so =
      ap (λ k. recalled eq k [] m) (sym ended) ∙ so [] ∙ ap (λ v. recalled eq all v start) (append-nil values)

  pub evaluations-ended : (keys all : List K) (m start : Machine K V) (values : List V) (before first : ℕ) → keys ≡ []
      → ((more : List V) → before + evaluations_of eq keys more m ≡ first + evaluations_of eq all (values ++ more) start)
      → before ≡ first + evaluations_of eq all values start
  evaluations-ended keys all m start values before first ended so =
      none_more before ∙ ap (λ k. before + evaluations_of eq k [] m) (sym ended) ∙ so [] ∙ ap (λ v. first + evaluations_of eq all v start) (append-nil values)
    where
      none_more : (n : ℕ) → n ≡ n + 0
      none_more n = search arith

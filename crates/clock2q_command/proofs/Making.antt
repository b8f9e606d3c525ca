-- A cache that is made with the shares of a script, or refused, and its replies.
use Rattle.std.proofs.Common.{◌≡◌, ℕ, suc, ◌+◌, ◌/◌, ◌<◌, ◌≤◌, Bool, true, false, cond, ltb, max, List, Result, Ok, Err, refl, sym, subst, ap, ◌∙◌, arith, nat_eq, ⊎_elim, ◌⊎◌, inl, inr}
use Rattle.std.specs.Prelude.{◌↔◌, ◌≢◌, IfOk, IfErr, IsErrOf}
use Rattle.std.proofs.lemmas.Bool.{cases_lt, ltb-true}
use Rattle.clock2q_machine.specs.Shares.{Shares, usual_shares, usual_small}
use Rattle.clock2q_machine.specs.Policies.{IsPolicy}
use Rattle.clock2q_machine.specs.Calls.{Call}
use Rattle.clock2q_machine.specs.Machine.{Machine, empty}
use Rattle.clock2q_machine.specs.Steps.{answers}
use Rattle.clock2q_cache.specs.declared.error.CacheError.{CacheError}
use Rattle.clock2q_cache.specs.declared.error.CacheError.TheVariants.{Memory, Capacity, Policy}
use Rattle.clock2q_text.specs.declared.serve_error.ServeError.{ServeError}
use Rattle.clock2q_text.specs.declared.serve_error.ServeError.TheVariants as serve
use Rattle.clock2q_command.specs.Serve.{CanBeHad, IsUnanswered, Makes, RepliesTo, output_for}
use Rattle.clock2q_text.specs.Text.{output_of}

-- the most keys that a cache can have
abbrev most_keys : ℕ
most_keys = 16777215

-- if more keys would be refused, but aren't, there are no more
within : (n : ℕ) (Refused : Type 0) → (most_keys < n → Refused) → (Refused → ⊥) → n < suc most_keys
within n Refused refuses h = ⊎_elim (λ less. less) (λ more. absurd (h (refuses (omega arith)))) (cases_lt n (suc most_keys))

-- the usual shares fit together
usual_policy : (n small : ℕ) → 0 < n → small ≡ usual_small n → IsPolicy (record { capacity = n; small = small; window = (small + 1) / 2; history = n / 2 })
usual_policy n small some is = record {
  below = below (ltb 1 n) refl (is);
  both = ((λ e. omega (arith, e)), (λ e. omega (arith, e)));
  within = omega arith;
  remembered = omega arith;
} where
  below : (b : Bool) → ltb 1 n ≡ b → small ≡ cond b (max (n / 10) 1) 0 → small < n
  below true t e = let more : 1 < n = ltb-true 1 n t in omega (arith, e, more)
  below false t e = omega (arith, e, some)

pub IsPolicy-usual : (n : ℕ) → 0 < n → IsPolicy (usual_shares n)
IsPolicy-usual n some = usual_policy n (usual_small n) some refl

-- shares fit together, or they don't
module _ (shares : Shares) where
  abbrev Decided : Type 0
  Decided = IsPolicy shares ⊎ (IsPolicy shares → ⊥)

  module _ (below : shares.small < shares.capacity) (short : shares.window ≤ shares.small) (few : shares.history ≤ shares.capacity) where
    without : shares.window ≤ 0 → (0 < shares.small) ⊎ (shares.small ≤ 0) → Decided
    without none (inl some) = inr (λ p. let empty_small : shares.small ≡ 0 = p.both.1 (omega (arith, none)) in omega (arith, empty_small, some))
    without none (inr empty_small) = inl (record { below = below; both = ((λ e. omega (arith, none)), (λ e. omega (arith, empty_small))); within = short; remembered = few })

    windowed : (0 < shares.window) ⊎ (shares.window ≤ 0) → Decided
    windowed (inl some) = inl (record { below = below; both = ((λ e. omega (arith, e, some, short)), (λ e. omega (arith, e, some))); within = short; remembered = few })
    windowed (inr none) = without none (cases_lt 0 shares.small)

  shared : shares.history ≤ shares.capacity → (shares.small < shares.capacity) ⊎ (shares.capacity ≤ shares.small) → (shares.small < shares.window) ⊎ (shares.window ≤ shares.small) → Decided
  shared few (inr above) windows = inr (λ p. omega (arith, above, p.below))
  shared few (inl below) (inl longer) = inr (λ p. omega (arith, longer, p.within))
  shared few (inl below) (inr short) = windowed below short few (cases_lt 0 shares.window)

  remembered : (shares.capacity < shares.history) ⊎ (shares.history ≤ shares.capacity) → Decided
  remembered (inl many) = inr (λ p. omega (arith, many, p.remembered))
  remembered (inr few) = shared few (cases_lt shares.small shares.capacity) (cases_lt shares.small shares.window)

  policy_cases : Decided
  policy_cases = remembered (cases_lt shares.capacity shares.history)

module _ {X K V : Type 0} (machine : X → Machine K V) where
  -- a cache that `new` made or refused
  pub Makes-usual : (n : ℕ) (r : Result X CacheError) → 0 < n → IfOk r (λ cache. machine cache ≡ empty (usual_shares n)) →
      IsErrOf r Capacity ↔ (most_keys < n) → r ≢ Err Policy → Makes (usual_shares n) machine r
  Makes-usual n (Ok cache) some made capacity policy = ((within n _ capacity.1 (λ e. cc), IsPolicy-usual n some), made)
  Makes-usual n (Err Memory) some made capacity policy = (within n _ capacity.1 (λ e. cc), IsPolicy-usual n some)
  Makes-usual n (Err Capacity) some made capacity policy = λ less. let more : most_keys < n = capacity.0 refl in omega (arith, less, more)
  Makes-usual n (Err Policy) some made capacity policy = absurd (policy refl)

  -- one that `with_policy` or `with_history` made or refused
  pub Makes-chosen : (shares : Shares) (r : Result X CacheError) → IfOk r (λ cache. machine cache ≡ empty shares) →
      IsErrOf r Capacity ↔ (most_keys < shares.capacity) → IsErrOf r Policy ↔
      ((shares.capacity ≤ most_keys) × (IsPolicy shares → ⊥)) → Makes shares machine r
  Makes-chosen shares (Ok cache) made capacity policy =
      let few : shares.capacity < suc most_keys = within shares.capacity _ capacity.1 (λ e. cc) in
      ((few, ⊎_elim (λ p. p) (λ no_policy. absurd (no (policy.1 (omega (arith, few), no_policy)))) (policy_cases shares)), made) where
        no : IsErrOf {T = X} (Ok cache) Policy → ⊥
        no e = cc
  Makes-chosen shares (Err Memory) made capacity policy =
      let few : shares.capacity < suc most_keys = within shares.capacity _ capacity.1 (λ e. cc) in
      (few, ⊎_elim (λ p. p) (λ no_policy. absurd (no (policy.1 (omega (arith, few), no_policy)))) (policy_cases shares)) where
        no : IsErrOf {T = X} (Err Memory) Policy → ⊥
        no e = cc
  Makes-chosen shares (Err Capacity) made capacity policy = λ less. let more : most_keys < shares.capacity = capacity.0 refl in omega (arith, less, more)
  Makes-chosen shares (Err Policy) made capacity policy =
      let p = policy.0 refl in
      (omega (arith, p.0), p.1)

-- the text of the answers of a cache that was empty, or no memory for it
pub RepliesTo-made : {X : Type 0} (bytes : X → List ℕ) (shares : Shares) (calls : List (Call ℕ ℕ)) (m : Machine ℕ ℕ) (r : Result X ServeError) →
    CanBeHad shares → m ≡ empty shares → IfOk r (λ text. bytes text ≡ output_of (answers nat_eq calls m)) → IfErr r (λ e. e ≡ serve.Memory) →
    RepliesTo (record { shares = shares; calls = calls }) bytes r
unfolding output_for
RepliesTo-made bytes shares calls m (Ok text) had made written memory = (had, written ∙ ap (λ m. output_of (answers nat_eq calls m)) made)
RepliesTo-made bytes shares calls m (Err refusal) had made written memory = subst (IsUnanswered shares) (sym memory) had

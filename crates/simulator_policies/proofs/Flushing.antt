-- A scan flushes a cache of a plain policy: after as many new keys as its capacity, it holds none of those it held
-- before.
use Rattle.std.proofs.Common.{◌≡◌, ℕ, zero, suc, ◌+◌, ◌≤◌, ◌==◌, Bool, true, false, ◌||◌, List, [], ◌∷◌, ◌++◌, length, take, refl, sym, ap, ◌∙◌, arith, eqb, ne_eqb}
use Rattle.std.specs.Prelude.{if◌then◌else◌}
use Rattle.std.specs.Cmp.{nat_eq_equiv}
use Rattle.std.specs.List.{AllByRecursion}
use Rattle.std.proofs.lemmas.List.{take-append-le}
use Rattle.std.proofs.lemmas.Map.Keys.{IsDistinct-tail}
use Rattle.clock2q_machine.specs.Hits.{is_in}
use Rattle.clock2q_machine.proofs.Sharing.{distinct_first}
use Rattle.simulator_policies.specs.declared.plain.PlainPolicy.{PlainPolicy}
use Rattle.simulator_policies.specs.Policies.{after_hit, brought, plain_after, plain_after_all, AreNew}

-- Two tests that both fail.

first_fails : (a b : Bool) → (a || b) ≡ false → a ≡ false
first_fails true b fails = fails
first_fails false b fails = refl

second_fails : (a b : Bool) → (a || b) ≡ false → b ≡ false
second_fails true b fails = cc
second_fails false b fails = fails

both_fail : (a b : Bool) → a ≡ false → b ≡ false → (a || b) ≡ false
both_fail true b fails none = cc
both_fail false b fails none = none

-- a key that isn't in a list isn't among its first keys either
is_in-take : (key n : ℕ) (held : List ℕ) → is_in key held ≡ false → is_in key (take n held) ≡ false
is_in-take key zero held none = refl
is_in-take key (suc n) [] none = refl
is_in-take key (suc n) (first ∷ held) none =
    both_fail (first == key) (is_in key (take n held)) (first_fails (first == key) (is_in key held) none) (is_in-take key n held (second_fails (first == key) (is_in key held) none))

take_again : (n : ℕ) (held : List ℕ) → take n (take n held) ≡ take n held
take_again zero held = refl
take_again (suc n) [] = refl
take_again (suc n) (first ∷ held) = ap (λ rest. first ∷ rest) (take_again n held)

take_within : (n : ℕ) (held : List ℕ) → length held ≤ n → take n held ≡ held
take_within zero [] within = refl
take_within (suc n) [] within = refl
take_within zero (first ∷ held) within = absurd (omega arith)
take_within (suc n) (first ∷ held) within = ap (λ rest. first ∷ rest) (take_within n held (omega arith))

take_one_more : (n key : ℕ) (held : List ℕ) → take n (key ∷ take n held) ≡ take n (key ∷ held)
take_one_more zero key held = refl
take_one_more (suc n) key held = ap (λ rest. key ∷ rest) (shorter n held) where
  shorter : (n : ℕ) (held : List ℕ) → take n (take (suc n) held) ≡ take n held
  shorter zero held = refl
  shorter (suc n) [] = refl
  shorter (suc n) (first ∷ held) = ap (λ rest. first ∷ rest) (shorter n held)

-- the keys of a trace, the last one in front
abbrev newest_first : List ℕ → List ℕ → List ℕ
newest_first [] held = held
newest_first (key ∷ trace) held = newest_first trace (key ∷ held)

length-newest_first : (trace held : List ℕ) → length (newest_first trace held) ≡ length trace + length held
length-newest_first [] held = omega arith
length-newest_first (key ∷ trace) held = omega (arith, length-newest_first trace (key ∷ held))

newest_first-append : (trace front held : List ℕ) → newest_first trace (front ++ held) ≡ newest_first trace front ++ held
newest_first-append [] front held = refl
newest_first-append (key ∷ trace) front held = newest_first-append trace (key ∷ front) held

not_among : (key : ℕ) (trace held : List ℕ) → is_in key trace ≡ false → is_in key held ≡ false → is_in key (newest_first trace held) ≡ false
not_among key [] held none nor = nor
not_among key (first ∷ trace) held none nor =
    not_among key trace (first ∷ held) (second_fails (first == key) (is_in key trace) none) (both_fail (first == key) (is_in key held) (first_fails (first == key) (is_in key trace) none) nor)

-- the rest of a trace is also new to a cache with its first key
still_new : (key : ℕ) (trace held : List ℕ) → is_in key trace ≡ false → AreNew trace held → AreNew trace (key ∷ held)
still_new key trace held none new = (new.0, not_held trace none new.1) where
  not_held : (trace : List ℕ) → is_in key trace ≡ false → AllByRecursion (λ k. is_in k held ≡ false) trace → AllByRecursion (λ k. is_in k (key ∷ held) ≡ false) trace
  not_held [] none new = tt
  not_held (next ∷ trace) none new = (
    both_fail (key == next) (is_in next held) (nat_eq_equiv.symm key next ∙ first_fails (next == key) (is_in key trace) none) new.0,
    not_held trace (second_fails (next == key) (is_in key trace) none) new.1,
  )

module _ (policy : PlainPolicy) (capacity : ℕ) where
  -- each key of the trace is added at the front
  all_brought : (trace held : List ℕ) → AreNew trace held → plain_after_all policy capacity trace (take capacity held) ≡ take capacity (newest_first trace held)
  all_brought [] held new = refl
  all_brought (key ∷ trace) held new =
      let missed : plain_after policy capacity key (take capacity held) ≡ take capacity (key ∷ held) =
      ap (λ b. if b then after_hit policy key (take capacity held) else brought capacity key (take capacity held)) (is_in-take key capacity held new.1.0)
      ∙ take_one_more capacity key held in
      ap (plain_after_all policy capacity trace) missed
      ∙ all_brought trace (key ∷ held) (still_new key trace held (distinct_first key trace new.0) (IsDistinct-tail eqb key trace new.0, new.1.1))

  -- a key that is held is not one of the new ones
  held_not_new : (key : ℕ) (trace held : List ℕ) → is_in key held ≡ true → AllByRecursion (λ k. is_in k held ≡ false) trace → is_in key trace ≡ false
  held_not_new key [] held there new = refl
  held_not_new key (next ∷ trace) held there new = both_fail (next == key) (is_in key trace) (ne_eqb next key (λ same. clash same)) (held_not_new key trace held there new.1) where
    clash : next ≡ key → ⊥
    clash same = let is : true ≡ false = sym there ∙ ap (λ k. is_in k held) (sym same) ∙ new.0 in cc

  -- so a scan as long as the cache's capacity leaves none of the keys that were held
  pub flushed : (trace held : List ℕ) → length held ≤ capacity → AreNew trace held → capacity ≤ length trace
      → (key : ℕ) → is_in key held ≡ true → is_in key (plain_after_all policy capacity trace held) ≡ false
  flushed trace held within new long key there =
      let newest : List ℕ = newest_first trace [] in
      let all : plain_after_all policy capacity trace held ≡ take capacity newest =
      ap (plain_after_all policy capacity trace) (sym (take_within capacity held within))
      ∙ all_brought trace held new
      ∙ ap (take capacity) (newest_first-append trace [] held)
      ∙ take-append-le capacity newest held (omega (arith, long, length-newest_first trace [])) in
      rw all (is_in-take key capacity newest (not_among key trace [] (held_not_new key trace held there new.1) refl))

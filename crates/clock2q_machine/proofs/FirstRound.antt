-- After the first round of a loop that Small and the history have room for, each of its keys is in Small or remembered.
use Rattle.std.proofs.Common.{◌≡◌, ◌⊎◌, ℕ, zero, suc, ◌+◌, ◌-◌, ◌<◌, ◌≤◌, Bool, true, false, ◌||◌, List, [], ◌∷◌, ◌++◌, length, take, inl, inr, Option, Some, None, refl, ap, ◌∙◌, arith}
use Rattle.std.specs.Prelude.{if◌then◌else◌, is_some}
use Rattle.std.specs.Cmp.{IsEquivalence}
use Rattle.std.specs.List.{count_by, list_any, last_or, AllByRecursion}
use Rattle.std.proofs.lemmas.Bool.{cases_lt}
use Rattle.std.proofs.lemmas.List.{take_all}
use Rattle.std.proofs.lemmas.List.Sums.{sum_by-cons, sum_by-take-le}
use Rattle.clock2q_machine.specs.Entries.{SmallEntry}
use Rattle.clock2q_machine.specs.Calls.{Put}
use Rattle.clock2q_machine.specs.Machine.{Machine, slot_of, vacancy, goes_to_main}
use Rattle.clock2q_machine.specs.Steps.{after, after_all}
use Rattle.clock2q_machine.specs.Bounds.{goes_on, summed}
use Rattle.clock2q_machine.specs.Lifetimes.{newer, is_in_small, is_remembered, evictions_of, LetsBe}
use Rattle.clock2q_machine.specs.Whole.{IsWhole}
use Rattle.clock2q_machine.specs.Scans.{scan, IsFullCache, AreNew}
use Rattle.clock2q_machine.proofs.Weights.{weight-last}
use Rattle.clock2q_machine.proofs.Whole.{one_if}
use Rattle.clock2q_machine.proofs.MachineInvariant.{lasting-after}
use Rattle.clock2q_machine.proofs.Lifetimes.{remembered_still}
use Rattle.clock2q_machine.proofs.PromotedKeys.{promoted_count, promoted_without}
use Rattle.clock2q_machine.proofs.NewKeys.{LeavesForHistory, LeavesForMain, EntersFor, full_small, tail_of, small_some, put_shares, new_enters, full_still}
use Rattle.clock2q_machine.proofs.FarApart.{in_small, IsInSmall, Differ, sum_take_more, in_small_still, enters_in_front}

pub any_counted : {X : Type 0} (p : X → Bool) (xs : List X) → 0 < count_by p xs → list_any p xs ≡ true
any_counted p [] some = absurd (omega (arith, some))
any_counted p (x ∷ xs) some =
    (elim (p x) as (λ b. p x ≡ b → (b || list_any p xs) ≡ true) [
      | true ↦ λ _. refl
      | false ↦ λ fails. any_counted p xs (omega (arith, sum_by-cons (λ y. one_if (p y)) x xs, ap one_if fails, some))
    ]) refl

is_true : (b : Bool) → 0 < one_if b → b ≡ true
is_true true some = refl
is_true false some = absurd (omega (arith, some))

one_unless : (b : Bool) → (if b then 0 else 1) ≤ 1
one_unless true = omega arith
one_unless false = omega arith

none_or_one : (o : Option ℕ) (n : ℕ) → n ≤ 1 → (if is_some o then 0 else n) ≤ 1
none_or_one None n one = one
none_or_one (Some slot) n one = omega arith

module _ {K : Type 0} (is : K → Bool) (key : K) (passes : is key ≡ true) where
  pub newest_first : (room : ℕ) → 0 < room → (history : List K) → (list_any is (take room (key ∷ history)) ≡ true) × (newer is (take room (key ∷ history)) ≡ 0)
  newest_first zero some history = absurd (omega (arith, some))
  newest_first (suc n) some history =
      (ap (λ b. b || list_any is (take n history)) passes, ap (λ b. if b then 0 else 1 + newer is (take n history)) passes)

module _ {K V : Type 0} (eq : K → K → Bool) (laws : IsEquivalence eq) where
  pub evictions-le : (puts : List (K × V)) (m : Machine K V) → summed eq (evictions_of eq) (scan puts) m ≤ length puts
  evictions-le [] m = omega arith
  evictions-le (p ∷ puts) m =
      omega (
        arith,
        none_or_one (slot_of (eq p.0) m) (if goes_to_main (list_any (eq p.0) m.history) m || is_some (vacancy m) || goes_on (last_or None m.small) then 0 else 1)
            (one_unless (goes_to_main (list_any (eq p.0) m.history) m || is_some (vacancy m) || goes_on (last_or None m.small))),
        evictions-le puts (after eq (Put p.0 p.1) m),
      )

  pub lets_be : (key : K) (puts : List (K × V)) → Differ eq key puts → AllByRecursion (LetsBe eq key) (scan puts)
  lets_be key [] differ = tt
  lets_be key (q ∷ puts) differ = (laws.symm key q.0 ∙ differ.0, lets_be key puts differ.1)

  module _ (key : K) where
    abbrev IsKept : Machine K V → Type 0
    IsKept m = (is_in_small (eq key) m ≡ true) ⊎ (is_remembered (eq key) m ≡ true)

    found_in_small : (place : ℕ) (m : Machine K V) → IsInSmall (eq key) place m → is_in_small (eq key) m ≡ true
    found_in_small place m s = any_counted (λ (e : SmallEntry K). eq key e.key) m.small (omega (arith, s.there, sum_by-take-le (λ (e : SmallEntry K). one_if (eq key e.key)) m.small (suc place)))

    -- Small's tail is remembered
    remembered_as_tail : (q : K) (tail : SmallEntry K) (m n : Machine K V) → last_or None m.small ≡ Some tail → 0 < length m.small → EntersFor q tail m n → (place : ℕ) → length m.small ≡ suc place
        → 0 < m.shares.history → IsInSmall (eq key) place m → (is_remembered (eq key) n ≡ true) × (newer (eq key) n.history ≡ 0)
    remembered_as_tail q tail m n last some e place end room s = by_leaves e.leaves where
      all : take (suc place) m.small ≡ m.small
      all = take_all (suc place) m.small (omega (arith, end))

      is_tail : eq key tail.key ≡ true
      is_tail =
          is_true (eq key tail.key)
          (omega (
            arith,
            (weight-last (λ (x : SmallEntry K). one_if (eq key x.key)) None m.small tail some last).0,
            sum_take_more (λ (x : SmallEntry K). one_if (eq key x.key)) (length m.small - 1) place m.small (omega (arith, end)),
            ap (in_small (eq key)) all,
            s.before,
            s.there,
          ))

      by_leaves : LeavesForHistory tail m n ⊎ LeavesForMain tail m n → (is_remembered (eq key) n ≡ true) × (newer (eq key) n.history ≡ 0)
      by_leaves (inl l) =
          let first = newest_first (eq key) tail.key is_tail m.shares.history room m.history in
          (ap (list_any (eq key)) l.history ∙ first.0, ap (newer (eq key)) l.history ∙ first.1)
      by_leaves (inr l) = absurd (omega (arith, promoted_without m.small tail some last, ap one_if l.goes, ap promoted_count all, s.unset))

    -- the keys that follow
    kept_after : (puts : List (K × V)) (place : ℕ) (m : Machine K V) → IsWhole eq m → IsFullCache m → AreNew eq puts m → Differ eq key puts → IsInSmall (eq key) place m → place < m.shares.small
        → place + length puts < m.shares.small + m.shares.history
        → (is_in_small (eq key) (after_all eq (scan puts) m) ≡ true) ⊎ ((m.shares.small ≤ place + length puts) × (is_remembered (eq key) (after_all eq (scan puts) m) ≡ true))
    kept_after [] place m h full new differ s within fits = inl (found_in_small place m s)
    kept_after (q ∷ puts) place m h full new differ s within fits =
        let n = after eq (Put q.0 q.1) m in
        let tail = tail_of eq laws q.0 m h new.0 q.1 full in
        let some = small_some eq laws q.0 m h new.0 q.1 full in
        let enters = new_enters eq laws q.0 m h new.0 q.1 full in
        let same = put_shares eq laws q.0 q.1 m h in
        let whole = lasting-after eq laws (Put q.0 q.1) m h in
        let long = full_small eq laws m h full in
        elim (cases_lt (suc place) m.shares.small) [
          | inl inside ↦
              elim (kept_after puts (suc place) n whole (full_still eq laws q.0 m h new.0 q.1 full) new.1 differ.1
              (in_small_still (eq key) q.0 tail.0 m n (laws.symm key q.0 ∙ differ.0) tail.1 some same enters place (omega (arith, inside, long)) s)
              (omega (arith, inside, ap (λ t. t.small) same)) (omega (arith, fits, ap (λ t. t.small) same, ap (λ s. s.history) same))) [
                | inl there ↦ inl there
                | inr gone ↦ inr (omega (arith, gone.0, ap (λ t. t.small) same), gone.1)
              ]
          | inr end ↦
              let newest = remembered_as_tail q.0 tail.0 m n tail.1 some enters place (omega (arith, long, end, within)) (omega (arith, fits, end)) s in
              inr (
                omega (arith, end),
                remembered_still eq laws key (scan puts) n (lets_be key puts differ.1) newest.0 (omega (arith, newest.1, evictions-le puts n, fits, end, ap (λ s. s.history) same)),
              )
        ]

  -- each key is in Small if fewer come after it than Small holds, and is remembered otherwise
  pub first_round : (front : List (K × V)) (p : K × V) (back : List (K × V)) (m : Machine K V) → IsWhole eq m → IsFullCache m → AreNew eq (front ++ p ∷ back) m → Differ eq p.0 back
      → length back < m.shares.small + m.shares.history → let later = after_all eq (scan (front ++ p ∷ back)) m in
      (is_in_small (eq p.0) later ≡ true) ⊎ ((m.shares.small ≤ length back) × (is_remembered (eq p.0) later ≡ true))
  first_round [] p back m h full new differ fits =
      let n = after eq (Put p.0 p.1) m in
      let enters = new_enters eq laws p.0 m h new.0 p.1 full in
      let same = put_shares eq laws p.0 p.1 m h in
      elim (kept_after p.0 back 0 n (lasting-after eq laws (Put p.0 p.1) m h) (full_still eq laws p.0 m h new.0 p.1 full) new.1 differ
      (enters_in_front (eq p.0) p.0 (tail_of eq laws p.0 m h new.0 p.1 full).0 m n (laws.refl p.0) enters)
      (omega (arith, full.small_share, ap (λ t. t.small) same)) (omega (arith, fits, ap (λ t. t.small) same, ap (λ s. s.history) same))) [
        | inl there ↦ inl there
        | inr gone ↦ inr (omega (arith, gone.0, ap (λ t. t.small) same), gone.1)
      ]
  first_round (q ∷ front) p back m h full new differ fits =
      let same = put_shares eq laws q.0 q.1 m h in
      elim (first_round front p back (after eq (Put q.0 q.1) m) (lasting-after eq laws (Put q.0 q.1) m h) (full_still eq laws q.0 m h new.0 q.1 full) new.1 differ
      (omega (arith, fits, ap (λ t. t.small) same, ap (λ s. s.history) same))) [
        | inl there ↦ inl there
        | inr gone ↦ inr (omega (arith, gone.0, ap (λ t. t.small) same), gone.1)
      ]

-- Loops that are too long for a full cache: they never hit.
use Rattle.std.proofs.Common.{◌≡◌, ℕ, zero, suc, ◌+◌, ◌-◌, ◌<◌, ◌≤◌, Bool, false, List, [], ◌∷◌, ◌++◌, length, take, None, refl, sym, ap, ◌∙◌, subst, arith, length-append}
use Rattle.std.specs.Cmp.{IsEquivalence}
use Rattle.std.specs.List.{AllByRecursion}
use Rattle.std.proofs.lemmas.List.{append_assoc}
use Rattle.clock2q_machine.specs.Calls.{Value}
use Rattle.clock2q_machine.specs.Machine.{Machine}
use Rattle.clock2q_machine.specs.Steps.{answers, after_all}
use Rattle.clock2q_machine.specs.Whole.{IsWhole, known_count}
use Rattle.clock2q_machine.specs.Scans.{scan, IsFullCache, IsScan, AreNew, set_in_small, left_all, left_main}
use Rattle.clock2q_machine.specs.Loops.{rounds, AreFarApart}
use Rattle.clock2q_machine.proofs.Scanned.{new_left_all, new_left}
use Rattle.clock2q_machine.proofs.FarApart.{Differ, far_apart_new, new_misses}

module _ {X : Type 0} (P : X → Type 0) where
  all_append : (n : ℕ) (xs ys : List X) → AllByRecursion P xs → AllByRecursion P (take (n - length xs) ys) → AllByRecursion P (take n (xs ++ ys))
  all_append n [] ys all rest = let same : n - 0 ≡ n = omega arith in subst (λ k. AllByRecursion P (take k ys)) same rest
  all_append zero (x ∷ xs) ys all rest = tt
  all_append (suc n) (x ∷ xs) ys all rest =
      let same : suc n - suc (length xs) ≡ n - length xs = omega arith in
      (all.0, all_append n xs ys all.1 (subst (λ k. AllByRecursion P (take k ys)) same rest))

  all_first : (n : ℕ) (xs ys : List X) → n ≤ length xs → AllByRecursion P xs → AllByRecursion P (take n (xs ++ ys))
  all_first n xs ys fits all = let none : 0 ≡ n - length xs = omega (arith, fits) in all_append n xs ys all (subst (λ k. AllByRecursion P (take k ys)) none tt)

  all_both : (xs ys : List X) → AllByRecursion P xs → AllByRecursion P ys → AllByRecursion P (xs ++ ys)
  all_both [] ys all rest = rest
  all_both (x ∷ xs) ys all rest = (all.0, all_both xs ys all.1 rest)

  pub all_rounds : (n : ℕ) (xs : List X) → AllByRecursion P xs → AllByRecursion P (rounds n xs)
  all_rounds zero xs all = tt
  all_rounds (suc n) xs all = all_both xs (rounds n xs) all (all_rounds n xs all)

take_none : {X : Type 0} (n : ℕ) → let none : List X = [] in take n none ≡ none
take_none zero = refl
take_none (suc n) = refl

module _ {K V : Type 0} (eq : K → K → Bool) (laws : IsEquivalence eq) (m : Machine K V) where
  scan_unknown : (puts : List (K × V)) → IsScan eq puts m → AllByRecursion (λ p. known_count (eq p.0) m ≡ 0) puts
  scan_unknown [] scans = tt
  scan_unknown (p ∷ puts) scans = (scans.0, scan_unknown puts scans.1.1)

  -- a key of a scan differs from those before it and after it
  scan_apart : (front : List (K × V)) (p : K × V) (back : List (K × V)) → IsScan eq (front ++ p ∷ back) m → Differ eq p.0 front × Differ eq p.0 back
  scan_apart [] p back scans = (tt, scans.1.0)
  scan_apart (q ∷ front) p back scans =
      let rest = scan_apart front p back scans.1.1 in
      ((laws.symm q.0 p.0 ∙ among front scans.1.0, rest.0), rest.1) where
        among : (later : List (K × V)) → Differ eq q.0 (later ++ p ∷ back) → eq p.0 q.0 ≡ false
        among [] differ = differ.0
        among (r ∷ later) differ = among later differ.1

  module _ (n : ℕ) (puts : List (K × V)) (longer : n < length puts) (scans : IsScan eq puts m) where
    -- in the next round the keys before it come first
    in_next : (times : ℕ) (front : List (K × V)) (p : K × V) (back : List (K × V)) → puts ≡ front ++ p ∷ back → Differ eq p.0 front → Differ eq p.0 (take (n - length back) (rounds times puts))
    in_next zero front p back parts differ = subst (Differ eq p.0) (sym (take_none (n - length back))) tt
    in_next (suc times) front p back parts differ =
        let fits : n - length back ≤ length front = omega (arith, longer, ap (length {A = K × V}) parts, length-append front (p ∷ back)) in
        subst (λ l. Differ eq p.0 (take (n - length back) l)) (sym (ap (λ l. l ++ rounds times puts) parts ∙ append_assoc front (p ∷ back) (rounds times puts)))
        (all_first (λ q. eq q.0 p.0 ≡ false) (n - length back) front ((p ∷ back) ++ rounds times puts) fits differ)

    -- from any place of the loop on
    far_from : (times : ℕ) (front back : List (K × V)) → puts ≡ front ++ back → AreFarApart eq n (rounds times puts) → AreFarApart eq n (back ++ rounds times puts)
    far_from times front [] parts far = far
    far_from times front (p ∷ back) parts far =
        let apart = scan_apart front p back (subst (λ l. IsScan eq l m) parts scans) in (
          all_append (λ q. eq q.0 p.0 ≡ false) n back (rounds times puts) apart.1 (in_next times front p back parts apart.0),
          far_from times (front ++ p ∷ []) back (parts ∙ sym (append_assoc front (p ∷ []) back)) far,
        )

    far_rounds : (times : ℕ) → AreFarApart eq n (rounds times puts)
    far_rounds zero = tt
    far_rounds (suc times) = far_from times [] puts refl (far_rounds times)

  module _ (h : IsWhole eq m) (full : IsFullCache m) (puts : List (K × V)) (scans : IsScan eq puts m) (longer : m.shares.small + m.shares.history < length puts) (times : ℕ) where
    abbrev looped : List (K × V)
    looped = rounds times puts

    loop_new : AreNew eq looped m
    loop_new =
        far_apart_new eq laws looped m h full (all_rounds (λ p. known_count (eq p.0) m ≡ 0) times puts (scan_unknown puts scans))
        (far_rounds (m.shares.small + m.shares.history) puts longer scans times)

    -- from a full cache a loop of more unknown keys than Small and the history hold together never hits
    pub loop_never_hits : AllByRecursion (λ answer. answer ≡ Value None) (answers eq (scan looped) m)
    loop_never_hits = new_misses eq looped m loop_new

    -- and evicts no more residents than a scan
    pub loop_left_all : left_all eq m (after_all eq (scan looped) m) ≤ m.shares.small
    loop_left_all = new_left_all eq laws m h looped loop_new full.small_share

    pub loop_left : left_main eq m (after_all eq (scan looped) m) ≤ set_in_small m
    loop_left = new_left eq laws m h looped loop_new full.small_share

-- Entries of Main that are evicted before a key of Main is: those whose bit is clear, if the key's is set or they are ahead
-- of it.
use Rattle.std.proofs.Common.{◌≡◌, ℕ, ◌+◌, ◌<◌, ◌≤◌, Bool, true, false, not, ◌&&◌, List, [], ◌∷◌, ◌++◌, map, length, take, drop, inl, inr, refl, sym, ap, ◌∙◌, subst, arith, take-append-drop}
use Rattle.std.specs.Prelude.{if◌then◌else◌}
use Rattle.std.specs.List.{count_by}
use Rattle.std.proofs.lemmas.Bool.{cases_lt}
use Rattle.std.proofs.lemmas.List.{length-take}
use Rattle.std.proofs.lemmas.List.Sums.{sum_by-cons, sum_by-append, sum_by_push, sum_by-take-drop}
use Rattle.clock2q_machine.specs.Entries.{MainEntry, main_hit, set_front, from_victim, behind_hand, with_bit}
use Rattle.clock2q_machine.proofs.Clock.{bits, bits-passed, victim_clear}
use Rattle.clock2q_machine.proofs.Whole.{one_if}

module _ {K : Type 0} (out : K → Bool) where
  -- the entries whose keys pass a test, with a clear bit and with a set one
  abbrev pub clear_of : List (MainEntry K) → ℕ
  clear_of main = count_by (λ e. out e.key && not e.bit) main

  abbrev pub set_of : List (MainEntry K) → ℕ
  set_of main = count_by (λ e. out e.key && e.bit) main

  clear_cons : (e : MainEntry K) (main : List (MainEntry K)) → clear_of (e ∷ main) ≡ one_if (out e.key && not e.bit) + clear_of main
  clear_cons e main = sum_by-cons (λ (x : MainEntry K). one_if (out x.key && not x.bit)) e main

  pub clear_join : (xs ys : List (MainEntry K)) → clear_of (xs ++ ys) ≡ clear_of xs + clear_of ys
  clear_join xs ys = sum_by-append (λ (x : MainEntry K). one_if (out x.key && not x.bit)) xs ys

  -- of entries that are all set none is clear
  all_set : (es : List (MainEntry K)) → length es ≤ bits es → clear_of es ≡ 0
  all_set [] all = refl
  all_set (e ∷ es) all = omega (arith, clear_cons e es, by_bit e.bit refl, all_set es (omega (arith, all, bits_cons, bits_of e.bit)), bits_cons, all, bits_within es) where
    bits_cons : bits (e ∷ es) ≡ one_if e.bit + bits es
    bits_cons = sum_by-cons (λ (x : MainEntry K). one_if x.bit) e es

    bits_of : (b : Bool) → one_if b ≤ 1
    bits_of true = omega arith
    bits_of false = omega arith

    bits_within : (xs : List (MainEntry K)) → bits xs ≤ length xs
    bits_within [] = omega arith
    bits_within (x ∷ xs) = omega (arith, sum_by-cons (λ (y : MainEntry K). one_if y.bit) x xs, bits_of x.bit, bits_within xs)

    by_bit : (b : Bool) → e.bit ≡ b → one_if (out e.key && not e.bit) ≡ 0
    by_bit true set = ap (λ b. one_if (out e.key && not b)) set ∙ elim (out e.key) as (λ b. one_if (b && not true) ≡ 0) [ true ↦ refl | false ↦ refl ]
    by_bit false clear = absurd (omega (arith, all, bits_cons, ap one_if clear, bits_within es))

  module _ (is : K → Bool) where
    -- those that are evicted before the key that passes the test
    abbrev pub spared : List (MainEntry K) → ℕ
    spared [] = 0
    spared (e ∷ main) = if is e.key then (if e.bit then clear_of main else 0) else one_if (out e.key && not e.bit) + spared main

    abbrev pub there : List (MainEntry K) → ℕ
    there main = count_by (λ e. is e.key) main

    pub there_cons : (e : MainEntry K) (main : List (MainEntry K)) → there (e ∷ main) ≡ one_if (is e.key) + there main
    there_cons e main = sum_by-cons (λ (x : MainEntry K). one_if (is x.key)) e main

    spared_other : (e : MainEntry K) (main : List (MainEntry K)) → is e.key ≡ false → spared (e ∷ main) ≡ one_if (out e.key && not e.bit) + spared main
    spared_other e main other = ap (λ b. if b then (if e.bit then clear_of main else 0) else one_if (out e.key && not e.bit) + spared main) other

    spared_own : (e : MainEntry K) (main : List (MainEntry K)) → is e.key ≡ true → e.bit ≡ false → spared (e ∷ main) ≡ 0
    spared_own e main own clear =
        ap (λ b. if b then (if e.bit then clear_of main else 0) else one_if (out e.key && not e.bit) + spared main) own ∙ ap (λ b. if b then clear_of main else 0) clear

    spared_set : (e : MainEntry K) (main : List (MainEntry K)) → is e.key ≡ true → e.bit ≡ true → spared (e ∷ main) ≡ clear_of main
    spared_set e main own set =
        ap (λ b. if b then (if e.bit then clear_of main else 0) else one_if (out e.key && not e.bit) + spared main) own ∙ ap (λ b. if b then clear_of main else 0) set

    pub spared_within : (main : List (MainEntry K)) → spared main ≤ clear_of main
    spared_within [] = omega arith
    spared_within (e ∷ main) =
        elim (is e.key) as (λ b. (if b then (if e.bit then clear_of main else 0) else one_if (out e.key && not e.bit) + spared main) ≤ clear_of (e ∷ main)) [
          | true ↦ elim e.bit as (λ b. (if b then clear_of main else 0) ≤ clear_of (e ∷ main)) [ true ↦ omega (arith, clear_cons e main) | false ↦ omega arith ]
          | false ↦ omega (arith, clear_cons e main, spared_within main)
        ]

    -- entries ahead of the key, and behind it
    pub spared_before : (xs ys : List (MainEntry K)) → there xs ≡ 0 → spared (xs ++ ys) ≡ clear_of xs + spared ys
    spared_before [] ys none = omega arith
    spared_before (e ∷ xs) ys none =
        (elim (is e.key) as (λ b. is e.key ≡ b → spared (e ∷ (xs ++ ys)) ≡ clear_of (e ∷ xs) + spared ys) [
          | true ↦ λ own. absurd (omega (arith, none, there_cons e xs, ap one_if own))
          | false ↦ λ other. omega (arith, spared_other e (xs ++ ys) other, clear_cons e xs, spared_before xs ys (omega (arith, none, there_cons e xs)))
        ]) refl

    pub spared_behind : (xs ys : List (MainEntry K)) → 0 < there xs → spared xs ≤ spared (xs ++ ys)
    spared_behind [] ys some = absurd (omega (arith, some))
    spared_behind (e ∷ xs) ys some =
        (elim (is e.key) as (λ b. is e.key ≡ b → spared (e ∷ xs) ≤ spared (e ∷ (xs ++ ys))) [
          | true ↦ λ own. (elim e.bit as (λ b. e.bit ≡ b → spared (e ∷ xs) ≤ spared (e ∷ (xs ++ ys))) [
            | true ↦ λ set. omega (arith, spared_set e xs own set, spared_set e (xs ++ ys) own set, clear_join xs ys)
            | false ↦ λ clear. omega (arith, spared_own e xs own clear)
          ]) refl
          | false ↦ λ other. omega (arith, spared_other e xs other, spared_other e (xs ++ ys) other, spared_behind xs ys (omega (arith, some, there_cons e xs, ap one_if other)))
        ]) refl

    -- the victim isn't the key while there is such an entry, and is at most one of them
    pub record IsSpared (main others : List (MainEntry K)) (victim : MainEntry K) : Type 0 where
      pub own : is victim.key ≡ true → spared main ≡ 0
      pub other : is victim.key ≡ false → 0 < there main → spared main ≤ spared others + one_if (out victim.key)

    parted : (front back : List (MainEntry K)) (victim : MainEntry K) (others : List (MainEntry K)) → clear_of front ≡ 0 → there (front ++ back) ≤ 1
        → back ++ map (λ e. with_bit e false) front ≡ victim ∷ others → victim.bit ≡ false → IsSpared (front ++ back) others victim
    parted front [] victim others none once choice unset =
        let zero_of : spared (front ++ []) ≡ 0 = omega (arith, spared_within (front ++ []), clear_join front [], none) in
        record { own = λ _. zero_of; other = λ _ _. omega (arith, zero_of) }
    parted front (b ∷ back) victim others none once choice unset =
        let first : b ≡ victim = cc in
        let rest : back ++ map (λ e. with_bit e false) front ≡ others = cc in
        let clear : b.bit ≡ false = ap (λ (e : MainEntry K). e.bit) first ∙ unset in
        let same : b.key ≡ victim.key = ap (λ (e : MainEntry K). e.key) first in
        let counted = sum_by-append (λ (x : MainEntry K). one_if (is x.key)) front (b ∷ back) in
        let cleared : List (MainEntry K) = map (λ e. with_bit e false) front in
        record {
          own = λ own.
              let mine : is b.key ≡ true = ap is same ∙ own in
              omega (
                arith,
                spared_before front (b ∷ back) (omega (arith, once, counted, there_cons b back, ap one_if mine)),
                none,
                spared_own b back mine clear,
              );
          other = λ other some.
              let others_key : is b.key ≡ false = ap is same ∙ other in
              let fewer_of : one_if (out b.key && not b.bit) ≤ one_if (out victim.key) = subst (λ k. one_if (out b.key && not b.bit) ≤ one_if (out k)) same (first_of (out b.key) (not b.bit)) in
              elim (cases_lt 0 (there front)) [
                | inl within ↦
                    omega (
                      arith,
                      spared_within (front ++ b ∷ back),
                      clear_join front (b ∷ back),
                      none,
                      clear_cons b back,
                      fewer_of,
                      spared_before back cleared (omega (arith, once, counted, there_cons b back, within)),
                      ap spared rest,
                    )
                | inr past ↦
                    omega (
                      arith,
                      spared_before front (b ∷ back) (omega (arith, past)),
                      none,
                      spared_other b back others_key,
                      fewer_of,
                      spared_behind back cleared (omega (arith, some, counted, past, there_cons b back, ap one_if others_key)),
                      ap spared rest,
                    )
              ];
        } where
          first_of : (a c : Bool) → one_if (a && c) ≤ one_if a
          first_of true true = omega arith
          first_of true false = omega arith
          first_of false c = omega arith

    pub spared_victim : (main others : List (MainEntry K)) (victim : MainEntry K) → from_victim main ≡ victim ∷ others → there main ≤ 1 → IsSpared main others victim
    spared_victim main others victim choice once =
        let n = set_front main in
        let parts : take n main ++ drop n main ≡ main = take-append-drop n main in
        subst (λ l. IsSpared l others victim) parts
        (parted (take n main) (drop n main) victim others
        (all_set (take n main) (omega (arith, bits-passed main, length-take n main)))
        (subst (λ l. there l ≤ 1) (sym parts) once) choice (victim_clear main victim others choice))

    -- an entry that passes neither test counts for nothing
    skips : (e : MainEntry K) (main : List (MainEntry K)) → out e.key ≡ false → is e.key ≡ false → (spared (e ∷ main) ≡ spared main) × (clear_of (e ∷ main) ≡ clear_of main)
    skips e main inside other =
        let none : one_if (out e.key && not e.bit) ≡ 0 = ap (λ b. one_if (b && not e.bit)) inside in
        (omega (arith, spared_other e main other, none), omega (arith, clear_cons e main, none))

    -- a hit on such a key changes neither number
    pub spared_hit : (test : K → Bool) → ((k : K) → test k ≡ true → (out k ≡ false) × (is k ≡ false)) → (main : List (MainEntry K))
        → (spared (main_hit test main) ≡ spared main) × (clear_of (main_hit test main) ≡ clear_of main)
    spared_hit test apart [] = (refl, refl)
    spared_hit test apart (e ∷ main) =
        let later = spared_hit test apart main in
        (elim (test e.key)
        as (λ b. test e.key ≡ b → (spared ((if b then with_bit e true else e) ∷ main_hit test main) ≡ spared (e ∷ main)) × (clear_of ((if b then with_bit e true else e) ∷ main_hit test main) ≡ clear_of (e ∷ main))) [
          | true ↦ λ passes.
              let keys = apart e.key passes in
              let skipped = skips (with_bit e true) (main_hit test main) keys.0 keys.1 in
              let before = skips e main keys.0 keys.1 in
              (skipped.0 ∙ later.0 ∙ sym before.0, skipped.1 ∙ later.1 ∙ sym before.1)
          | false ↦ λ _. (
            elim (is e.key)
                as (λ b. (if b then (if e.bit then clear_of (main_hit test main) else 0) else one_if (out e.key && not e.bit) + spared (main_hit test main))
                ≡ (if b then (if e.bit then clear_of main else 0) else one_if (out e.key && not e.bit) + spared main)) [
                  | true ↦ ap (λ n. if e.bit then n else 0) later.1
                  | false ↦ ap (λ n. one_if (out e.key && not e.bit) + n) later.0
                ],
            omega (arith, clear_cons e (main_hit test main), clear_cons e main, later.1),
          )
        ]) refl

    -- a hit on the key itself: all of them are evicted before it
    pub hit_spares : ((k : K) → is k ≡ true → out k ≡ false) → (main : List (MainEntry K)) → 0 < there main → clear_of (main_hit is main) ≤ spared (main_hit is main)
    hit_spares inside [] some = absurd (omega (arith, some))
    hit_spares inside (e ∷ main) some =
        (elim (is e.key) as (λ b. is e.key ≡ b → clear_of ((if b then with_bit e true else e) ∷ main_hit is main) ≤ spared ((if b then with_bit e true else e) ∷ main_hit is main)) [
          | true ↦ λ own.
              omega (
                arith,
                clear_cons (with_bit e true) (main_hit is main),
                ap (λ b. one_if (b && not true)) (inside e.key own),
                spared_set (with_bit e true) (main_hit is main) own refl,
              )
          | false ↦ λ other.
              omega (
                arith,
                clear_cons e (main_hit is main),
                spared_other e (main_hit is main) other,
                hit_spares inside main (omega (arith, some, there_cons e main, ap one_if other)),
              )
        ]) refl

    -- and so they are if it is new in Main
    pub new_spares : (key : K) (slot : ℕ) (others : List (MainEntry K)) → is key ≡ true → out key ≡ false → there others ≡ 0
        → clear_of (behind_hand key slot others) ≤ spared (behind_hand key slot others)
    new_spares key slot others own inside none =
        let e : MainEntry K = record { key = key; slot = slot; bit = false } in
        omega (arith, spared_before others (e ∷ []) none, clear_join others (e ∷ []), clear_cons e [], ap (λ b. one_if (b && not false)) inside)

  -- The entries with a set bit.

  pub set_cons : (e : MainEntry K) (main : List (MainEntry K)) → set_of (e ∷ main) ≡ one_if (out e.key && e.bit) + set_of main
  set_cons e main = sum_by-cons (λ (x : MainEntry K). one_if (out x.key && x.bit)) e main

  pub none_set : (b : Bool) → one_if (b && false) ≡ 0
  none_set true = refl
  none_set false = refl

  pub set_cleared : (es : List (MainEntry K)) → set_of (map (λ e. with_bit e false) es) ≡ 0
  set_cleared [] = refl
  set_cleared (e ∷ es) = omega (arith, set_cons (with_bit e false) (map (λ x. with_bit x false) es), none_set (out e.key), set_cleared es)

  pub set_victim : (main others : List (MainEntry K)) (victim : MainEntry K) → from_victim main ≡ victim ∷ others → set_of others ≤ set_of main
  set_victim main others victim choice =
      omega (
        arith,
        ap set_of choice,
        set_cons victim others,
        sum_by-append (λ (x : MainEntry K). one_if (out x.key && x.bit)) (drop (set_front main) main) (map (λ e. with_bit e false) (take (set_front main) main)),
        set_cleared (take (set_front main) main),
        sum_by-take-drop (λ (x : MainEntry K). one_if (out x.key && x.bit)) main (set_front main),
      )

  pub set_behind : (key : K) (slot : ℕ) (main : List (MainEntry K)) → set_of (behind_hand key slot main) ≡ set_of main
  set_behind key slot main = omega (arith, sum_by_push (λ (x : MainEntry K). one_if (out x.key && x.bit)) main (record { key = key; slot = slot; bit = false }), none_set (out key))

  pub set_hit : (test : K → Bool) → ((k : K) → test k ≡ true → out k ≡ false) → (main : List (MainEntry K)) → set_of (main_hit test main) ≡ set_of main
  set_hit test inside [] = refl
  set_hit test inside (e ∷ main) =
      (elim (test e.key) as (λ b. test e.key ≡ b → set_of ((if b then with_bit e true else e) ∷ main_hit test main) ≡ set_of (e ∷ main)) [
        | true ↦ λ own.
            omega (
              arith,
              set_cons (with_bit e true) (main_hit test main),
              set_cons e main,
              ap (λ b. one_if (b && true)) (inside e.key own),
              ap (λ b. one_if (b && e.bit)) (inside e.key own),
              set_hit test inside main,
            )
        | false ↦ λ _. omega (arith, set_cons e (main_hit test main), set_cons e main, set_hit test inside main)
      ]) refl

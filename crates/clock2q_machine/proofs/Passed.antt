-- Entries of Main with a set bit that the hand passes before it evicts a key: all, if the key's bit is set or it is behind
-- them.
use Rattle.std.proofs.Common.{◌≡◌, ℕ, ◌+◌, ◌<◌, ◌≤◌, Bool, true, false, ◌&&◌, List, [], ◌∷◌, ◌++◌, map, take, drop, inl, inr, refl, sym, ap, ◌∙◌, subst, arith, take-append-drop}
use Rattle.std.specs.Prelude.{if◌then◌else◌}
use Rattle.std.proofs.lemmas.Bool.{cases_lt}
use Rattle.std.proofs.lemmas.List.Sums.{sum_by-append}
use Rattle.clock2q_machine.specs.Entries.{MainEntry, main_hit, set_front, from_victim, behind_hand, with_bit}
use Rattle.clock2q_machine.proofs.Clock.{victim_clear}
use Rattle.clock2q_machine.proofs.Whole.{one_if}
use Rattle.clock2q_machine.proofs.Spared.{set_of, set_cons, set_cleared, set_hit, there, there_cons}

module _ {K : Type 0} (out is : K → Bool) where
  -- those that it doesn't
  abbrev pub unpassed : List (MainEntry K) → ℕ
  unpassed [] = 0
  unpassed (e ∷ main) = if is e.key then (if e.bit then 0 else set_of out main) else unpassed main

  set_join : (xs ys : List (MainEntry K)) → set_of out (xs ++ ys) ≡ set_of out xs + set_of out ys
  set_join xs ys = sum_by-append (λ (x : MainEntry K). one_if (out x.key && x.bit)) xs ys

  unpassed_other : (e : MainEntry K) (main : List (MainEntry K)) → is e.key ≡ false → unpassed (e ∷ main) ≡ unpassed main
  unpassed_other e main other = ap (λ b. if b then (if e.bit then 0 else set_of out main) else unpassed main) other

  unpassed_own : (e : MainEntry K) (main : List (MainEntry K)) → is e.key ≡ true → e.bit ≡ false → unpassed (e ∷ main) ≡ set_of out main
  unpassed_own e main own clear =
      ap (λ b. if b then (if e.bit then 0 else set_of out main) else unpassed main) own ∙ ap (λ b. if b then 0 else set_of out main) clear

  unpassed_set : (e : MainEntry K) (main : List (MainEntry K)) → is e.key ≡ true → e.bit ≡ true → unpassed (e ∷ main) ≡ 0
  unpassed_set e main own set =
      ap (λ b. if b then (if e.bit then 0 else set_of out main) else unpassed main) own ∙ ap (λ b. if b then 0 else set_of out main) set

  unpassed_within : (main : List (MainEntry K)) → unpassed main ≤ set_of out main
  unpassed_within [] = omega arith
  unpassed_within (e ∷ main) =
      elim (is e.key) as (λ b. (if b then (if e.bit then 0 else set_of out main) else unpassed main) ≤ set_of out (e ∷ main)) [
        | true ↦ elim e.bit as (λ b. (if b then 0 else set_of out main) ≤ set_of out (e ∷ main)) [ true ↦ omega arith | false ↦ omega (arith, set_cons out e main) ]
        | false ↦ omega (arith, set_cons out e main, unpassed_within main)
      ]

  unpassed_before : (xs ys : List (MainEntry K)) → there out is xs ≡ 0 → unpassed (xs ++ ys) ≡ unpassed ys
  unpassed_before [] ys none = refl
  unpassed_before (e ∷ xs) ys none =
      (elim (is e.key) as (λ b. is e.key ≡ b → unpassed (e ∷ (xs ++ ys)) ≡ unpassed ys) [
        | true ↦ λ own. absurd (omega (arith, none, there_cons out is e xs, ap one_if own))
        | false ↦ λ other. unpassed_other e (xs ++ ys) other ∙ unpassed_before xs ys (omega (arith, none, there_cons out is e xs))
      ]) refl

  unpassed_behind : (xs ys : List (MainEntry K)) → 0 < there out is xs → unpassed (xs ++ ys) ≤ unpassed xs + set_of out ys
  unpassed_behind [] ys some = absurd (omega (arith, some))
  unpassed_behind (e ∷ xs) ys some =
      (elim (is e.key) as (λ b. is e.key ≡ b → unpassed (e ∷ (xs ++ ys)) ≤ unpassed (e ∷ xs) + set_of out ys) [
        | true ↦ λ own. (elim e.bit as (λ b. e.bit ≡ b → unpassed (e ∷ (xs ++ ys)) ≤ unpassed (e ∷ xs) + set_of out ys) [
          | true ↦ λ set. omega (arith, unpassed_set e (xs ++ ys) own set)
          | false ↦ λ clear. omega (arith, unpassed_own e (xs ++ ys) own clear, unpassed_own e xs own clear, set_join xs ys)
        ]) refl
        | false ↦ λ other.
            omega (arith, unpassed_other e (xs ++ ys) other, unpassed_other e xs other, unpassed_behind xs ys (omega (arith, some, there_cons out is e xs, ap one_if other)))
      ]) refl

  -- when the key is the victim no such bit is left
  pub record IsPassed (main others : List (MainEntry K)) (victim : MainEntry K) : Type 0 where
    pub own : is victim.key ≡ true → unpassed main ≡ 0 → set_of out others ≡ 0
    pub other : is victim.key ≡ false → 0 < there out is main → unpassed main ≡ 0 → unpassed others ≡ 0

  parted : (front back : List (MainEntry K)) (victim : MainEntry K) (others : List (MainEntry K)) → there out is (front ++ back) ≤ 1
      → back ++ map (λ e. with_bit e false) front ≡ victim ∷ others → victim.bit ≡ false → IsPassed (front ++ back) others victim
  parted front [] victim others once choice unset =
      let none : set_of out others ≡ 0 = omega (arith, set_cleared out front, ap (set_of out) choice, set_cons out victim others) in
      record { own = λ _ _. none; other = λ _ _ _. omega (arith, unpassed_within others, none) }
  parted front (b ∷ back) victim others once choice unset =
      let first : b ≡ victim = cc in
      let rest : back ++ map (λ e. with_bit e false) front ≡ others = cc in
      let clear : b.bit ≡ false = ap (λ (e : MainEntry K). e.bit) first ∙ unset in
      let same : b.key ≡ victim.key = ap (λ (e : MainEntry K). e.key) first in
      let counted = sum_by-append (λ (x : MainEntry K). one_if (is x.key)) front (b ∷ back) in
      let cleared : List (MainEntry K) = map (λ e. with_bit e false) front in
      record {
        own = λ own none.
            let mine : is b.key ≡ true = ap is same ∙ own in
            omega (
              arith,
              none,
              unpassed_before front (b ∷ back) (omega (arith, once, counted, there_cons out is b back, ap one_if mine)),
              unpassed_own b back mine clear,
              ap (set_of out) rest,
              set_join back cleared,
              set_cleared out front,
            );
        other = λ other some none.
            let others_key : is b.key ≡ false = ap is same ∙ other in
            elim (cases_lt 0 (there out is front)) [
              | inl within ↦
                  omega (
                    arith,
                    ap unpassed rest,
                    unpassed_before back cleared (omega (arith, once, counted, there_cons out is b back, within)),
                    unpassed_within cleared,
                    set_cleared out front,
                  )
              | inr past ↦
                  omega (
                    arith,
                    none,
                    ap unpassed rest,
                    unpassed_before front (b ∷ back) (omega (arith, past)),
                    unpassed_other b back others_key,
                    unpassed_behind back cleared (omega (arith, some, counted, past, there_cons out is b back, ap one_if others_key)),
                    set_cleared out front,
                  )
            ];
      }

  pub passed_victim : (main others : List (MainEntry K)) (victim : MainEntry K) → from_victim main ≡ victim ∷ others → there out is main ≤ 1 → IsPassed main others victim
  passed_victim main others victim choice once =
      let n = set_front main in
      let parts : take n main ++ drop n main ≡ main = take-append-drop n main in
      subst (λ l. IsPassed l others victim) parts
      (parted (take n main) (drop n main) victim others (subst (λ l. there out is l ≤ 1) (sym parts) once) choice (victim_clear main victim others choice))

  -- a hit on another key, or on the key itself
  pub passed_hit : (test : K → Bool) → ((k : K) → test k ≡ true → (out k ≡ false) × (is k ≡ false)) → (main : List (MainEntry K)) → unpassed (main_hit test main) ≡ unpassed main
  passed_hit test apart [] = refl
  passed_hit test apart (e ∷ main) =
      (elim (test e.key) as (λ b. test e.key ≡ b → unpassed ((if b then with_bit e true else e) ∷ main_hit test main) ≡ unpassed (e ∷ main)) [
        | true ↦ λ passes.
            let keys = apart e.key passes in
            unpassed_other (with_bit e true) (main_hit test main) keys.1 ∙ passed_hit test apart main ∙ sym (unpassed_other e main keys.1)
        | false ↦ λ _.
            elim (is e.key)
            as (λ b. (if b then (if e.bit then 0 else set_of out (main_hit test main)) else unpassed (main_hit test main)) ≡ (if b then (if e.bit then 0 else set_of out main) else unpassed main)) [
              | true ↦ ap (λ n. if e.bit then 0 else n) (set_hit out test (λ k same. (apart k same).0) main)
              | false ↦ passed_hit test apart main
            ]
      ]) refl

  pub hit_passes : (main : List (MainEntry K)) → unpassed (main_hit is main) ≡ 0
  hit_passes [] = refl
  hit_passes (e ∷ main) =
      (elim (is e.key) as (λ b. is e.key ≡ b → unpassed ((if b then with_bit e true else e) ∷ main_hit is main) ≡ 0) [
        | true ↦ λ own. unpassed_set (with_bit e true) (main_hit is main) own refl
        | false ↦ λ other. unpassed_other e (main_hit is main) other ∙ hit_passes main
      ]) refl

  -- a new entry, of another key or of the key itself
  pub passed_behind : (key : K) (slot : ℕ) (main : List (MainEntry K)) → 0 < there out is main → unpassed main ≡ 0 → unpassed (behind_hand key slot main) ≡ 0
  passed_behind key slot main some none =
      let e : MainEntry K = record { key = key; slot = slot; bit = false } in
      omega (arith, none, unpassed_behind main (e ∷ []) some, set_cleared out (e ∷ []))

  pub new_passes : (key : K) (slot : ℕ) (others : List (MainEntry K)) → is key ≡ true → there out is others ≡ 0 → unpassed (behind_hand key slot others) ≡ 0
  new_passes key slot others own none =
      let e : MainEntry K = record { key = key; slot = slot; bit = false } in
      unpassed_before others (e ∷ []) none ∙ unpassed_own e [] own refl

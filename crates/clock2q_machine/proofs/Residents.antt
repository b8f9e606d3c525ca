-- Where a resident key is found, and that its slot has been made.
use Rattle.std.proofs.Common.{◌≡◌, ℕ, Bool, true, false, cond, List, [], ◌∷◌, ◌++◌, map, refl, sym, ◌∙◌, ap}
use Rattle.std.specs.Prelude.{Option, Some, None, IfSome, if◌then◌else◌}
use Rattle.std.specs.List.{find, AllByRecursion}
use Rattle.std.specs.Option.{option_map, option_or}
use Rattle.clock2q_machine.specs.Ages.{touched}
use Rattle.clock2q_machine.specs.Entries.{SmallEntry, MainEntry, small_hit, main_hit, with_age, with_bit}
use Rattle.clock2q_machine.specs.Machine.{Machine, slot_of, hit}

module _ {K : Type 0} (is : K → Bool) where
  -- the slot of the key's entry in Small, and in Main
  abbrev pub slot_in_small : List (SmallEntry K) → Option ℕ
  slot_in_small small = option_map (λ e. e.slot) (find (λ e. is e.key) small)

  abbrev pub slot_in_main : List (MainEntry K) → Option ℕ
  slot_in_main main = option_map (λ e. e.slot) (find (λ e. is e.key) main)

  abbrev in_main : List (MainEntry K) → List (K × ℕ)
  in_main main = map (λ e. (e.key, e.slot)) main

  slot_among_main : (main : List (MainEntry K)) → option_map (λ r. r.1) (find (λ r. is r.0) (in_main main)) ≡ slot_in_main main
  slot_among_main [] = refl
  slot_among_main (e ∷ main) =
      elim (is e.key) as (λ b. option_map (λ r. r.1) (cond b (Some (e.key, e.slot)) (find (λ r. is r.0) (in_main main))) ≡ option_map (λ x. x.slot) (cond b (Some e) (find (λ x. is x.key) main)))
      [ true ↦ refl | false ↦ slot_among_main main ]

  -- Small is searched first, and then Main
  pub slot_among : (small : List (SmallEntry K)) (main : List (MainEntry K))
      → option_map (λ r. r.1) (find (λ r. is r.0) (map (λ e. (e.key, e.slot)) small ++ in_main main)) ≡ option_or (slot_in_small small) (slot_in_main main)
  slot_among [] main = slot_among_main main
  slot_among (e ∷ small) main =
      elim (is e.key) as (λ b. option_map (λ r. r.1) (cond b (Some (e.key, e.slot)) (find (λ r. is r.0) (map (λ x. (x.key, x.slot)) small ++ in_main main)))
      ≡ option_or (option_map (λ x. x.slot) (cond b (Some e) (find (λ x. is x.key) small))) (slot_in_main main))
      [ true ↦ refl | false ↦ slot_among small main ]

  -- a slot that is found is that of an entry, for which this holds
  found_in_main : (P : ℕ → Type 0) (main : List (MainEntry K)) → AllByRecursion (λ e. P e.slot) main → IfSome (slot_in_main main) P
  found_in_main P [] all = tt
  found_in_main P (e ∷ main) all =
      elim (is e.key) as (λ b. IfSome (option_map (λ x. x.slot) (cond b (Some e) (find (λ x. is x.key) main))) P)
      [ true ↦ all.0 | false ↦ found_in_main P main all.1 ]

  found_in_both : (P : ℕ → Type 0) (small : List (SmallEntry K)) (main : List (MainEntry K)) → AllByRecursion (λ e. P e.slot) small → AllByRecursion (λ e. P e.slot) main
      → IfSome (option_or (slot_in_small small) (slot_in_main main)) P
  found_in_both P [] main in_small in_main = found_in_main P main in_main
  found_in_both P (e ∷ small) main in_small in_main =
      elim (is e.key) as (λ b. IfSome (option_or (option_map (λ x. x.slot) (cond b (Some e) (find (λ x. is x.key) small))) (slot_in_main main)) P)
      [ true ↦ in_small.0 | false ↦ found_in_both P small main in_small.1 in_main ]

  -- the same as a search of a cache's two queues finds it
  module _ (small : List (SmallEntry K)) (main : List (MainEntry K)) where
    abbrev pub slot_in_both : Option ℕ
    slot_in_both = option_map (λ r. r.1) (find (λ r. is r.0) (map (λ e. (e.key, e.slot)) small ++ in_main main))

    pub in_small_first : (slot : ℕ) → Some slot ≡ slot_in_small small → Some slot ≡ slot_in_both
    in_small_first slot e = rw slot_among (rw (← e))

    pub then_in_main : (slot : Option ℕ) → None ≡ slot_in_small small → slot ≡ slot_in_main main → slot ≡ slot_in_both
    then_in_main slot none e = rw slot_among (rw (← none) e)

    pub found_slot : (P : ℕ → Type 0) (slot : Option ℕ) → AllByRecursion (λ e. P e.slot) small → AllByRecursion (λ e. P e.slot) main → slot ≡ slot_in_both → IfSome slot P
    found_slot P slot in_small in_main e = rw (e, slot_among) (found_in_both P small main in_small in_main)

  -- a hit on a key that is not resident changes nothing
  absent_in_main : (main : List (MainEntry K)) → slot_in_main main ≡ None → main_hit is main ≡ main
  absent_in_main [] absent = refl
  absent_in_main (e ∷ main) absent =
      (elim (is e.key) as (λ b. option_map (λ x. x.slot) (cond b (Some e) (find (λ x. is x.key) main)) ≡ None → (if b then with_bit e true else e) ∷ main_hit is main ≡ e ∷ main)
      [ true ↦ λ some. cc | false ↦ λ none. ap (λ xs. e ∷ xs) (absent_in_main main none) ]) absent

  absent_in_small : (small : List (SmallEntry K)) → slot_in_small small ≡ None → small_hit is small ≡ small
  absent_in_small [] absent = refl
  absent_in_small (e ∷ small) absent =
      (elim (is e.key) as (λ b. option_map (λ x. x.slot) (cond b (Some e) (find (λ x. is x.key) small)) ≡ None → (if b then with_age e (touched e.age) else e) ∷ small_hit is small ≡ e ∷ small)
      [ true ↦ λ some. cc | false ↦ λ none. ap (λ xs. e ∷ xs) (absent_in_small small none) ]) absent

pub neither : (o p : Option ℕ) → option_or o p ≡ None → (o ≡ None) × (p ≡ None)
neither None p e = (refl, e)
neither (Some x) p e = cc

pub hit-absent : {K V : Type 0} (is : K → Bool) (m : Machine K V) → slot_of is m ≡ None → hit is m ≡ m
hit-absent is m absent =
    let none = neither (slot_in_small is m.small) (slot_in_main is m.main) (sym (slot_among is m.small m.main) ∙ absent) in
    let small = absent_in_small is m.small none.0 in
    let main = absent_in_main is m.main none.1 in
    rw (small, main)

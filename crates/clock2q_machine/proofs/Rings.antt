-- Main as the ring of CLOCK, and its slots as frames: the hand stops at the same key either way.
use Rattle.std.proofs.Common.{◌≡◌, ℕ, zero, suc, ◌+◌, ◌==◌, Bool, true, false, ◌||◌, cond, List, [], ◌∷◌, ◌++◌, map, length, take, drop, Some, refl, sym, ap, ◌∙◌, arith}
use Rattle.std.specs.Prelude.{if◌then◌else◌, is_some}
use Rattle.std.specs.List.{find}
use Rattle.std.specs.Option.{option_map}
use Rattle.std.proofs.lemmas.List.{map-append, append_assoc}
use Rattle.clock2q_machine.specs.Entries.{MainEntry, main_hit, first_of, from_victim, set_front, with_bit}
use Rattle.clock2q_machine.specs.SecondChance.{Ring, is_on, marked, moved_on, first_key, passed, rotated}
use Rattle.clock2q_machine.proofs.Residents.{slot_in_main}

abbrev pub entry_of : MainEntry ℕ → ℕ × Bool
entry_of e = (e.key, e.bit)

abbrev pub ring_of : List (MainEntry ℕ) → Ring
ring_of main = map entry_of main

abbrev pub frames_of : List (MainEntry ℕ) → List ℕ
frames_of main = map (λ e. e.slot) main

-- the hand, one marked key after another: the longest marked front moves behind the rest, without its marks
abbrev unmarked : Ring → Ring
unmarked ring = map {B = ℕ × Bool} (λ e. (e.0, false)) ring

append_none : (xs : Ring) → xs ≡ xs ++ []
append_none [] = refl
append_none (x ∷ xs) = ap (λ rest. x ∷ rest) (append_none xs)

moved_round : (ring back : Ring) → moved_on (length ring) (ring ++ back) ≡ drop (passed ring) ring ++ (back ++ unmarked (take (passed ring) ring))
moved_round [] back = append_none back
moved_round (e ∷ ring) back =
    elim e.1 as (λ b. (if b then moved_on (length ring) ((ring ++ back) ++ (e.0, false) ∷ []) else e ∷ (ring ++ back))
    ≡ drop (cond b (1 + passed ring) 0) (e ∷ ring) ++ (back ++ unmarked (take (cond b (1 + passed ring) 0) (e ∷ ring)))) [
      | true ↦
          let n : 1 + passed ring ≡ suc (passed ring) = omega arith in
          rw n (ap (moved_on (length ring)) (append_assoc ring back ((e.0, false) ∷ [])) ∙ moved_round ring (back ++ (e.0, false) ∷ [])
          ∙ ap (λ xs. drop (passed ring) ring ++ xs) (append_assoc back ((e.0, false) ∷ []) (unmarked (take (passed ring) ring))))
      | false ↦ ap (λ xs. e ∷ (ring ++ xs)) (append_none back)
    ]

front_alike : (main : List (MainEntry ℕ)) → passed (ring_of main) ≡ set_front main
front_alike [] = refl
front_alike (e ∷ main) = ap (λ n. cond e.bit (1 + n) 0) (front_alike main)

drop_alike : (n : ℕ) (main : List (MainEntry ℕ)) → drop n (ring_of main) ≡ ring_of (drop n main)
drop_alike zero main = refl
drop_alike (suc n) [] = refl
drop_alike (suc n) (e ∷ main) = drop_alike n main

take_alike : (n : ℕ) (main : List (MainEntry ℕ)) → unmarked (take n (ring_of main)) ≡ ring_of (map (λ e. with_bit e false) (take n main))
take_alike zero main = refl
take_alike (suc n) [] = refl
take_alike (suc n) (e ∷ main) = ap (λ rest. (e.key, false) ∷ rest) (take_alike n main)

-- the victim is first either way
pub victim_alike : (main : List (MainEntry ℕ)) → moved_on (length (ring_of main)) (ring_of main) ≡ ring_of (from_victim main)
victim_alike main =
    let n = set_front main in
    ap (moved_on (length (ring_of main))) (append_none (ring_of main))
    ∙ moved_round (ring_of main) []
    ∙ ap (λ k. drop k (ring_of main) ++ unmarked (take k (ring_of main))) (front_alike main)
    ∙ ap (λ xs. xs ++ unmarked (take n (ring_of main))) (drop_alike n main)
    ∙ ap (λ xs. ring_of (drop n main) ++ xs) (take_alike n main)
    ∙ sym (map-append entry_of (drop n main) (map (λ e. with_bit e false) (take n main)))

-- and so is its slot
drop_frames : (n : ℕ) (main : List (MainEntry ℕ)) → frames_of (drop n main) ≡ drop n (frames_of main)
drop_frames zero main = refl
drop_frames (suc n) [] = refl
drop_frames (suc n) (e ∷ main) = drop_frames n main

take_frames : (n : ℕ) (main : List (MainEntry ℕ)) → frames_of (map (λ e. with_bit e false) (take n main)) ≡ take n (frames_of main)
take_frames zero main = refl
take_frames (suc n) [] = refl
take_frames (suc n) (e ∷ main) = ap (λ rest. e.slot ∷ rest) (take_frames n main)

pub frames_rotated : (main : List (MainEntry ℕ)) → frames_of (from_victim main) ≡ rotated (passed (ring_of main)) (frames_of main)
frames_rotated main =
    let n = set_front main in
    map-append (λ (e : MainEntry ℕ). e.slot) (drop n main) (map (λ e. with_bit e false) (take n main))
    ∙ ap (λ xs. xs ++ frames_of (map (λ e. with_bit e false) (take n main))) (drop_frames n main)
    ∙ ap (λ xs. drop n (frames_of main) ++ xs) (take_frames n main)
    ∙ ap (λ k. rotated k (frames_of main)) (sym (front_alike main))

pub frames_hit : (is : ℕ → Bool) (main : List (MainEntry ℕ)) → frames_of (main_hit is main) ≡ frames_of main
frames_hit is [] = refl
frames_hit is (e ∷ main) =
    elim (is e.key) as (λ b. (if b then with_bit e true else e).slot ∷ frames_of (main_hit is main) ≡ e.slot ∷ frames_of main)
    [ true ↦ ap (λ rest. e.slot ∷ rest) (frames_hit is main) | false ↦ ap (λ rest. e.slot ∷ rest) (frames_hit is main) ]

pub first_alike : (main : List (MainEntry ℕ)) → option_map (λ r. r.0) (first_of main) ≡ first_key (ring_of main)
first_alike [] = refl
first_alike (e ∷ main) = refl

-- a hit, and whether a key is there
pub marked_alike : (key : ℕ) (main : List (MainEntry ℕ)) → ring_of (main_hit (λ held. key == held) main) ≡ marked key (ring_of main)
marked_alike key [] = refl
marked_alike key (e ∷ main) =
    elim (key == e.key) as
    (λ b. entry_of (if b then with_bit e true else e) ∷ ring_of (main_hit (λ held. key == held) main) ≡
    (if b then (e.key, true) else (e.key, e.bit)) ∷ marked key (ring_of main))
    [ true ↦ ap (λ rest. (e.key, true) ∷ rest) (marked_alike key main) | false ↦ ap (λ rest. (e.key, e.bit) ∷ rest) (marked_alike key main) ]

pub found_alike : (key : ℕ) (main : List (MainEntry ℕ)) → is_some (slot_in_main (λ held. key == held) main) ≡ is_on key (ring_of main)
found_alike key [] = refl
found_alike key (e ∷ main) =
    elim (key == e.key) as (λ b. is_some (option_map (λ x. x.slot) (cond b (Some e) (find (λ x. key == x.key) main))) ≡ (b || is_on key (ring_of main)))
    [ true ↦ refl | false ↦ found_alike key main ]

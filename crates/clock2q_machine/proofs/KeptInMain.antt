-- A key of Main stays there until its next access, if the keys that are accessed before it have room beside Main's keys
-- that are evicted later.
use Rattle.std.proofs.Common.{◌≡◌, ℕ, ◌+◌, ◌<◌, ◌≤◌, Bool, true, false, List, [], ◌∷◌, length, refl, sym, ap, subst, arith, length-append}
use Rattle.std.specs.Prelude.{if◌then◌else◌}
use Rattle.std.specs.Cmp.{IsEquivalence}
use Rattle.std.specs.List.{sum_by, count_by}
use Rattle.std.proofs.lemmas.List.{length-map}
use Rattle.std.proofs.lemmas.List.Sums.{sum_by-cons}
use Rattle.clock2q_machine.specs.Shares.{main_share}
use Rattle.clock2q_machine.specs.Entries.{MainEntry, main_hit, from_victim, behind_hand, with_bit}
use Rattle.clock2q_machine.specs.Calls.{Put}
use Rattle.clock2q_machine.specs.Machine.{Machine}
use Rattle.clock2q_machine.specs.Steps.{after}
use Rattle.clock2q_machine.specs.Whole.{IsWhole}
use Rattle.clock2q_machine.proofs.Weights.{sum_by-same, weight-main_hit, weight-from_victim, weight-behind, length-from_victim}
use Rattle.clock2q_machine.proofs.Whole.{one_if}
use Rattle.clock2q_machine.proofs.Standing.{none_counted}
use Rattle.clock2q_machine.proofs.NewKeys.{put_shares}
use Rattle.clock2q_machine.proofs.Changes.{Changes, Hit, Admit, EvictTail, Promote, Join, Replace, put_changes}
use Rattle.clock2q_machine.proofs.Spared.{IsSpared, spared, spared_behind, spared_victim, spared_hit, set_of, set_victim, set_behind, set_hit}

pub unless : (b : Bool) → one_if b ≤ 0 → b ≡ false
unless true none = absurd (omega (arith, none))
unless false none = refl

module _ {K V : Type 0} (eq : K → K → Bool) where
  -- how many keys of a list are equal to this one
  abbrev pub matches : List (K × V) → K → ℕ
  matches puts k = count_by (λ p. eq p.0 k) puts

  -- how many of them are in Main
  abbrev pub in_main_of : List (K × V) → List (MainEntry K) → ℕ
  in_main_of puts main = sum_by (λ p. count_by (λ e. eq p.0 e.key) main) puts

  pub in_main_cons : (p : K × V) (puts : List (K × V)) (main : List (MainEntry K)) → in_main_of (p ∷ puts) main ≡ count_by (λ e. eq p.0 e.key) main + in_main_of puts main
  in_main_cons p puts main = sum_by-cons (λ (q : K × V). count_by (λ e. eq q.0 e.key) main) p puts

  matches_cons : (p : K × V) (puts : List (K × V)) (k : K) → matches (p ∷ puts) k ≡ one_if (eq p.0 k) + matches puts k
  matches_cons p puts k = sum_by-cons (λ (q : K × V). one_if (eq q.0 k)) p puts

  -- each is there at most once
  pub in_main_once : (m : Machine K V) → IsWhole eq m → (puts : List (K × V)) → in_main_of puts m.main ≤ length puts
  in_main_once m h [] = omega arith
  in_main_once m h (p ∷ puts) = omega (arith, in_main_cons p puts m.main, h.keys_once p.0, in_main_once m h puts)

  in_main_hit : (test : K → Bool) (puts : List (K × V)) (main : List (MainEntry K)) → in_main_of puts (main_hit test main) ≡ in_main_of puts main
  in_main_hit test puts main =
      sum_by-same (λ (p : K × V). count_by (λ e. eq p.0 e.key) (main_hit test main)) (λ p. count_by (λ e. eq p.0 e.key) main)
      (λ p. weight-main_hit (λ (e : MainEntry K). one_if (eq p.0 e.key)) (λ e bit. refl) test main) puts

  in_main_behind : (key : K) (slot : ℕ) (puts : List (K × V)) (main : List (MainEntry K)) → in_main_of puts main ≤ in_main_of puts (behind_hand key slot main)
  in_main_behind key slot [] main = omega arith
  in_main_behind key slot (p ∷ puts) main =
      omega (
        arith,
        in_main_cons p puts main,
        in_main_cons p puts (behind_hand key slot main),
        weight-behind (λ (e : MainEntry K). one_if (eq p.0 e.key)) (λ e bit. refl) key slot main,
        in_main_behind key slot puts main,
      )

  in_main_victim : (main others : List (MainEntry K)) (victim : MainEntry K) → from_victim main ≡ victim ∷ others → (puts : List (K × V))
      → in_main_of puts main ≡ in_main_of puts others + matches puts victim.key
  in_main_victim main others victim choice [] = refl
  in_main_victim main others victim choice (p ∷ puts) =
      let g : MainEntry K → ℕ = λ e. one_if (eq p.0 e.key) in
      omega (
        arith,
        in_main_cons p puts main,
        in_main_cons p puts others,
        matches_cons p puts victim.key,
        sum_by-cons g victim others,
        ap (sum_by g) choice,
        weight-from_victim g (λ e bit. refl) main,
        in_main_victim main others victim choice puts,
      )

  module _ (laws : IsEquivalence eq) (out : K → Bool) where
    -- The entries of other keys with a set bit become no more.

    -- no key of the list passes the test
    abbrev pub Inside : List (K × V) → Type 0
    Inside puts = (k : K) → matches puts k + one_if (out k) ≤ 1

    pub inside_first : (p : K × V) (puts : List (K × V)) → Inside (p ∷ puts) → (k : K) → eq p.0 k ≡ true → out k ≡ false
    inside_first p puts inside k same = unless (out k) (omega (arith, inside k, matches_cons p puts k, ap one_if same))

    pub inside_rest : (p : K × V) (puts : List (K × V)) → Inside (p ∷ puts) → Inside puts
    inside_rest p puts inside k = omega (arith, inside k, matches_cons p puts k)

    pub set_falls : (p : K × V) (m : Machine K V) → IsWhole eq m → ((k : K) → eq p.0 k ≡ true → out k ≡ false) → set_of out (after eq (Put p.0 p.1) m).main ≤ set_of out m.main
    set_falls p m h inside = by_change (put_changes eq laws p.0 p.1 m h) where
      n : Machine K V
      n = after eq (Put p.0 p.1) m

      by_change : Changes (eq p.0) p.0 m n → set_of out n.main ≤ set_of out m.main
      by_change (Hit c) = omega (arith, ap (set_of out) c.main, set_hit out (eq p.0) inside m.main)
      by_change (Admit c) = omega (arith, ap (set_of out) c.main)
      by_change (EvictTail c) = omega (arith, ap (set_of out) c.main)
      by_change (Promote full c) = omega (arith, ap (set_of out) c.main, set_behind out c.tail.key c.tail.slot c.others, set_victim out m.main c.others c.victim c.choice)
      by_change (Join c) = omega (arith, ap (set_of out) c.main, set_behind out p.0 c.slot m.main)
      by_change (Replace c) = omega (arith, ap (set_of out) c.main, set_behind out p.0 c.slot c.others, set_victim out m.main c.others c.victim c.choice)

    module _ (x : K) where
      -- the keys of the list differ from one another, and from this one, and none passes the test
      abbrev pub Apart : List (K × V) → Type 0
      Apart puts = (k : K) → one_if (eq x k) + matches puts k + one_if (out k) ≤ 1

      -- the key is in Main, and those of the list that aren't are no more than its room and the entries that are evicted
      -- before the key
      pub record Stays (puts : List (K × V)) (m : Machine K V) : Type 0 where
        pub there : 0 < count_by (λ e. eq x e.key) m.main
        pub spares : length puts + length m.main ≤ in_main_of puts m.main + spared out (eq x) m.main + main_share m.shares

      module _ (p : K × V) (puts : List (K × V)) (m : Machine K V) (h : IsWhole eq m) (apart : Apart (p ∷ puts)) (stays : Stays (p ∷ puts) m) where
        abbrev pub n : Machine K V
        n = after eq (Put p.0 p.1) m

        same : main_share n.shares ≡ main_share m.shares
        same = ap main_share (put_shares eq laws p.0 p.1 m h)

        once : count_by (λ e. eq p.0 e.key) m.main ≤ 1
        once = omega (arith, h.keys_once p.0)

        put_apart : (k : K) → eq p.0 k ≡ true → (out k ≡ false) × (eq x k ≡ false)
        put_apart k equal = (
          unless (out k) (omega (arith, apart k, matches_cons p puts k, ap one_if equal)),
          unless (eq x k) (omega (arith, apart k, matches_cons p puts k, ap one_if equal)),
        )

        unchanged : n.main ≡ m.main → Stays puts n
        unchanged main = record {
          there = subst (λ l. 0 < count_by (λ (e : MainEntry K). eq x e.key) l) (sym main) stays.there;
          spares = omega (arith, stays.spares, in_main_cons p puts m.main, once, same, ap (in_main_of puts) main, ap (spared out (eq x)) main, ap (length {A = MainEntry K}) main);
        }

        -- another key takes the place of Main's victim
        replaced : length m.main ≡ main_share m.shares → count_by (λ e. eq p.0 e.key) m.main ≡ 0 → (victim : MainEntry K) (others : List (MainEntry K)) → from_victim m.main ≡ victim ∷ others
            → (key : K) (slot : ℕ) → n.main ≡ behind_hand key slot others → Stays puts n
        replaced full absent victim others choice key slot main = by_key (eq x victim.key) refl where
          g : MainEntry K → ℕ
          g e = one_if (eq x e.key)

          as_long : length others + 1 ≡ length m.main
          as_long = omega (arith, ap (length {A = MainEntry K}) choice, length-from_victim m.main)

          counted : count_by (λ e. eq x e.key) m.main ≡ one_if (eq x victim.key) + count_by (λ e. eq x e.key) others
          counted = omega (arith, sum_by-cons g victim others, ap (sum_by g) choice, weight-from_victim g (λ e bit. refl) m.main)

          some : 0 < spared out (eq x) m.main
          some = omega (arith, stays.spares, in_main_cons p puts m.main, absent, full, in_main_once m h puts)

          victims : IsSpared out (eq x) m.main others victim
          victims = spared_victim out (eq x) m.main others victim choice (omega (arith, h.keys_once x))

          by_key : (b : Bool) → eq x victim.key ≡ b → Stays puts n
          by_key true own = absurd (omega (arith, some, victims.own own))
          by_key false other = record {
            there = omega (arith, ap (count_by (λ (e : MainEntry K). eq x e.key)) main, weight-behind g (λ e bit. refl) key slot others, counted, ap one_if other, stays.there);
            spares =
                omega (
                  arith,
                  stays.spares,
                  in_main_cons p puts m.main,
                  absent,
                  same,
                  in_main_victim m.main others victim choice puts,
                  victims.other other stays.there,
                  apart victim.key,
                  matches_cons p puts victim.key,
                  ap (in_main_of puts) main,
                  in_main_behind key slot puts others,
                  ap (spared out (eq x)) main,
                  spared_behind out (eq x) others (record { key = key; slot = slot; bit = false } ∷ []) (omega (arith, counted, ap one_if other, stays.there)),
                  ap (length {A = MainEntry K}) main,
                  length-append others (record { key = key; slot = slot; bit = false } ∷ []),
                  as_long,
                );
          }

        pub stays_next : Stays puts n
        stays_next = by_change (put_changes eq laws p.0 p.1 m h) where
          by_change : Changes (eq p.0) p.0 m n → Stays puts n
          by_change (Hit c) = record {
            there = omega (arith, ap (count_by (λ (e : MainEntry K). eq x e.key)) c.main, weight-main_hit (λ (e : MainEntry K). one_if (eq x e.key)) (λ e bit. refl) (eq p.0) m.main, stays.there);
            spares =
                omega (
                  arith,
                  stays.spares,
                  in_main_cons p puts m.main,
                  once,
                  same,
                  ap (in_main_of puts) c.main,
                  in_main_hit (eq p.0) puts m.main,
                  ap (spared out (eq x)) c.main,
                  (spared_hit out (eq x) (eq p.0) put_apart m.main).0,
                  ap (length {A = MainEntry K}) c.main,
                  length-map m.main (λ e. if eq p.0 e.key then with_bit e true else e),
                );
          }
          by_change (Admit c) = unchanged c.main
          by_change (EvictTail c) = unchanged c.main
          by_change (Promote full c) = replaced full (omega (arith, none_counted (eq p.0) m c.absent)) c.victim c.others c.choice c.tail.key c.tail.slot c.main
          by_change (Join c) = record {
            there = omega (arith, ap (count_by (λ (e : MainEntry K). eq x e.key)) c.main, weight-behind (λ (e : MainEntry K). one_if (eq x e.key)) (λ e bit. refl) p.0 c.slot m.main, stays.there);
            spares =
                omega (
                  arith,
                  stays.spares,
                  in_main_cons p puts m.main,
                  none_counted (eq p.0) m c.absent,
                  same,
                  ap (in_main_of puts) c.main,
                  in_main_behind p.0 c.slot puts m.main,
                  ap (spared out (eq x)) c.main,
                  spared_behind out (eq x) m.main (record { key = p.0; slot = c.slot; bit = false } ∷ []) stays.there,
                  ap (length {A = MainEntry K}) c.main,
                  length-append m.main (record { key = p.0; slot = c.slot; bit = false } ∷ []),
                );
          }
          by_change (Replace c) = replaced c.full (omega (arith, none_counted (eq p.0) m c.absent)) c.victim c.others c.choice p.0 c.slot c.main

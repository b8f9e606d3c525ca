-- Keys that come back after as many others as Small and the history hold together are new again: in a full cache they
-- never hit.
use Rattle.std.proofs.Common.{◌≡◌, ◌⊎◌, ℕ, zero, suc, ◌+◌, ◌-◌, ◌<◌, ◌≤◌, Bool, true, false, List, [], ◌∷◌, length, take, inl, inr, Some, None, refl, ap, ◌∙◌, arith}
use Rattle.std.specs.Cmp.{IsEquivalence}
use Rattle.std.specs.List.{sum_by, count_by, last_or, AllByRecursion}
use Rattle.std.specs.Option.{option_and_then}
use Rattle.std.specs.Prelude.{⊤, slice_get}
use Rattle.std.proofs.lemmas.Bool.{cases_lt}
use Rattle.std.proofs.lemmas.List.{take-map, take_all}
use Rattle.std.proofs.lemmas.List.Sums.{sum_by-cons, sum_by-take-le}
use Rattle.clock2q_machine.specs.Ages.{Young, grown_older}
use Rattle.clock2q_machine.specs.Entries.{SmallEntry, small_admitted, with_age}
use Rattle.clock2q_machine.specs.Calls.{Put, Value}
use Rattle.clock2q_machine.specs.Machine.{Machine}
use Rattle.clock2q_machine.specs.Steps.{answers, after}
use Rattle.clock2q_machine.specs.Whole.{IsWhole, known_count}
use Rattle.clock2q_machine.specs.Scans.{scan, IsFullCache, AreNew, set_in_small}
use Rattle.clock2q_machine.specs.Loops.{AreFarApart}
use Rattle.clock2q_machine.proofs.Weights.{weight-admitted, weight-last}
use Rattle.clock2q_machine.proofs.Whole.{one_if}
use Rattle.clock2q_machine.proofs.MachineInvariant.{lasting-after}
use Rattle.clock2q_machine.proofs.Standing.{absent_if}
use Rattle.clock2q_machine.proofs.PromotedKeys.{promoted_count, admitted_count, promoted_without}
use Rattle.clock2q_machine.proofs.NewKeys.{LeavesForHistory, LeavesForMain, EntersFor, tail_of, small_some, still_unknown, put_shares, new_enters, full_still}

-- Fronts of lists.

module _ {X : Type 0} where
  take_take : (i j : ℕ) (xs : List X) → i ≤ j → take i (take j xs) ≡ take i xs
  take_take zero j xs le = refl
  take_take (suc i) zero xs le = absurd (omega (arith, le))
  take_take (suc i) (suc j) [] le = refl
  take_take (suc i) (suc j) (x ∷ xs) le = ap (λ l. x ∷ l) (take_take i j xs (omega (arith, le)))

  sum_take_take : (g : X → ℕ) (i j : ℕ) (xs : List X) → sum_by g (take i (take j xs)) ≤ sum_by g (take i xs)
  sum_take_take g zero j xs = omega arith
  sum_take_take g (suc i) zero xs = omega arith
  sum_take_take g (suc i) (suc j) [] = omega arith
  sum_take_take g (suc i) (suc j) (x ∷ xs) = omega (arith, sum_by-cons g x (take i (take j xs)), sum_by-cons g x (take i xs), sum_take_take g i j xs)

  pub sum_take_more : (g : X → ℕ) (i j : ℕ) (xs : List X) → i ≤ j → sum_by g (take i xs) ≤ sum_by g (take j xs)
  sum_take_more g i j xs le = omega (arith, ap (sum_by g) (take_take i j xs le), sum_by-take-le g (take j xs) i)

module _ {K : Type 0} (is : K → Bool) (window : ℕ) (key : K) (slot : ℕ) where
  in_front : (i : ℕ) (small : List (SmallEntry K)) → count_by (λ e. is e.key) (take (suc i) (small_admitted window key slot small)) ≡ one_if (is key) + count_by (λ e. is e.key) (take i small)
  in_front i small =
      let grow : SmallEntry K → SmallEntry K = λ e. with_age e (grown_older window e.age) in
      ap (λ l. count_by (λ (e : SmallEntry K). is e.key) (record { key = key; slot = slot; age = Young 0 } ∷ l)) (take-map grow i small)
      ∙ weight-admitted (λ e. one_if (is e.key)) (λ e age. refl) window key slot (take i small)

  promoted_in_front : (i : ℕ) (small : List (SmallEntry K)) → promoted_count (take (suc i) (small_admitted window key slot small)) ≡ promoted_count (take i small)
  promoted_in_front i small =
      let grow : SmallEntry K → SmallEntry K = λ e. with_age e (grown_older window e.age) in
      ap (λ l. promoted_count (record { key = key; slot = slot; age = Young 0 } ∷ l)) (take-map grow i small) ∙ admitted_count window key slot (take i small)

-- A key that leaves by way of Small and of the history.

module _ {K : Type 0} (is : K → Bool) where
  abbrev pub in_small : List (SmallEntry K) → ℕ
  in_small small = count_by (λ e. is e.key) small

module _ {K V : Type 0} (is : K → Bool) where
  -- it is at this place in Small, and no key up to it is promoted
  pub record IsInSmall (place : ℕ) (m : Machine K V) : Type 0 where
    pub before : in_small is (take place m.small) ≡ 0
    pub there : 0 < in_small is (take (suc place) m.small)
    pub unset : promoted_count (take (suc place) m.small) ≡ 0

  -- it isn't resident, nor among the newest of the history, as many as this, and no key of Small is promoted
  record IsPast (newest : ℕ) (m : Machine K V) : Type 0 where
    small : in_small is m.small ≡ 0
    main : count_by (λ e. is e.key) m.main ≡ 0
    unset : set_in_small m ≡ 0
    history : count_by is (take newest m.history) ≡ 0

  -- it is unknown once as many new keys as this have come
  abbrev Fades : ℕ → Machine K V → Type 0
  Fades a m =
      (known_count is m ≡ 0)
      ⊎ (((place : ℕ) × IsInSmall place m × (m.shares.small + m.shares.history ≤ place + a))
      ⊎ ((newest : ℕ) × IsPast newest m × (m.shares.history ≤ newest + a)))

  fades_later : (a b : ℕ) (m : Machine K V) → a ≤ b → Fades a m → Fades b m
  fades_later a b m le (inl unknown) = inl unknown
  fades_later a b m le (inr (inl f)) = inr (inl (f.0, f.1, omega (arith, le, f.2)))
  fades_later a b m le (inr (inr f)) = inr (inr (f.0, f.1, omega (arith, le, f.2)))

  within_small : (place : ℕ) (m : Machine K V) → IsInSmall place m → place < length m.small
  within_small place m s = elim (cases_lt place (length m.small)) [
    | inl within ↦ within
    | inr past ↦ absurd (omega (arith, s.before, s.there, ap (in_small is) (take_all place m.small past), ap (in_small is) (take_all (suc place) m.small (omega (arith, past)))))
  ]

  -- at the end it is unknown
  faded : (m : Machine K V) → length m.small ≤ m.shares.small → length m.history ≤ m.shares.history → Fades 0 m → known_count is m ≡ 0
  faded m small_fits history_fits (inl unknown) = unknown
  faded m small_fits history_fits (inr (inl f)) = absurd (omega (arith, f.2, small_fits, within_small f.0 m f.1))
  faded m small_fits history_fits (inr (inr f)) =
      let p = f.1 in omega (arith, p.small, p.main, p.history, ap (count_by is) (take_all f.0 m.history (omega (arith, f.2, history_fits))))

  -- another key enters Small
  module _ (key : K) (tail : SmallEntry K) (m n : Machine K V) (differs : is key ≡ false) (last : last_or None m.small ≡ Some tail) (some : 0 < length m.small)
      (same : n.shares ≡ m.shares) (e : EntersFor key tail m n) where
    abbrev front : List (SmallEntry K)
    front = take (length m.small - 1) m.small

    without_tail : in_small is front + one_if (is tail.key) ≡ in_small is m.small
    without_tail = (weight-last (λ x. one_if (is x.key)) None m.small tail some last).0

    still_unset : set_in_small m ≡ 0 → set_in_small n ≡ 0
    still_unset unset = omega (arith, ap promoted_count e.small, admitted_count m.shares.window key e.slot front, promoted_without m.small tail some last, unset)

    not_in_small : in_small is front ≡ 0 → in_small is n.small ≡ 0
    not_in_small none = omega (arith, ap (in_small is) e.small, weight-admitted (λ x. one_if (is x.key)) (λ x age. refl) m.shares.window key e.slot front, ap one_if differs, none)

    -- of the history
    past_still : (newest : ℕ) → IsPast newest m → IsPast (suc newest) n
    past_still newest p = by_leaves e.leaves where
      by_leaves : LeavesForHistory tail m n ⊎ LeavesForMain tail m n → IsPast (suc newest) n
      by_leaves (inl l) = record {
        small = not_in_small (omega (arith, without_tail, p.small));
        main = ap (λ main. count_by (λ x. is x.key) main) l.main ∙ p.main;
        unset = still_unset p.unset;
        history =
            omega (
              arith,
              ap (λ h. count_by is (take (suc newest) h)) l.history,
              sum_take_take (λ k. one_if (is k)) (suc newest) m.shares.history (tail.key ∷ m.history),
              sum_by-cons (λ k. one_if (is k)) tail.key (take newest m.history),
              without_tail,
              p.small,
              p.history,
            );
      }
      by_leaves (inr l) = absurd (omega (arith, promoted_without m.small tail some last, ap one_if l.goes, p.unset))

    -- of Small, if the key isn't its tail
    pub in_small_still : (place : ℕ) → suc place < length m.small → IsInSmall place m → IsInSmall (suc place) n
    in_small_still place inside s = record {
      before = omega (arith, at place (omega (arith, inside)), ap one_if differs, s.before);
      there = omega (arith, at (suc place) (omega (arith, inside)), s.there);
      unset =
          ap (λ small. promoted_count (take (suc (suc place)) small)) e.small
          ∙ promoted_in_front is m.shares.window key e.slot (suc place) front
          ∙ ap promoted_count (take_take (suc place) (length m.small - 1) m.small (omega (arith, inside)))
          ∙ s.unset;
    } where
      at : (i : ℕ) → i ≤ length m.small - 1 → in_small is (take (suc i) n.small) ≡ one_if (is key) + in_small is (take i m.small)
      at i within =
          ap (λ small. in_small is (take (suc i) small)) e.small
          ∙ in_front is m.shares.window key e.slot i front
          ∙ ap (λ l. one_if (is key) + in_small is l) (take_take i (length m.small - 1) m.small within)

    -- or if it is
    leaves_small : known_count is m ≤ 1 → (place : ℕ) → length m.small ≤ suc place → IsInSmall place m → IsPast 0 n
    leaves_small once place end s =
        let all = take_all (suc place) m.small end in
        let none_set : set_in_small m ≡ 0 = omega (arith, ap promoted_count all, s.unset) in
        let here : 0 < in_small is m.small = omega (arith, ap (in_small is) all, s.there) in
        let gone : in_small is front ≡ 0 = omega (arith, sum_take_more (λ x. one_if (is x.key)) (length m.small - 1) place m.small (omega (arith, end)), s.before) in
        by_leaves none_set here gone e.leaves where
          by_leaves : set_in_small m ≡ 0 → 0 < in_small is m.small → in_small is front ≡ 0 → LeavesForHistory tail m n ⊎ LeavesForMain tail m n → IsPast 0 n
          by_leaves none_set here gone (inl l) = record {
            small = not_in_small gone;
            main = omega (arith, ap (λ main. count_by (λ x. is x.key) main) l.main, here, once);
            unset = still_unset none_set;
            history = refl;
          }
          by_leaves none_set here gone (inr l) = absurd (omega (arith, promoted_without m.small tail some last, ap one_if l.goes, none_set))

    fades_on : (a : ℕ) → length m.small ≤ m.shares.small → known_count is m ≤ 1 → (known_count is m ≡ 0 → known_count is n ≡ 0) → Fades (suc a) m → Fades a n
    fades_on a fits once unknown_still (inl unknown) = inl (unknown_still unknown)
    fades_on a fits once unknown_still (inr (inl f)) =
        let within = within_small f.0 m f.1 in
        elim (cases_lt (suc f.0) (length m.small)) [
          | inl inside ↦ inr (inl (suc f.0, in_small_still f.0 inside f.1, omega (arith, f.2, ap (λ s. s.small) same, ap (λ s. s.history) same)))
          | inr end ↦ inr (inr (0, leaves_small once f.0 end f.1, omega (arith, f.2, fits, within, ap (λ s. s.history) same)))
        ]
    fades_on a fits once unknown_still (inr (inr f)) = inr (inr (suc f.0, past_still f.0 f.1, omega (arith, f.2, ap (λ s. s.history) same)))

  -- the key itself enters Small
  pub enters_in_front : (key : K) (tail : SmallEntry K) (m n : Machine K V) → is key ≡ true → EntersFor key tail m n → IsInSmall 0 n
  enters_in_front key tail m n passes e =
      let front : List (SmallEntry K) = take (length m.small - 1) m.small in
      record {
        before = refl;
        there = omega (arith, ap (λ small. in_small is (take 1 small)) e.small, in_front is m.shares.window key e.slot 0 front, ap one_if passes);
        unset = ap (λ small. promoted_count (take 1 small)) e.small ∙ promoted_in_front is m.shares.window key e.slot 0 front;
      }

  begins_to_fade : (key : K) (tail : SmallEntry K) (m n : Machine K V) → is key ≡ true → n.shares ≡ m.shares → EntersFor key tail m n → Fades (m.shares.small + m.shares.history) n
  begins_to_fade key tail m n passes same e =
      inr (inl (0, enters_in_front key tail m n passes e, omega (arith, ap (λ s. s.small) same, ap (λ s. s.history) same)))

-- Lists of keys that are far apart.

module _ {K V : Type 0} (eq : K → K → Bool) where
  abbrev pub Differ : K → List (K × V) → Type 0
  Differ key puts = AllByRecursion (λ q. eq q.0 key ≡ false) puts

  -- each of the keys is unknown when its turn comes, if that is after this many others
  abbrev Fade : ℕ → List (K × V) → Machine K V → Type 0
  Fade i [] m = ⊤
  Fade i (p ∷ puts) m = Fades (eq p.0) i m × Fade (suc i) puts m

  module _ (laws : IsEquivalence eq) where
    module _ (p : K × V) (m : Machine K V) (h : IsWhole eq m) (full : IsFullCache m) (unknown : known_count (eq p.0) m ≡ 0) where
      abbrev put_in : Machine K V
      put_in = after eq (Put p.0 p.1) m

      fade_one : (i : ℕ) (q : K × V) → eq q.0 p.0 ≡ false → Fades (eq q.0) (suc i) m → Fades (eq q.0) i put_in
      fade_one i q differs =
          let tail = tail_of eq laws p.0 m h unknown p.1 full in
          fades_on (eq q.0) p.0 tail.0 m put_in differs tail.1 (small_some eq laws p.0 m h unknown p.1 full) (put_shares eq laws p.0 p.1 m h)
          (new_enters eq laws p.0 m h unknown p.1 full) i h.small_within (h.keys_once q.0) (still_unknown eq laws p.0 m h unknown p.1 q.0 differs)

      -- the same key may come again once this many others have come
      fade_late : (i : ℕ) (q : K × V) → m.shares.small + m.shares.history ≤ i → Fades (eq q.0) (suc i) m → Fades (eq q.0) i put_in
      fade_late i q late fades =
          (elim (eq q.0 p.0) as (λ b. eq q.0 p.0 ≡ b → Fades (eq q.0) i put_in) [
            | true ↦ λ same.
                fades_later (eq q.0) (m.shares.small + m.shares.history) i put_in late
                (begins_to_fade (eq q.0) p.0 (tail_of eq laws p.0 m h unknown p.1 full).0 m put_in same (put_shares eq laws p.0 p.1 m h) (new_enters eq laws p.0 m h unknown p.1 full))
            | false ↦ λ differs. fade_one i q differs fades
          ]) refl

      fade_on : (r i : ℕ) → m.shares.small + m.shares.history ≤ r + i → (puts : List (K × V)) → Differ p.0 (take r puts) → Fade (suc i) puts m → Fade i puts put_in
      fade_on r i enough [] differ fade = tt
      fade_on zero i enough (q ∷ puts) differ fade = (fade_late i q (omega (arith, enough)) fade.0, fade_on zero (suc i) (omega (arith, enough)) puts tt fade.1)
      fade_on (suc r) i enough (q ∷ puts) differ fade = (fade_one i q differ.0 fade.0, fade_on r (suc i) (omega (arith, enough)) puts differ.1 fade.1)

    far_new : (n : ℕ) (puts : List (K × V)) (m : Machine K V) → IsWhole eq m → IsFullCache m → m.shares.small + m.shares.history ≤ n → AreFarApart eq n puts → Fade 0 puts m → AreNew eq puts m
    far_new n [] m h full enough far fade = tt
    far_new n (p ∷ puts) m h full enough far fade =
        let unknown = faded (eq p.0) m h.small_within h.history_within fade.0 in
        let same = put_shares eq laws p.0 p.1 m h in (
          unknown,
          far_new n puts (after eq (Put p.0 p.1) m) (lasting-after eq laws (Put p.0 p.1) m h) (full_still eq laws p.0 m h unknown p.1 full)
              (omega (arith, enough, ap (λ s. s.small) same, ap (λ s. s.history) same)) far.1 (fade_on p m h full unknown n 0 (omega (arith, enough)) puts far.0 fade.1),
        )

    unknown_fade : (i : ℕ) (puts : List (K × V)) (m : Machine K V) → AllByRecursion (λ p. known_count (eq p.0) m ≡ 0) puts → Fade i puts m
    unknown_fade i [] m unknown = tt
    unknown_fade i (p ∷ puts) m unknown = (inl unknown.0, unknown_fade (suc i) puts m unknown.1)

    -- keys that a full cache doesn't know, and that come back after as many others as Small and the history hold, are new
    -- each time
    pub far_apart_new : (puts : List (K × V)) (m : Machine K V) → IsWhole eq m → IsFullCache m → AllByRecursion (λ p. known_count (eq p.0) m ≡ 0) puts
        → AreFarApart eq (m.shares.small + m.shares.history) puts → AreNew eq puts m
    far_apart_new puts m h full unknown far = far_new (m.shares.small + m.shares.history) puts m h full (omega arith) far (unknown_fade 0 puts m unknown)

  -- new keys miss
  pub new_misses : (puts : List (K × V)) (m : Machine K V) → AreNew eq puts m → AllByRecursion (λ answer. answer ≡ Value None) (answers eq (scan puts) m)
  new_misses [] m new = tt
  new_misses (p ∷ puts) m new =
      (ap (λ o. Value (option_and_then (slice_get m.values) o)) (absent_if (eq p.0) m (omega (arith, new.0))), new_misses puts (after eq (Put p.0 p.1) m) new.1)

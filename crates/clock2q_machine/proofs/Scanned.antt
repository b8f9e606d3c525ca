-- What keys that are each new when they come evict, and what a scan evicts, which consists of such keys.
use Rattle.std.proofs.Common.{◌≡◌, ◌⊎◌, ℕ, ◌+◌, ◌-◌, ◌<◌, ◌≤◌, Bool, true, false, not, ◌||◌, ◌&&◌, ◌==◌, List, [], ◌∷◌, length, take, inl, inr, Option, Some, None, refl, sym, ap, ◌∙◌, subst, arith}
use Rattle.std.specs.Prelude.{if◌then◌else◌, is_some}
use Rattle.std.specs.Cmp.{IsEquivalence}
use Rattle.std.specs.List.{sum_by, count_by, list_any, last_or, AllByRecursion}
use Rattle.std.proofs.lemmas.Bool.{both_ways}
use Rattle.std.proofs.lemmas.List.Sums.{sum_by-cons, count_by-le-length}
use Rattle.clock2q_machine.specs.Ages.{is_promoted}
use Rattle.clock2q_machine.specs.Entries.{SmallEntry, MainEntry, small_admitted}
use Rattle.clock2q_machine.specs.Calls.{Put}
use Rattle.clock2q_machine.specs.Machine.{Machine, slot_of}
use Rattle.clock2q_machine.specs.Steps.{after, after_all}
use Rattle.clock2q_machine.specs.Bounds.{takes_out, summed}
use Rattle.clock2q_machine.specs.Whole.{IsWhole, known_count}
use Rattle.clock2q_machine.specs.Scans.{scan, IsFullCache, set_in_small, IsScan, AreNew, left_all, left_main}
use Rattle.clock2q_machine.specs.Turnover.{settings_in_small, belongs_in_main, earned}
use Rattle.clock2q_machine.proofs.Weights.{weight-from_victim, weight-behind, weight-last}
use Rattle.clock2q_machine.proofs.Whole.{one_if, weight, tail_some}
use Rattle.clock2q_machine.proofs.MachineInvariant.{lasting-after, lasting-run}
use Rattle.clock2q_machine.proofs.Standing.{none_counted, absent_if, found_counted, count_at-le, key_count, fewer_second, weights-both-le}
use Rattle.clock2q_machine.proofs.Entering.{StaysOrGoes, differs}
use Rattle.clock2q_machine.proofs.Victims.{counted_residents}
use Rattle.clock2q_machine.proofs.Laws.{others_keep}
use Rattle.clock2q_machine.proofs.LeftKeys.{gone_or_there}
use Rattle.clock2q_machine.proofs.PromotedKeys.{promoted_count, promoted_of, admitted_count, promoted_admitted, promoted_without}
use Rattle.clock2q_machine.proofs.Changes.{Changes, Hit, Admit, EvictTail, Promote, Join, Replace, put_changes}
use Rattle.clock2q_machine.proofs.NewKeys.{LeavesForHistory, LeavesForMain, EntersFor, none_passes, share_some, tail_of, small_some, put_shares, new_enters, full_still, scan_new}
use Rattle.clock2q_machine.proofs.Turnover.{main_turnover}

ones : {X : Type 0} (xs : List X) → sum_by (λ x. 1) xs ≡ length xs
ones [] = refl
ones (x ∷ xs) = omega (arith, sum_by-cons (λ y. 1) x xs, ones xs)

-- Residents of Main that were there before, and keys of Small that weren't and would be promoted.

module _ {K : Type 0} (old : K → Bool) where
  abbrev olds : List (MainEntry K) → ℕ
  olds main = count_by (λ e. old e.key) main

  abbrev coming : List (SmallEntry K) → ℕ
  coming small = promoted_of (λ k. not (old k)) small

either : (b : Bool) → one_if (not b) + one_if b ≡ 1
either true = refl
either false = refl

module _ {K V : Type 0} (is old : K → Bool) (key : K) (m n : Machine K V) where
  -- Main has as many that were there as before, and Small none that comes to Main
  abbrev Keeps : Type 0
  Keeps = (olds old m.main ≤ olds old n.main) × (coming old n.small ≡ 0)

  module _ (tail : SmallEntry K) (last : last_or None m.small ≡ Some tail) where
    tail_leaves : coming old (take (length m.small - 1) m.small) + one_if (is_promoted tail.age && not (old tail.key)) ≡ coming old m.small
    tail_leaves = (weight-last (λ x. one_if (is_promoted x.age && not (old x.key))) None m.small tail (tail_some m.small tail last) last).0

    none_comes : (slot : ℕ) → n.small ≡ small_admitted m.shares.window key slot (take (length m.small - 1) m.small) → coming old m.small ≡ 0 → coming old n.small ≡ 0
    none_comes slot small none = omega (arith, ap (coming old) small, promoted_admitted (λ k. not (old k)) m.shares.window key slot (take (length m.small - 1) m.small), tail_leaves, none)

  -- an unknown key, if Small has a share
  keeps_old : slot_of is m ≡ None → (list_any is m.history || (m.shares.small == 0)) ≡ false → coming old m.small ≡ 0 → Changes is key m n → Keeps
  keeps_old absent strange none (Hit c) = absurd (both_ways (is_some (slot_of is m)) (ap is_some absent) c.resident)
  keeps_old absent strange none (Admit c) = (
    omega (arith, ap (olds old) c.main),
    ap (coming old) c.small ∙ promoted_admitted (λ k. not (old k)) m.shares.window key c.slot m.small ∙ none,
  )
  keeps_old absent strange none (EvictTail c) = (omega (arith, ap (olds old) c.main), none_comes c.tail c.last c.slot c.small none)
  keeps_old absent strange none (Promote full c) =
      let f : MainEntry K → ℕ = λ e. one_if (old e.key) in (
        omega (
          arith,
          ap (olds old) c.main,
          weight-behind f (λ e bit. refl) c.tail.key c.tail.slot c.others,
          sum_by-cons f c.victim c.others,
          ap (sum_by f) c.choice,
          weight-from_victim f (λ e bit. refl) m.main,
          either (old c.victim.key),
          either (old c.tail.key),
          tail_leaves c.tail c.last,
          ap (λ b. one_if (b && not (old c.tail.key))) c.goes,
          none,
        ),
        none_comes c.tail c.last c.slot c.small none,
      )
  keeps_old absent strange none (Join c) =
      (omega (arith, ap (olds old) c.main, weight-behind (λ (e : MainEntry K). one_if (old e.key)) (λ e bit. refl) key c.slot m.main), ap (coming old) c.small ∙ none)
  keeps_old absent strange none (Replace c) = absurd (both_ways (list_any is m.history || (m.shares.small == 0)) strange c.belongs)

-- Main while Small has no key that would be promoted.

module _ {K V : Type 0} (key : K) (tail : SmallEntry K) (m n : Machine K V) (last : last_or None m.small ≡ Some tail) (some : 0 < length m.small) (e : EntersFor key tail m n) where
  same_main : set_in_small m ≡ 0 → (n.main ≡ m.main) × (set_in_small n ≡ 0)
  same_main none = (
    by_leaves e.leaves,
    omega (arith, ap promoted_count e.small, admitted_count m.shares.window key e.slot (take (length m.small - 1) m.small), promoted_without m.small tail some last, none),
  ) where
    by_leaves : LeavesForHistory tail m n ⊎ LeavesForMain tail m n → n.main ≡ m.main
    by_leaves (inl l) = l.main
    by_leaves (inr l) = absurd (omega (arith, promoted_without m.small tail some last, ap one_if l.goes, none))

module _ {K V : Type 0} (eq : K → K → Bool) (laws : IsEquivalence eq) where
  -- a new key doesn't belong in Main if Small has a share
  is_strange : (key : K) (m : Machine K V) → 0 < m.shares.small → known_count (eq key) m ≡ 0 → (list_any (eq key) m.history || (m.shares.small == 0)) ≡ false
  is_strange key m some unknown =
      ap (λ b. b || (m.shares.small == 0)) (none_passes (eq key) m.history (omega (arith, unknown))) ∙ ap (λ b. false || b) (share_some m.shares.small some)

  share_still : (p : K × V) (m : Machine K V) → IsWhole eq m → 0 < m.shares.small → 0 < (after eq (Put p.0 p.1) m).shares.small
  share_still p m h some = subst (λ s. 0 < s.small) (sym (put_shares eq laws p.0 p.1 m h)) some

  -- through a list of new keys
  keeps_old_run : (old : K → Bool) (puts : List (K × V)) (m : Machine K V) → IsWhole eq m → 0 < m.shares.small → AreNew eq puts m → coming old m.small ≡ 0
      → olds old m.main ≤ olds old (after_all eq (scan puts) m).main
  keeps_old_run old [] m h some new none = omega arith
  keeps_old_run old (p ∷ puts) m h some new none =
      let n = after eq (Put p.0 p.1) m in
      let keeps =
      keeps_old (eq p.0) old p.0 m n (absent_if (eq p.0) m (omega (arith, new.0))) (is_strange p.0 m some new.0) none (put_changes eq laws p.0 p.1 m h) in
      omega (arith, keeps.0, keeps_old_run old puts n (lasting-after eq laws (Put p.0 p.1) m h) (share_still p m h some) new.1 keeps.1)

  same_main_run : (puts : List (K × V)) (m : Machine K V) → IsWhole eq m → IsFullCache m → AreNew eq puts m → set_in_small m ≡ 0 → (after_all eq (scan puts) m).main ≡ m.main
  same_main_run [] m h full new none = refl
  same_main_run (p ∷ puts) m h full new none =
      let n = after eq (Put p.0 p.1) m in
      let tail = tail_of eq laws p.0 m h new.0 p.1 full in
      let same = same_main p.0 tail.0 m n tail.1 (small_some eq laws p.0 m h new.0 p.1 full) (new_enters eq laws p.0 m h new.0 p.1 full) none in
      same_main_run puts n (lasting-after eq laws (Put p.0 p.1) m h) (full_still eq laws p.0 m h new.0 p.1 full) new.1 same.1 ∙ same.0

  -- new keys earn nothing if Small has a share
  none_earned : (puts : List (K × V)) (m : Machine K V) → IsWhole eq m → 0 < m.shares.small → AreNew eq puts m → summed eq (earned eq) (scan puts) m ≡ 0
  none_earned [] m h some new = refl
  none_earned (p ∷ puts) m h some new =
      let n = after eq (Put p.0 p.1) m in
      omega (
        arith,
        ap (λ o. if is_some o then settings_in_small (eq p.0) m else belongs_in_main (eq p.0) m) (absent_if (eq p.0) m (omega (arith, new.0))),
        ap one_if (is_strange p.0 m some new.0),
        none_earned puts n (lasting-after eq laws (Put p.0 p.1) m h) (share_still p m h some) new.1,
      )

  none_taken_out : (puts : List (K × V)) → AllByRecursion (λ call. takes_out call ≡ false) (scan puts)
  none_taken_out [] = tt
  none_taken_out (p ∷ puts) = (refl, none_taken_out puts)

  module _ (m : Machine K V) (h : IsWhole eq m) where
    -- whether a key was resident
    abbrev was : K → Bool
    was k = is_some (slot_of (eq k) m)

    was_there : (k : K) → 0 < key_count (eq k) m → one_if (not (was k)) ≡ 0
    was_there k some = by_slot (slot_of (eq k) m) refl where
      by_slot : (o : Option ℕ) → slot_of (eq k) m ≡ o → one_if (not (is_some o)) ≡ 0
      by_slot None absent = absurd (omega (arith, none_counted (eq k) m absent, some))
      by_slot (Some slot) found = refl

    was_counted : (k : K) → one_if (was k) ≤ key_count (eq k) m
    was_counted k = by_slot (slot_of (eq k) m) refl where
      by_slot : (o : Option ℕ) → slot_of (eq k) m ≡ o → one_if (is_some o) ≤ key_count (eq k) m
      by_slot None absent = omega arith
      by_slot (Some slot) found = omega (arith, found_counted (eq k) m slot found, count_at-le (eq k) slot m)

    main_was : (entries : List (MainEntry K)) → ((is : K → Bool) → count_by (λ x. is x.key) entries ≤ key_count is m) → length entries ≤ olds was entries
    main_was [] among = omega arith
    main_was (e ∷ entries) among =
        omega (
          arith,
          sum_by-cons (λ x. one_if (was x.key)) e entries,
          either (was e.key),
          was_there e.key (omega (arith, among (eq e.key), sum_by-cons (λ (x : MainEntry K). one_if (eq e.key x.key)) e entries, ap one_if (laws.refl e.key))),
          main_was entries (λ is. omega (arith, among is, sum_by-cons (λ (x : MainEntry K). one_if (is x.key)) e entries)),
        )

    small_was : (entries : List (SmallEntry K)) → ((is : K → Bool) → count_by (λ x. is x.key) entries ≤ key_count is m) → coming was entries ≡ 0
    small_was [] among = refl
    small_was (e ∷ entries) among =
        omega (
          arith,
          sum_by-cons (λ x. one_if (is_promoted x.age && not (was x.key))) e entries,
          fewer_second (is_promoted e.age) (not (was e.key)),
          was_there e.key (omega (arith, among (eq e.key), sum_by-cons (λ (x : SmallEntry K). one_if (eq e.key x.key)) e entries, ap one_if (laws.refl e.key))),
          small_was entries (λ is. omega (arith, among is, sum_by-cons (λ (x : SmallEntry K). one_if (is x.key)) e entries)),
        )

    each_was : (main : List (MainEntry K)) → olds was main ≤ weight (λ k s. count_by (λ x. eq k x.key) main) m
    each_was [] = omega arith
    each_was (x ∷ main) =
        omega (
          arith,
          sum_by-cons (λ e. one_if (was e.key)) x main,
          was_counted x.key,
          each_was main,
          weights-both-le (λ k s. one_if (eq x.key k)) (λ k s. count_by (λ y. eq k y.key) main) (λ k s. count_by (λ y. eq k y.key) (x ∷ main))
              (λ k s. omega (arith, sum_by-cons (λ (y : MainEntry K). one_if (eq k y.key)) x main, ap one_if (laws.symm x.key k)))
              m,
        )

    -- The laws of keys that are new when they come.

    module _ (puts : List (K × V)) (new : AreNew eq puts m) where
      abbrev later : Machine K V
      later = after_all eq (scan puts) m

      -- no more keys of Main leave than Small had old keys that were hit
      pub new_left : 0 < m.shares.small → left_main eq m later ≤ set_in_small m
      new_left some = omega (arith, main_turnover eq laws m h (scan puts) (none_taken_out puts), none_earned puts m h some new)

      -- Main loses a resident only for one of Small, and then has that: so no more residents leave than Small's share
      pub new_left_all : 0 < m.shares.small → left_all eq m later ≤ m.shares.small
      new_left_all some =
          omega (
            arith,
            counted_residents (λ k s. not (is_some (slot_of (eq k) later))) m,
            weights-both-le (λ k s. one_if (not (is_some (slot_of (eq k) later)))) (λ k s. count_by (λ x. eq k x.key) later.main) (λ k s. 1)
                (λ k s. gone_or_there eq later (lasting-run eq laws (scan puts) m h) k) m,
            each_was later.main,
            keeps_old_run was puts m h some new (small_was m.small (λ is. omega arith)),
            main_was m.main (λ is. omega arith),
            ones m.small,
            ones m.main,
            h.small_within,
          )

      -- if Small had none, Main is unchanged, including its bits and order
      pub new_untouched : IsFullCache m → set_in_small m ≡ 0 → later.main ≡ m.main
      new_untouched full = same_main_run puts m h full new

    -- The laws of a scan.

    module _ (puts : List (K × V)) (scans : IsScan eq puts m) where
      abbrev scanned : Machine K V
      scanned = after_all eq (scan puts) m

      -- of all residents at most Small's share leave, however long the scan is
      pub scan_left_all : 0 < m.shares.small → left_all eq m scanned ≤ m.shares.small
      scan_left_all = new_left_all puts (scan_new eq laws puts m h scans)

      -- no more keys of Main leave than Small had old keys that were hit
      pub scan_left : 0 < m.shares.small → left_main eq m scanned ≤ set_in_small m
      scan_left = new_left puts (scan_new eq laws puts m h scans)

      -- so at most as many as Small's share
      pub scan_left_share : 0 < m.shares.small → left_main eq m scanned ≤ m.shares.small
      scan_left_share some = omega (arith, scan_left some, count_by-le-length (λ (e : SmallEntry K). is_promoted e.age) m.small, h.small_within)

      -- if Small had none, Main is unchanged, including its bits and order
      pub scan_untouched : IsFullCache m → set_in_small m ≡ 0 → scanned.main ≡ m.main
      scan_untouched = new_untouched puts (scan_new eq laws puts m h scans)

module _ {K V : Type 0} (eq : K → K → Bool) where
  -- a resident that stays keeps its slot and its value
  pub scan_keeps : (laws : IsEquivalence eq) (puts : List (K × V)) (m : Machine K V) → IsWhole eq m → (k : K) → AllByRecursion (λ p. eq k p.0 ≡ false) puts
      → StaysOrGoes eq k m (after_all eq (scan puts) m)
  scan_keeps laws [] m h k differ = inr (refl, refl)
  scan_keeps laws (p ∷ puts) m h k differ =
      let n = after eq (Put p.0 p.1) m in
      then_stays (others_keep eq laws m h (Put p.0 p.1) k differ.0) (scan_keeps laws puts n (lasting-after eq laws (Put p.0 p.1) m h) k differ.1) where
        then_stays : StaysOrGoes eq k m (after eq (Put p.0 p.1) m) → StaysOrGoes eq k (after eq (Put p.0 p.1) m) (after_all eq (scan puts) (after eq (Put p.0 p.1) m))
            → StaysOrGoes eq k m (after_all eq (scan puts) (after eq (Put p.0 p.1) m))
        then_stays first (inl gone) = inl gone
        then_stays (inl gone) (inr same) = inl (same.0 ∙ gone)
        then_stays (inr kept) (inr same) = inr (same.0 ∙ kept.0, same.1 ∙ kept.1)

  -- no key of a scan is a resident
  pub scan_differs : (laws : IsEquivalence eq) (puts : List (K × V)) (m : Machine K V) (k : K) (s : ℕ) → slot_of (eq k) m ≡ Some s → IsScan eq puts m → AllByRecursion (λ p. eq k p.0 ≡ false) puts
  scan_differs laws [] m k s found scans = tt
  scan_differs laws (p ∷ puts) m k s found scans =
      (differs eq laws m k p.0 s (absent_if (eq p.0) m (omega (arith, scans.0))) found, scan_differs laws puts m k s found scans.1.1)

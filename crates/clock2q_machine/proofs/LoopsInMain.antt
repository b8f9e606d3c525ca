-- Which loops are admitted from any state: those that fit in Main.
use Rattle.std.proofs.Common.{◌≡◌, ◌⊎◌, ℕ, suc, ◌+◌, ◌<◌, ◌≤◌, Bool, true, false, List, [], ◌∷◌, length, inl, inr, refl, sym, ap, ◌∙◌, subst, arith}
use Rattle.std.specs.Prelude.{⊤}
use Rattle.std.specs.Cmp.{IsEquivalence}
use Rattle.std.specs.List.{sum_by, count_by, AllByRecursion}
use Rattle.std.proofs.lemmas.Bool.{cases_lt}
use Rattle.std.proofs.lemmas.List.Sums.{sum_by-cons}
use Rattle.clock2q_machine.specs.Shares.{main_share}
use Rattle.clock2q_machine.specs.Entries.{MainEntry, from_victim, behind_hand}
use Rattle.clock2q_machine.specs.Calls.{Put}
use Rattle.clock2q_machine.specs.Machine.{Machine}
use Rattle.clock2q_machine.specs.Steps.{answers, after, after_all}
use Rattle.clock2q_machine.specs.Whole.{IsWhole}
use Rattle.clock2q_machine.specs.Scans.{scan}
use Rattle.clock2q_machine.specs.Loops.{rounds, is_hit, AreDistinct, foreign_bits}
use Rattle.clock2q_machine.proofs.Weights.{weight-main_hit, weight-from_victim, weight-behind}
use Rattle.clock2q_machine.proofs.Whole.{one_if}
use Rattle.clock2q_machine.proofs.MachineInvariant.{lasting-after, lasting-run}
use Rattle.clock2q_machine.proofs.NewKeys.{put_shares}
use Rattle.clock2q_machine.proofs.Loops.{all_rounds}
use Rattle.clock2q_machine.proofs.Admitted.{AreHeld, held_still, all_hit}
use Rattle.clock2q_machine.proofs.Changes.{Changes, Hit, Admit, EvictTail, Promote, Join, Replace, put_changes}
use Rattle.clock2q_machine.proofs.Spared.{set_of, set_behind}
use Rattle.clock2q_machine.proofs.Passed.{IsPassed, unpassed, passed_victim, passed_hit, passed_behind}
use Rattle.clock2q_machine.proofs.KeptInMain.{unless, Apart, Stays, stays_next, set_falls}
use Rattle.clock2q_machine.proofs.Settled.{out, Fits, Keeper, begins}
use Rattle.clock2q_machine.proofs.AnyState.{run_append, run_shares, all_held}

module _ {K V : Type 0} (eq : K → K → Bool) (laws : IsEquivalence eq) where
  -- keys that are held stay so
  held_run : (puts loop : List (K × V)) (m : Machine K V) → IsWhole eq m → AreHeld eq laws puts m → AreHeld eq laws loop m → AreHeld eq laws loop (after_all eq (scan puts) m)
  held_run [] loop m h held all = all
  held_run (p ∷ puts) loop m h held all =
      held_run puts loop (after eq (Put p.0 p.1) m) (lasting-after eq laws (Put p.0 p.1) m h) (held_still eq laws p m h held.0 puts held.1) (held_still eq laws p m h held.0 loop all)

  module _ (loop : List (K × V)) (distinct : AreDistinct eq loop) where
    abbrev other : K → Bool
    other k = out eq laws loop distinct k

    own_of : (x : K) (p : K × V) (rest : List (K × V)) → Apart eq laws other x (p ∷ rest) → (k : K) → eq p.0 k ≡ true → (other k ≡ false) × (eq x k ≡ false)
    own_of x p rest apart k same =
        let counted = sum_by-cons (λ (q : K × V). one_if (eq q.0 k)) p rest in
        (unless (other k) (omega (arith, apart k, counted, ap one_if same)), unless (eq x k) (omega (arith, apart k, counted, ap one_if same)))

    -- A loop that fits in Main beside the other keys that were hit there.

    beside : Keeper eq laws loop distinct (Fits eq laws loop distinct) (λ _. ⊥) (λ x rest m. Stays eq laws other x.0 rest m)
    beside = record {
      ok_next = λ p own m h fits. omega (arith, fits, set_falls eq laws other p m h own, ap main_share (put_shares eq laws p.0 p.1 m h));
      lost_next = λ p own m h lost. lost;
      starts = λ x others order done rest parts m h fits fresh. begins eq laws loop distinct x others order done rest parts m h fits fresh;
      next = λ x p rest apart m h stays. stays_next eq laws other x.0 p rest m h apart stays;
      ends = λ x m stays. inl stays.there;
    }

    -- A loop that fits in Main: its keys stay unless the hand has cleared the bits of all others.

    abbrev IsLost : Machine K V → Type 0
    IsLost m = set_of other m.main ≡ 0

    abbrev IsSafe : K × V → List (K × V) → Machine K V → Type 0
    IsSafe x rest m = ((0 < count_by (λ e. eq x.0 e.key) m.main) × (unpassed other (eq x.0) m.main ≡ 0)) ⊎ IsLost m

    module _ (x p : K × V) (rest : List (K × V)) (apart : Apart eq laws other x.0 (p ∷ rest)) (m : Machine K V) (h : IsWhole eq m) where
      abbrev later : Machine K V
      later = after eq (Put p.0 p.1) m

      safe_next : IsSafe x (p ∷ rest) m → IsSafe x rest later
      safe_next (inr lost) = inr (omega (arith, lost, set_falls eq laws other p m h (λ k same. (own_of x.0 p rest apart k same).0)))
      safe_next (inl safe) = by_change (put_changes eq laws p.0 p.1 m h) where
        g : MainEntry K → ℕ
        g e = one_if (eq x.0 e.key)

        replaced : (victim : MainEntry K) (others : List (MainEntry K)) → from_victim m.main ≡ victim ∷ others → (key : K) (slot : ℕ) → later.main ≡ behind_hand key slot others
            → IsPassed other (eq x.0) m.main others victim → (b : Bool) → eq x.0 victim.key ≡ b → IsSafe x rest later
        replaced victim others choice key slot main passes true own = inr (omega (arith, ap (set_of other) main, set_behind other key slot others, passes.own own safe.1))
        replaced victim others choice key slot main passes false differs =
            let some : 0 < count_by (λ e. eq x.0 e.key) others = omega (arith, safe.0, ap one_if differs, sum_by-cons g victim others, ap (sum_by g) choice, weight-from_victim g (λ e bit. refl) m.main) in
            inl (
              omega (arith, ap (sum_by g) main, weight-behind g (λ e bit. refl) key slot others, some),
              ap (unpassed other (eq x.0)) main ∙ passed_behind other (eq x.0) key slot others some (passes.other differs safe.0 safe.1),
            )

        by_change : Changes (eq p.0) p.0 m later → IsSafe x rest later
        by_change (Hit c) =
            inl (
              omega (arith, ap (sum_by g) c.main, weight-main_hit g (λ e bit. refl) (eq p.0) m.main, safe.0),
              ap (unpassed other (eq x.0)) c.main ∙ passed_hit other (eq x.0) (eq p.0) (own_of x.0 p rest apart) m.main ∙ safe.1,
            )
        by_change (Admit c) = inl (omega (arith, ap (sum_by g) c.main, safe.0), ap (unpassed other (eq x.0)) c.main ∙ safe.1)
        by_change (EvictTail c) = inl (omega (arith, ap (sum_by g) c.main, safe.0), ap (unpassed other (eq x.0)) c.main ∙ safe.1)
        by_change (Promote full c) =
            replaced c.victim c.others c.choice c.tail.key c.tail.slot c.main (passed_victim other (eq x.0) m.main c.others c.victim c.choice (omega (arith, h.keys_once x.0)))
            (eq x.0 c.victim.key) refl
        by_change (Join c) =
            inl (
              omega (arith, ap (sum_by g) c.main, weight-behind g (λ e bit. refl) p.0 c.slot m.main, safe.0),
              ap (unpassed other (eq x.0)) c.main ∙ passed_behind other (eq x.0) p.0 c.slot m.main safe.0 safe.1,
            )
        by_change (Replace c) =
            replaced c.victim c.others c.choice p.0 c.slot c.main (passed_victim other (eq x.0) m.main c.others c.victim c.choice (omega (arith, h.keys_once x.0))) (eq x.0 c.victim.key) refl

    among : Keeper eq laws loop distinct (λ _. ⊤) IsLost IsSafe
    among = record {
      ok_next = λ p own m h ok. tt;
      lost_next = λ p own m h lost. omega (arith, lost, set_falls eq laws other p m h own);
      starts = λ x others order done rest parts m h ok fresh. inl (fresh.0, fresh.1.1);
      next = λ x p rest apart m h safe. safe_next x p rest apart m h safe;
      ends = λ x m safe. elim safe [ inl stays ↦ inl stays.0 | inr lost ↦ inr lost ];
    }

    module _ (m : Machine K V) (h : IsWhole eq m) (remembers : 0 < m.shares.small → length loop ≤ suc m.shares.history) where
      abbrev twice : Machine K V
      twice = after_all eq (scan loop) (after_all eq (scan loop) m)

      twice_whole : IsWhole eq twice
      twice_whole = lasting-run eq laws (scan loop) (after_all eq (scan loop) m) (lasting-run eq laws (scan loop) m h)

      twice_shares : twice.shares ≡ m.shares
      twice_shares = run_shares eq laws loop (after_all eq (scan loop) m) (lasting-run eq laws (scan loop) m h) ∙ run_shares eq laws loop m h

      all_hit_once_held : (later : Machine K V) → IsWhole eq later → AreHeld eq laws loop later → (times : ℕ) → AllByRecursion (λ reply. is_hit reply ≡ true) (answers eq (scan (rounds times loop)) later)
      all_hit_once_held later whole held times = all_hit eq laws (rounds times loop) later whole (all_rounds _ times loop held)

      -- if it fits in Main beside the others that were hit there, each access hits from the third round on
      pub loop_beside : length loop + foreign_bits eq loop m ≤ main_share m.shares → (times : ℕ)
          → AllByRecursion (λ reply. is_hit reply ≡ true) (answers eq (scan (rounds times loop)) (after_all eq (scan loop) (after_all eq (scan loop) m)))
      loop_beside fits times = all_hit_once_held twice twice_whole (all_held eq laws loop distinct _ _ _ beside m h fits remembers (λ lost. lost)) times

      -- if it fits in Main, from the fifth round on
      pub loop_in_main : length loop ≤ main_share m.shares → (times : ℕ)
          → AllByRecursion (λ reply. is_hit reply ≡ true) (answers eq (scan (rounds times loop)) (after_all eq (scan (rounds 4 loop)) m))
      loop_in_main fits times =
          subst (λ later. AllByRecursion (λ reply. is_hit reply ≡ true) (answers eq (scan (rounds times loop)) later)) (sym four)
          (all_hit_once_held later (lasting-run eq laws (scan loop) (after_all eq (scan loop) twice) (lasting-run eq laws (scan loop) twice twice_whole)) held times) where
            later : Machine K V
            later = after_all eq (scan loop) (after_all eq (scan loop) twice)

            four : after_all eq (scan (rounds 4 loop)) m ≡ later
            four =
                run_append eq laws loop (rounds 3 loop) m
                ∙ run_append eq laws loop (rounds 2 loop) (after_all eq (scan loop) m)
                ∙ run_append eq laws loop (rounds 1 loop) twice
                ∙ run_append eq laws loop [] (after_all eq (scan loop) twice)

            held : AreHeld eq laws loop later
            held = elim (cases_lt 0 (set_of other twice.main)) [
              | inl some ↦
                  let all : AreHeld eq laws loop twice = all_held eq laws loop distinct _ _ _ among m h tt remembers (λ lost. omega (arith, lost, some)) in
                  let more : AreHeld eq laws loop (after_all eq (scan loop) twice) = held_run loop loop twice twice_whole all all in
                  held_run loop loop (after_all eq (scan loop) twice) (lasting-run eq laws (scan loop) twice twice_whole) more more
              | inr none ↦
                  all_held eq laws loop distinct _ _ _ beside twice twice_whole (omega (arith, fits, none, ap main_share twice_shares))
                  (λ some. omega (arith, remembers (subst (λ s. 0 < s.small) twice_shares some), ap (λ s. s.history) twice_shares)) (λ lost. lost)
            ]

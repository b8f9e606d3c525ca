-- Loops from any state: one that fits in Main beside the other keys that were hit there hits from the third round on.
use Rattle.std.proofs.Common.{◌≡◌, ◌⊎◌, ℕ, suc, ◌+◌, ◌<◌, ◌≤◌, Bool, true, List, [], ◌∷◌, ◌++◌, length, inl, inr, refl, sym, ap, ◌∙◌, subst, arith, length-append}
use Rattle.std.specs.Prelude.{if◌then◌else◌, is_some}
use Rattle.std.specs.Cmp.{IsEquivalence}
use Rattle.std.specs.List.{sum_by, count_by, list_any}
use Rattle.std.proofs.lemmas.List.{append_assoc}
use Rattle.std.proofs.lemmas.List.Sums.{sum_by-cons, sum_by-append, count_by-le-length}
use Rattle.clock2q_machine.specs.Entries.{SmallEntry}
use Rattle.clock2q_machine.specs.Calls.{Put}
use Rattle.clock2q_machine.specs.Machine.{Machine, slot_of, goes_to_main}
use Rattle.clock2q_machine.specs.Steps.{after, after_all}
use Rattle.clock2q_machine.specs.Bounds.{summed}
use Rattle.clock2q_machine.specs.Lifetimes.{admissions_of}
use Rattle.clock2q_machine.specs.Whole.{IsWhole}
use Rattle.clock2q_machine.specs.Scans.{scan}
use Rattle.clock2q_machine.specs.Loops.{AreDistinct}
use Rattle.clock2q_machine.proofs.Whole.{one_if}
use Rattle.clock2q_machine.proofs.MachineInvariant.{lasting-after, lasting-run}
use Rattle.clock2q_machine.proofs.Lifetimes.{in_small_still}
use Rattle.clock2q_machine.proofs.NewKeys.{put_shares}
use Rattle.clock2q_machine.proofs.FirstRound.{any_counted}
use Rattle.clock2q_machine.proofs.SecondRound.{none_removed, resident_if, small_resident, admits_none}
use Rattle.clock2q_machine.proofs.Admitted.{AreHeld, by_places}
use Rattle.clock2q_machine.proofs.KeptInMain.{Inside, inside_first, inside_rest}
use Rattle.clock2q_machine.proofs.Settled.{out, inside_loop, IsFresh, IsInSmall, IsOwn, Keeper, rest_apart, after_access, stays_run, small_run, IsKnown}

module _ {K V : Type 0} (eq : K → K → Bool) (laws : IsEquivalence eq) where
  pub run_append : (xs ys : List (K × V)) (m : Machine K V) → after_all eq (scan (xs ++ ys)) m ≡ after_all eq (scan ys) (after_all eq (scan xs) m)
  run_append [] ys m = refl
  run_append (x ∷ xs) ys m = run_append xs ys (after eq (Put x.0 x.1) m)

  -- puts keep the shares
  pub run_shares : (puts : List (K × V)) (m : Machine K V) → IsWhole eq m → (after_all eq (scan puts) m).shares ≡ m.shares
  run_shares [] m h = refl
  run_shares (p ∷ puts) m h = run_shares puts (after eq (Put p.0 p.1) m) (lasting-after eq laws (Put p.0 p.1) m h) ∙ put_shares eq laws p.0 p.1 m h

  module _ (loop : List (K × V)) (distinct : AreDistinct eq loop) where
    -- what each put of a key of the loop keeps
    run_keeps : (P : Machine K V → Type 0) → ((p : K × V) → IsOwn eq laws loop distinct p → (m : Machine K V) → IsWhole eq m → P m → P (after eq (Put p.0 p.1) m))
        → (puts : List (K × V)) → Inside eq laws (out eq laws loop distinct) puts → (m : Machine K V) → IsWhole eq m → P m → P (after_all eq (scan puts) m)
    run_keeps P keeps [] inside m h holds = holds
    run_keeps P keeps (p ∷ puts) inside m h holds =
        run_keeps P keeps puts (inside_rest eq laws (out eq laws loop distinct) p puts inside) (after eq (Put p.0 p.1) m) (lasting-after eq laws (Put p.0 p.1) m h)
        (keeps p (inside_first eq laws (out eq laws loop distinct) p puts inside) m h holds)

    module _ (Ok Lost : Machine K V → Type 0) (Safe : K × V → List (K × V) → Machine K V → Type 0) (keeper : Keeper eq laws loop distinct Ok Lost Safe) where
      -- A key of the loop, at its place.

      module _ (front : List (K × V)) (x : K × V) (back : List (K × V)) (parts : loop ≡ front ++ x ∷ back) where
        next_round : (f : K × V → ℕ) → sum_by f loop ≡ f x + sum_by f (back ++ front)
        next_round f = omega (arith, ap (sum_by f) parts, sum_by-append f front (x ∷ back), sum_by-cons f x back, sum_by-append f back front)

        this_round : (f : K × V → ℕ) → sum_by f loop ≡ f x + sum_by f (front ++ back)
        this_round f = omega (arith, ap (sum_by f) parts, sum_by-append f front (x ∷ back), sum_by-cons f x back, sum_by-append f front back)

        inside_front : Inside eq laws (out eq laws loop distinct) front
        inside_front k =
            omega (arith, inside_loop eq laws loop distinct k, ap (sum_by (λ (p : K × V). one_if (eq p.0 k))) parts, sum_by-append (λ (p : K × V). one_if (eq p.0 k)) front (x ∷ back))

        inside_back : Inside eq laws (out eq laws loop distinct) (x ∷ back)
        inside_back k =
            omega (arith, inside_loop eq laws loop distinct k, ap (sum_by (λ (p : K × V). one_if (eq p.0 k))) parts, sum_by-append (λ (p : K × V). one_if (eq p.0 k)) front (x ∷ back))

        own : IsOwn eq laws loop distinct x
        own = inside_first eq laws (out eq laws loop distinct) x back inside_back

        module _ (m : Machine K V) (h : IsWhole eq m) (ok : Ok m) where
          abbrev before : Machine K V
          before = after_all eq (scan front) m

          abbrev at : Machine K V
          at = after eq (Put x.0 x.1) before

          before_whole : IsWhole eq before
          before_whole = lasting-run eq laws (scan front) m h

          at_whole : IsWhole eq at
          at_whole = lasting-after eq laws (Put x.0 x.1) before before_whole

          at_ok : Ok at
          at_ok = keeper.ok_next x own before before_whole (run_keeps Ok keeper.ok_next front inside_front m h ok)

          at_shares : at.shares ≡ m.shares
          at_shares = put_shares eq laws x.0 x.1 before before_whole ∙ run_shares front m h

          some_share : IsInSmall eq laws loop distinct x at → 0 < m.shares.small
          some_share there = omega (arith, there, count_by-le-length (λ (e : SmallEntry K). eq x.0 e.key) at.small, at_whole.small_within, ap (λ s. s.small) at_shares)

          -- in the next round it is known
          known_next : (0 < m.shares.small → length loop ≤ suc m.shares.history)
              → IsKnown eq laws loop distinct x (back ++ front) next_round Ok Lost Safe keeper (after_all eq (scan front) (after_all eq (scan loop) m))
          known_next remembers =
              subst (IsKnown eq laws loop distinct x (back ++ front) next_round Ok Lost Safe keeper) same_state
              (elim (after_access eq laws loop distinct x (back ++ front) next_round before before_whole) [
                | inl fresh ↦
                    inl (stays_run eq laws loop distinct x (back ++ front) next_round Ok Lost Safe keeper (back ++ front) (rest_apart eq laws loop distinct x (back ++ front) next_round [] (back ++ front) refl) at
                    at_whole (keeper.starts x (back ++ front) next_round [] (back ++ front) refl at at_whole at_ok fresh))
                | inr small ↦
                    small_run eq laws loop distinct x (back ++ front) next_round Ok Lost Safe keeper [] (back ++ front) refl at at_whole at_ok
                    (omega (
                      arith,
                      remembers (some_share small),
                      ap (length {A = K × V}) parts,
                      length-append front (x ∷ back),
                      length-append back front,
                      ap (λ s. s.history) at_shares,
                    )) small
              ]) where
                same_state : after_all eq (scan (back ++ front)) at ≡ after_all eq (scan front) (after_all eq (scan loop) m)
                same_state = run_append back front at ∙ sym (ap (after_all eq (scan front)) (ap (λ l. after_all eq (scan l) m) parts ∙ run_append front (x ∷ back) m))

      module _ (m : Machine K V) (h : IsWhole eq m) (ok : Ok m) (remembers : 0 < m.shares.small → length loop ≤ suc m.shares.history) where
        abbrev pub once : Machine K V
        once = after_all eq (scan loop) m

        abbrev pub twice : Machine K V
        twice = after_all eq (scan loop) once

        once_whole : IsWhole eq once
        once_whole = lasting-run eq laws (scan loop) m h

        once_ok : Ok once
        once_ok = run_keeps Ok keeper.ok_next loop (inside_loop eq laws loop distinct) m h ok

        module _ (kept : Lost twice → ⊥) where
          -- nothing is lost before the end of the second round
          not_lost : (front : List (K × V)) (x : K × V) (back : List (K × V)) → loop ≡ front ++ x ∷ back → Lost (after_all eq (scan front) once) → ⊥
          not_lost front x back parts lost =
              kept
              (subst Lost (sym (ap (λ l. after_all eq (scan l) once) parts ∙ run_append front (x ∷ back) once))
              (run_keeps Lost keeper.lost_next (x ∷ back) (inside_back front x back parts) (after_all eq (scan front) once) (lasting-run eq laws (scan front) once once_whole) lost))

          -- so in the second round no key enters Small
          none_admitted : (front : List (K × V)) (x : K × V) (back : List (K × V)) → loop ≡ front ++ x ∷ back → admissions_of eq (Put x.0 x.1) (after_all eq (scan front) once) ≡ 0
          none_admitted front x back parts = by_known (known_next front x back parts m h ok remembers) where
            e : Machine K V
            e = after_all eq (scan front) once

            resident : is_some (slot_of (eq x.0) e) ≡ true → admissions_of eq (Put x.0 x.1) e ≡ 0
            resident is = ap (λ b. if b then 0 else (if goes_to_main (list_any (eq x.0) e.history) e then 0 else 1)) is

            by_end : (0 < count_by (λ s. eq x.0 s.key) e.main) ⊎ Lost e → admissions_of eq (Put x.0 x.1) e ≡ 0
            by_end (inl main) = resident (resident_if eq laws (eq x.0) e (omega (arith, main)))
            by_end (inr lost) = absurd (not_lost front x back parts lost)

            by_known : IsKnown eq laws loop distinct x (back ++ front) (next_round front x back parts) Ok Lost Safe keeper e → admissions_of eq (Put x.0 x.1) e ≡ 0
            by_known (inl safe) = by_end (keeper.ends x e safe)
            by_known (inr (inl small)) = resident (resident_if eq laws (eq x.0) e (omega (arith, small)))
            by_known (inr (inr known)) = admits_none eq laws x.0 x.1 e (lasting-run eq laws (scan front) once once_whole) (inr known)

          none_from : (front back : List (K × V)) → loop ≡ front ++ back → summed eq (admissions_of eq) (scan back) (after_all eq (scan front) once) ≡ 0
          none_from front [] parts = refl
          none_from front (x ∷ back) parts =
              omega (
                arith,
                none_admitted front x back parts,
                ap (summed eq (admissions_of eq) (scan back)) (run_append front (x ∷ []) once),
                none_from (front ++ x ∷ []) back (parts ∙ sym (append_assoc front (x ∷ []) back)),
              )

          -- and at its end each key is resident
          held_at : (front : List (K × V)) (x : K × V) (back : List (K × V)) → loop ≡ front ++ x ∷ back → is_some (slot_of (eq x.0) twice) ≡ true
          held_at front x back parts = by_access (after_access eq laws loop distinct x (front ++ back) order e (lasting-run eq laws (scan front) once once_whole)) where
            e : Machine K V
            e = after_all eq (scan front) once

            n : Machine K V
            n = after eq (Put x.0 x.1) e

            whole : IsWhole eq n
            whole = lasting-after eq laws (Put x.0 x.1) e (lasting-run eq laws (scan front) once once_whole)

            order : (f : K × V → ℕ) → sum_by f loop ≡ f x + sum_by f (front ++ back)
            order = this_round front x back parts

            same_state : twice ≡ after_all eq (scan back) n
            same_state = ap (λ l. after_all eq (scan l) once) parts ∙ run_append front (x ∷ back) once

            by_end : (0 < count_by (λ s. eq x.0 s.key) twice.main) ⊎ Lost twice → is_some (slot_of (eq x.0) twice) ≡ true
            by_end (inl main) = resident_if eq laws (eq x.0) twice (omega (arith, main))
            by_end (inr lost) = absurd (kept lost)

            by_access : IsFresh eq laws loop distinct x n ⊎ IsInSmall eq laws loop distinct x n → is_some (slot_of (eq x.0) twice) ≡ true
            by_access (inl fresh) =
                by_end
                (keeper.ends x twice
                (subst (Safe x []) (sym same_state)
                (stays_run eq laws loop distinct x (front ++ back) order Ok Lost Safe keeper back (rest_apart eq laws loop distinct x (front ++ back) order front back refl) n whole
                (keeper.starts x (front ++ back) order front back refl n whole (at_ok front x back parts once once_whole once_ok) fresh))))
            by_access (inr small) =
                subst (λ s. is_some (slot_of (eq x.0) s) ≡ true) (sym same_state)
                (small_resident eq laws (eq x.0) (after_all eq (scan back) n)
                (in_small_still (eq x.0) eq (scan back) n (none_removed eq laws back).0 (any_counted (λ (s : SmallEntry K). eq x.0 s.key) n.small small)
                (omega (
                  arith,
                  ap (summed eq (admissions_of eq) (scan back)) (run_append front (x ∷ []) once),
                  none_from (front ++ x ∷ []) back (parts ∙ sym (append_assoc front (x ∷ []) back)),
                ))))

          -- all are
          pub all_held : AreHeld eq laws loop twice
          all_held = by_places eq laws (λ p. is_some (slot_of (eq p.0) twice) ≡ true) [] loop held_at

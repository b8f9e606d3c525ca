-- A loop that fits in Main beside the other keys that were hit there: from any state each access hits from the third round
-- on.
use Rattle.std.proofs.Common.{◌≡◌, ◌⊎◌, ℕ, suc, ◌+◌, ◌-◌, ◌<◌, ◌≤◌, Bool, true, false, not, ◌&&◌, List, [], ◌∷◌, ◌++◌, map, length, take, inl, inr, Option, Some, None, refl, sym, ap, ◌∙◌, arith, length-append}
use Rattle.std.specs.Prelude.{is_some}
use Rattle.std.specs.Cmp.{IsEquivalence}
use Rattle.std.specs.List.{sum_by, count_by, list_any, last_or, AllByRecursion, IsDistinct}
use Rattle.std.proofs.lemmas.Bool.{cases_lt, both_ways}
use Rattle.std.proofs.lemmas.List.{append_assoc}
use Rattle.std.proofs.lemmas.List.Sums.{sum_by-cons, sum_by-append}
use Rattle.clock2q_machine.specs.Shares.{main_share}
use Rattle.clock2q_machine.specs.Entries.{SmallEntry, MainEntry, small_admitted, behind_hand}
use Rattle.clock2q_machine.specs.Calls.{Put}
use Rattle.clock2q_machine.specs.Machine.{Machine, slot_of}
use Rattle.clock2q_machine.specs.Steps.{after, after_all}
use Rattle.clock2q_machine.specs.Lifetimes.{newer, is_remembered}
use Rattle.clock2q_machine.specs.Whole.{IsWhole}
use Rattle.clock2q_machine.specs.Scans.{scan}
use Rattle.clock2q_machine.specs.Loops.{AreDistinct, is_foreign}
use Rattle.clock2q_machine.proofs.Weights.{weight-small_hit, weight-admitted, weight-main_hit, weight-behind, weight-last}
use Rattle.clock2q_machine.proofs.Whole.{one_if, tail_some}
use Rattle.clock2q_machine.proofs.MachineInvariant.{lasting-after}
use Rattle.clock2q_machine.proofs.Standing.{key_count, count_at-le, found_counted}
use Rattle.clock2q_machine.proofs.Lifetimes.{remembered_still}
use Rattle.clock2q_machine.proofs.NewKeys.{put_shares}
use Rattle.clock2q_machine.proofs.FarApart.{Differ}
use Rattle.clock2q_machine.proofs.FirstRound.{any_counted, newest_first, evictions-le, lets_be}
use Rattle.clock2q_machine.proofs.SecondRound.{counted_any}
use Rattle.clock2q_machine.proofs.Changes.{Changes, Hit, Admit, EvictTail, Promote, Join, Replace, Hits, Evicts, Promotes, put_changes}
use Rattle.clock2q_machine.proofs.Spared.{clear_of, set_of, spared, hit_spares, new_spares}
use Rattle.clock2q_machine.proofs.Passed.{unpassed, new_passes, hit_passes}
use Rattle.clock2q_machine.proofs.KeptInMain.{unless, matches, in_main_of, in_main_cons, in_main_once, Inside, Apart, Stays}

ones : {X : Type 0} (xs : List X) → sum_by (λ _. 1) xs ≡ length xs
ones [] = refl
ones (x ∷ xs) = omega (arith, sum_by-cons (λ _. 1) x xs, ones xs)

pub resident_counted : {K V : Type 0} (is : K → Bool) (m : Machine K V) → is_some (slot_of is m) ≡ true → 0 < key_count is m
resident_counted {K} {V} is m resident = by_slot (slot_of is m) refl resident where
  by_slot : (o : Option ℕ) → slot_of is m ≡ o → is_some o ≡ true → 0 < key_count is m
  by_slot None absent some = cc
  by_slot (Some slot) found some = omega (arith, found_counted is m slot found, count_at-le is slot m)

module _ {K V : Type 0} (eq : K → K → Bool) where
  matches_cons : (p : K × V) (puts : List (K × V)) (k : K) → matches eq (p ∷ puts) k ≡ one_if (eq p.0 k) + matches eq puts k
  matches_cons p puts k = sum_by-cons (λ (q : K × V). one_if (eq q.0 k)) p puts

  -- the entries of Main, by the keys of a list
  in_main_entry : (puts : List (K × V)) (e : MainEntry K) (main : List (MainEntry K)) → in_main_of eq puts (e ∷ main) ≡ matches eq puts e.key + in_main_of eq puts main
  in_main_entry [] e main = refl
  in_main_entry (p ∷ puts) e main =
      omega (
        arith,
        in_main_cons eq p puts (e ∷ main),
        in_main_cons eq p puts main,
        matches_cons p puts e.key,
        sum_by-cons (λ (x : MainEntry K). one_if (eq p.0 x.key)) e main,
        in_main_entry puts e main,
      )

  module _ (laws : IsEquivalence eq) where
    matches_once : (puts : List (K × V)) → AreDistinct eq puts → (k : K) → matches eq puts k ≤ 1
    unfolding IsDistinct
    matches_once [] distinct k = omega arith
    matches_once (p ∷ puts) distinct k =
        (elim (eq p.0 k) as (λ b. eq p.0 k ≡ b → matches eq (p ∷ puts) k ≤ 1) [
          | true ↦ λ same. omega (arith, matches_cons p puts k, ap one_if same, none_later p k same puts distinct.0)
          | false ↦ λ other. omega (arith, matches_cons p puts k, ap one_if other, matches_once puts distinct.1 k)
        ]) refl where
          none_later : (p : K × V) (k : K) → eq p.0 k ≡ true → (later : List (K × V)) → AllByRecursion (λ y. eq p.0 y ≡ false) (map (λ q. q.0) later) → matches eq later k ≡ 0
          none_later p k same [] differ = refl
          none_later p k same (q ∷ later) differ =
              omega (arith, matches_cons q later k, ap one_if (sym (laws.congr p.0 k q.0 same ∙ laws.symm k q.0) ∙ differ.0), none_later p k same later differ.1)

    module _ (loop : List (K × V)) (distinct : AreDistinct eq loop) where
      abbrev pub out : K → Bool
      out k = is_foreign eq loop k

      pub inside_loop : Inside eq laws out loop
      inside_loop k = by_any (list_any (λ p. eq p.0 k) loop) refl where
        by_any : (b : Bool) → list_any (λ p. eq p.0 k) loop ≡ b → matches eq loop k + one_if (not b) ≤ 1
        by_any true any = omega (arith, matches_once loop distinct k)
        by_any false none = elim (cases_lt 0 (matches eq loop k)) [
          | inl some ↦ absurd (both_ways (list_any (λ p. eq p.0 k) loop) none (any_counted (λ p. eq p.0 k) loop some))
          | inr zero ↦ omega (arith, zero)
        ]

      -- an entry of Main has a key of the loop, or another with a clear bit or a set one
      entry_parted : (e : MainEntry K) → 1 ≤ matches eq loop e.key + one_if (out e.key && not e.bit) + one_if (out e.key && e.bit)
      entry_parted e = by_any (list_any (λ p. eq p.0 e.key) loop) refl where
        by_any : (b : Bool) → list_any (λ p. eq p.0 e.key) loop ≡ b → 1 ≤ matches eq loop e.key + one_if (not b && not e.bit) + one_if (not b && e.bit)
        by_any true any = omega (arith, counted_any (λ p. eq p.0 e.key) loop any)
        by_any false none = elim e.bit as (λ c. 1 ≤ matches eq loop e.key + one_if (true && not c) + one_if (true && c)) [ true ↦ omega arith | false ↦ omega arith ]

      main_parted : (main : List (MainEntry K)) → length main ≤ in_main_of eq loop main + clear_of out main + set_of out main
      main_parted [] = omega arith
      main_parted (e ∷ main) =
          omega (
            arith,
            entry_parted e,
            in_main_entry loop e main,
            sum_by-cons (λ (x : MainEntry K). one_if (out x.key && not x.bit)) e main,
            sum_by-cons (λ (x : MainEntry K). one_if (out x.key && x.bit)) e main,
            main_parted main,
          )

      abbrev pub Fits : Machine K V → Type 0
      Fits m = length loop + set_of out m.main ≤ main_share m.shares

      -- a key is in Main, the entries of other keys with a clear bit are evicted before it, and the hand passes those with a
      -- set one first
      abbrev pub IsFresh : K × V → Machine K V → Type 0
      IsFresh x m = (0 < count_by (λ e. eq x.0 e.key) m.main) × ((clear_of out m.main ≤ spared out (eq x.0) m.main) × (unpassed out (eq x.0) m.main ≡ 0))

      abbrev pub IsInSmall : K × V → Machine K V → Type 0
      IsInSmall x m = 0 < count_by (λ e. eq x.0 e.key) m.small

      abbrev pub IsOwn : K × V → Type 0
      IsOwn p = (k : K) → eq p.0 k ≡ true → out k ≡ false

      -- what keeps a fresh key in Main while the other keys are accessed, unless something is lost for good
      pub record Keeper (Ok Lost : Machine K V → Type 0) (Safe : K × V → List (K × V) → Machine K V → Type 0) : Type 0 where
        pub ok_next : (p : K × V) → IsOwn p → (m : Machine K V) → IsWhole eq m → Ok m → Ok (after eq (Put p.0 p.1) m)
        pub lost_next : (p : K × V) → IsOwn p → (m : Machine K V) → IsWhole eq m → Lost m → Lost (after eq (Put p.0 p.1) m)
        pub starts : (x : K × V) (others : List (K × V)) → ((f : K × V → ℕ) → sum_by f loop ≡ f x + sum_by f others) → (done rest : List (K × V)) → others ≡ done ++ rest
            → (m : Machine K V) → IsWhole eq m → Ok m → IsFresh x m → Safe x rest m
        pub next : (x p : K × V) (rest : List (K × V)) → Apart eq laws out x.0 (p ∷ rest) → (m : Machine K V) → IsWhole eq m → Safe x (p ∷ rest) m → Safe x rest (after eq (Put p.0 p.1) m)
        pub ends : (x : K × V) (m : Machine K V) → Safe x [] m → (0 < count_by (λ e. eq x.0 e.key) m.main) ⊎ Lost m

      -- a key of the loop, and the others in any order
      module _ (x : K × V) (others : List (K × V)) (order : (f : K × V → ℕ) → sum_by f loop ≡ f x + sum_by f others) where
        long : length loop ≡ suc (length others)
        long = omega (arith, ones loop, ones others, order (λ _. 1))

        foreign : (k : K) → eq x.0 k ≡ true → out k ≡ false
        foreign k same = unless (out k) (omega (arith, inside_loop k, order (λ p. one_if (eq p.0 k)), ap one_if same))

        pub rest_apart : (done rest : List (K × V)) → others ≡ done ++ rest → Apart eq laws out x.0 rest
        rest_apart done rest parts k =
            omega (
              arith,
              inside_loop k,
              order (λ p. one_if (eq p.0 k)),
              ap (sum_by (λ (p : K × V). one_if (eq p.0 k))) parts,
              sum_by-append (λ (p : K × V). one_if (eq p.0 k)) done rest,
            )

        pub begins : (done rest : List (K × V)) → others ≡ done ++ rest → (m : Machine K V) → IsWhole eq m → Fits m → IsFresh x m → Stays eq laws out x.0 rest m
        begins done rest parts m h fits fresh = record {
          there = fresh.0;
          spares =
              let g : K × V → ℕ = λ p. count_by (λ e. eq p.0 e.key) m.main in
              omega (
                arith,
                main_parted m.main,
                order g,
                ap (sum_by g) parts,
                sum_by-append g done rest,
                in_main_once eq m h done,
                h.keys_once x.0,
                long,
                ap (length {A = K × V}) parts,
                length-append done rest,
                fits,
                fresh.1.0,
              );
        }

        -- new in Main
        enters : (m : Machine K V) → IsWhole eq m → (key : K) (slot : ℕ) (before : List (MainEntry K)) → eq x.0 key ≡ true → m.main ≡ behind_hand key slot before → IsFresh x m
        enters m h key slot before same main =
            let g : MainEntry K → ℕ = λ e. one_if (eq x.0 e.key) in
            let counted = weight-behind g (λ e bit. refl) key slot before in
            let none : count_by (λ e. eq x.0 e.key) before ≡ 0 = omega (arith, h.keys_once x.0, ap (sum_by g) main, counted, ap one_if same) in (
              omega (arith, ap (sum_by g) main, counted, ap one_if same),
              (
                omega (arith, ap (clear_of out) main, ap (spared out (eq x.0)) main, new_spares out (eq x.0) key slot before same (foreign key same) none),
                ap (unpassed out (eq x.0)) main ∙ new_passes out (eq x.0) key slot before same none,
              ),
            )

        module _ (m : Machine K V) (h : IsWhole eq m) where
          abbrev pub accessed : Machine K V
          accessed = after eq (Put x.0 x.1) m

          -- after its access the key is in Small, or fresh in Main
          pub after_access : IsFresh x accessed ⊎ IsInSmall x accessed
          after_access = by_change (put_changes eq laws x.0 x.1 m h) where
            g : SmallEntry K → ℕ
            g e = one_if (eq x.0 e.key)

            admitted : (slot : ℕ) (small : List (SmallEntry K)) → accessed.small ≡ small_admitted m.shares.window x.0 slot small → IsInSmall x accessed
            admitted slot small is = omega (arith, ap (sum_by g) is, weight-admitted g (λ e age. refl) m.shares.window x.0 slot small, ap one_if (laws.refl x.0))

            hits : Hits (eq x.0) x.0 m accessed → IsFresh x accessed ⊎ IsInSmall x accessed
            hits c = elim (cases_lt 0 (count_by (λ e. eq x.0 e.key) m.small)) [
              | inl some ↦ inr (omega (arith, some, ap (sum_by g) c.small, weight-small_hit g (λ e age. refl) (eq x.0) m.small))
              | inr none ↦
                  let f : MainEntry K → ℕ = λ e. one_if (eq x.0 e.key) in
                  let there : 0 < count_by (λ e. eq x.0 e.key) m.main = omega (arith, none, resident_counted (eq x.0) m c.resident) in
                  inl (
                    omega (arith, ap (sum_by f) c.main, weight-main_hit f (λ e bit. refl) (eq x.0) m.main, there),
                    (
                      omega (arith, ap (clear_of out) c.main, ap (spared out (eq x.0)) c.main, hit_spares out (eq x.0) foreign m.main there),
                      ap (unpassed out (eq x.0)) c.main ∙ hit_passes out (eq x.0) m.main,
                    ),
                  )
            ]

            by_change : Changes (eq x.0) x.0 m accessed → IsFresh x accessed ⊎ IsInSmall x accessed
            by_change (Hit c) = hits c
            by_change (Admit c) = inr (admitted c.slot m.small c.small)
            by_change (EvictTail c) = inr (admitted c.slot (take (length m.small - 1) m.small) c.small)
            by_change (Promote full c) = inr (admitted c.slot (take (length m.small - 1) m.small) c.small)
            by_change (Join c) = inl (enters accessed (lasting-after eq laws (Put x.0 x.1) m h) x.0 c.slot m.main (laws.refl x.0) c.main)
            by_change (Replace c) = inl (enters accessed (lasting-after eq laws (Put x.0 x.1) m h) x.0 c.slot c.others (laws.refl x.0) c.main)

        -- While the others are accessed, a key of Main stays, and one of Small stays, goes to Main or is remembered.

        module _ (Ok Lost : Machine K V → Type 0) (Safe : K × V → List (K × V) → Machine K V → Type 0) (keeper : Keeper Ok Lost Safe) where
          module _ (p : K × V) (done rest : List (K × V)) (parts : others ≡ done ++ p ∷ rest) (m : Machine K V) (h : IsWhole eq m) (fits : Ok m) where
            abbrev later : Machine K V
            later = after eq (Put p.0 p.1) m

            abbrev Keeps : Type 0
            Keeps = Safe x rest later ⊎ (IsInSmall x later ⊎ ((is_remembered (eq x.0) later ≡ true) × (newer (eq x.0) later.history ≡ 0)))

            whole_later : IsWhole eq later
            whole_later = lasting-after eq laws (Put p.0 p.1) m h

            own : IsOwn p
            own k same = unless (out k) (omega (arith, rest_apart done (p ∷ rest) parts k, matches_cons p rest k, ap one_if same))

            fits_later : Ok later
            fits_later = keeper.ok_next p own m h fits

            keeps : 0 < m.shares.history → IsInSmall x m → Keeps
            keeps room there = by_change (put_changes eq laws p.0 p.1 m h) where
              g : SmallEntry K → ℕ
              g e = one_if (eq x.0 e.key)

              admitted : (slot : ℕ) (small : List (SmallEntry K)) → later.small ≡ small_admitted m.shares.window p.0 slot small → 0 < sum_by g small → IsInSmall x later
              admitted slot small is some = omega (arith, ap (sum_by g) is, weight-admitted g (λ e age. refl) m.shares.window p.0 slot small, some)

              without : (tail : SmallEntry K) → last_or None m.small ≡ Some tail → sum_by g (take (length m.small - 1) m.small) + one_if (eq x.0 tail.key) ≡ sum_by g m.small
              without tail last = (weight-last g None m.small tail (tail_some m.small tail last) last).0

              evicts : (c : Evicts (eq p.0) p.0 m later) (b : Bool) → eq x.0 c.tail.key ≡ b → Keeps
              evicts c true own =
                  let first = newest_first (eq x.0) c.tail.key own m.shares.history room c.history.0 in
                  inr (inr (ap (list_any (eq x.0)) c.history.1 ∙ first.0, ap (newer (eq x.0)) c.history.1 ∙ first.1))
              evicts c false other = inr (inl (admitted c.slot (take (length m.small - 1) m.small) c.small (omega (arith, there, without c.tail c.last, ap one_if other))))

              promotes : (c : Promotes (eq p.0) p.0 m later) (b : Bool) → eq x.0 c.tail.key ≡ b → Keeps
              promotes c true own =
                  inl (keeper.starts x others order (done ++ p ∷ []) rest (parts ∙ sym (append_assoc done (p ∷ []) rest)) later whole_later fits_later (enters later whole_later c.tail.key c.tail.slot c.others own c.main))
              promotes c false other = inr (inl (admitted c.slot (take (length m.small - 1) m.small) c.small (omega (arith, there, without c.tail c.last, ap one_if other))))

              by_change : Changes (eq p.0) p.0 m later → Keeps
              by_change (Hit c) = inr (inl (omega (arith, there, ap (sum_by g) c.small, weight-small_hit g (λ e age. refl) (eq p.0) m.small)))
              by_change (Admit c) = inr (inl (admitted c.slot m.small c.small there))
              by_change (EvictTail c) = evicts c (eq x.0 c.tail.key) refl
              by_change (Promote full c) = promotes c (eq x.0 c.tail.key) refl
              by_change (Join c) = inr (inl (omega (arith, there, ap (sum_by g) c.small)))
              by_change (Replace c) = inr (inl (omega (arith, there, ap (sum_by g) c.small)))

          differ_of : (rest : List (K × V)) → Apart eq laws out x.0 rest → Differ eq x.0 rest
          differ_of [] apart = tt
          differ_of (q ∷ rest) apart = (
            laws.symm q.0 x.0 ∙ unless (eq x.0 q.0) (omega (arith, apart q.0, matches_cons q rest q.0, ap one_if (laws.refl q.0))),
            differ_of rest (λ k. omega (arith, apart k, matches_cons q rest k)),
          )

          pub stays_run : (rest : List (K × V)) → Apart eq laws out x.0 rest → (m : Machine K V) → IsWhole eq m → Safe x rest m → Safe x [] (after_all eq (scan rest) m)
          stays_run [] apart m h stays = stays
          stays_run (p ∷ rest) apart m h stays =
              stays_run rest (λ k. omega (arith, apart k, matches_cons p rest k)) (after eq (Put p.0 p.1) m) (lasting-after eq laws (Put p.0 p.1) m h) (keeper.next x p rest apart m h stays)

          abbrev pub IsKnown : Machine K V → Type 0
          IsKnown m = Safe x [] m ⊎ (IsInSmall x m ⊎ (is_remembered (eq x.0) m ≡ true))

          pub small_run : (done rest : List (K × V)) → others ≡ done ++ rest → (m : Machine K V) → IsWhole eq m → Ok m → length rest ≤ m.shares.history → IsInSmall x m → IsKnown (after_all eq (scan rest) m)
          small_run done [] parts m h fits remembers there = inr (inl there)
          small_run done (p ∷ rest) parts m h fits remembers there =
              let n = after eq (Put p.0 p.1) m in
              let apart = rest_apart (done ++ p ∷ []) rest (parts ∙ sym (append_assoc done (p ∷ []) rest)) in
              let same = ap (λ s. s.history) (put_shares eq laws p.0 p.1 m h) in
              let whole = whole_later p done rest parts m h fits in
              elim (keeps p done rest parts m h fits (omega (arith, remembers)) there) [
                | inl stays ↦ inl (stays_run rest apart n whole stays)
                | inr (inl small) ↦
                    small_run (done ++ p ∷ []) rest (parts ∙ sym (append_assoc done (p ∷ []) rest)) n whole (fits_later p done rest parts m h fits) (omega (arith, remembers, same)) small
                | inr (inr gone) ↦
                    inr (inr (remembered_still eq laws x.0 (scan rest) n (lets_be eq laws x.0 rest (differ_of rest apart)) gone.0 (omega (arith, gone.1, evictions-le eq laws rest n, remembers, same))))
              ]

-- A key that a full cache doesn't know is put: it enters Small, whose tail leaves for the history or is promoted to Main.
use Rattle.std.proofs.Common.{◌≡◌, ◌⊎◌, ℕ, ◌-◌, ◌<◌, ◌==◌, Bool, true, false, not, ◌||◌, ◌&&◌, cond, List, [], ◌∷◌, length, take, inl, inr, Option, Some, None, refl, sym, ap, ◌∙◌, subst, arith, ne_eqb}
use Rattle.std.specs.Prelude.{if◌then◌else◌, is_some, nat_le}
use Rattle.std.specs.Cmp.{IsEquivalence}
use Rattle.std.specs.List.{count_by, filter, list_any, last_or, AllByRecursion}
use Rattle.std.proofs.lemmas.Bool.{lt-ltb}
use Rattle.std.proofs.lemmas.List.Sums.{sum_by-cons}
use Rattle.std.proofs.Math.ListN.{length-set}
use Rattle.clock2q_machine.specs.Ages.{is_promoted}
use Rattle.clock2q_machine.specs.Shares.{main_share}
use Rattle.clock2q_machine.specs.Entries.{SmallEntry, MainEntry, small_admitted, from_victim, behind_hand}
use Rattle.clock2q_machine.specs.Calls.{Put}
use Rattle.clock2q_machine.specs.Machine.{Machine, Placement, forgotten, placement, inserted, goes_to_main, into_main, into_small, into_small_at, evicting_tail, promoting_tail, slot_of, vacancy, vacant_slot}
use Rattle.clock2q_machine.specs.Steps.{replaced_at, after, after_all}
use Rattle.clock2q_machine.specs.Whole.{IsWhole, known_count}
use Rattle.clock2q_machine.specs.Scans.{scan, IsFullCache, IsScan, AreNew}
use Rattle.clock2q_machine.proofs.Weights.{sum_by-filter-le, length-from_victim}
use Rattle.clock2q_machine.proofs.Whole.{one_if, last_some, no_vacancy, all_resident}
use Rattle.clock2q_machine.proofs.MachineInvariant.{placed-key, lasting-after}
use Rattle.clock2q_machine.proofs.Standing.{absent_if}

pub none_passes : {X : Type 0} (p : X → Bool) (xs : List X) → count_by p xs ≡ 0 → list_any p xs ≡ false
none_passes p [] none = refl
none_passes p (x ∷ xs) none =
    (elim (p x) as (λ b. p x ≡ b → (b || list_any p xs) ≡ false) [
      | true ↦ λ is. absurd (omega (arith, sum_by-cons (λ y. one_if (p y)) x xs, ap one_if is, none))
      | false ↦ λ is. none_passes p xs (omega (arith, sum_by-cons (λ y. one_if (p y)) x xs, ap one_if is, none))
    ]) refl

all_stay : {X : Type 0} (p : X → Bool) (xs : List X) → count_by p xs ≡ 0 → filter (λ x. not (p x)) xs ≡ xs
all_stay p [] none = refl
all_stay p (x ∷ xs) none =
    (elim (p x) as (λ b. p x ≡ b → cond (not b) (x ∷ filter (λ y. not (p y)) xs) (filter (λ y. not (p y)) xs) ≡ x ∷ xs) [
      | true ↦ λ is. absurd (omega (arith, sum_by-cons (λ y. one_if (p y)) x xs, ap one_if is, none))
      | false ↦ λ is. ap (λ l. x ∷ l) (all_stay p xs (omega (arith, sum_by-cons (λ y. one_if (p y)) x xs, ap one_if is, none)))
    ]) refl

pub share_some : (share : ℕ) → 0 < share → (share == 0) ≡ false
share_some share some = ne_eqb share 0 (λ e. omega (arith, e, some))

module _ {K V : Type 0} where
  -- Small's tail leaves for the history
  pub record LeavesForHistory (tail : SmallEntry K) (m n : Machine K V) : Type 0 where
    pub goes : is_promoted tail.age ≡ false
    pub main : n.main ≡ m.main
    pub history : n.history ≡ take m.shares.history (tail.key ∷ m.history)

  -- it is promoted to Main, whose victim leaves
  pub record LeavesForMain (tail : SmallEntry K) (m n : Machine K V) : Type 0 where
    pub goes : is_promoted tail.age ≡ true
    pub victim : MainEntry K
    pub others : List (MainEntry K)
    pub choice : from_victim m.main ≡ victim ∷ others
    pub main : n.main ≡ behind_hand tail.key tail.slot others
    pub history : n.history ≡ m.history

  -- the key enters Small in place of its tail
  pub record EntersFor (key : K) (tail : SmallEntry K) (m n : Machine K V) : Type 0 where
    pub slot : ℕ
    pub small : n.small ≡ small_admitted m.shares.window key slot (take (length m.small - 1) m.small)
    pub leaves : LeavesForHistory tail m n ⊎ LeavesForMain tail m n
    pub free : n.free ≡ m.free

  enters : (key : K) (tail : SmallEntry K) (m : Machine K V) → 0 < length m.main → EntersFor key tail m (into_small_at key None (Some tail) m).machine
  enters key tail m some =
      (elim (is_promoted tail.age)
      as (λ b. is_promoted tail.age ≡ b → EntersFor key tail m (if b then promoting_tail key tail (from_victim m.main) m else evicting_tail key tail m).machine) [
        | true ↦ λ goes. promoted goes (from_victim m.main) refl
        | false ↦ λ goes. record { slot = tail.slot; small = refl; leaves = inl (record { goes = goes; main = refl; history = refl }); free = refl }
      ]) refl where
        promoted : is_promoted tail.age ≡ true → (es : List (MainEntry K)) → from_victim m.main ≡ es → EntersFor key tail m (promoting_tail key tail es m).machine
        promoted goes [] choice = absurd (omega (arith, some, ap (length {A = MainEntry K}) choice, length-from_victim m.main))
        promoted goes (victim ∷ others) choice = record {
          slot = victim.slot;
          small = refl;
          leaves = inr (record { goes = goes; victim = victim; others = others; choice = choice; main = refl; history = refl });
          free = refl;
        }

module _ {K V : Type 0} (eq : K → K → Bool) (laws : IsEquivalence eq) where
  -- a put keeps the shares
  pub put_shares : (key : K) (value : V) (m : Machine K V) → IsWhole eq m → (after eq (Put key value) m).shares ≡ m.shares
  put_shares key value m h = by_slot (slot_of (eq key) m) refl where
    by_slot : (o : Option ℕ) → slot_of (eq key) m ≡ o → (if is_some o then replaced_at (eq key) value o m else inserted (eq key) key value m).shares ≡ m.shares
    by_slot None absent = (placed-key eq laws key m h absent).shares
    by_slot (Some slot) found = refl

  -- a full cache has as many entries in Small and in Main as their shares
  module _ (m : Machine K V) (h : IsWhole eq m) (full : IsFullCache m) where
    pub full_small : length m.small ≡ m.shares.small
    full_small = omega (arith, all_resident eq m h full.no_vacancy, h.main_within, h.small_within, h.small_below)

    pub full_main : length m.main ≡ main_share m.shares
    full_main = omega (arith, all_resident eq m h full.no_vacancy, h.main_within, h.small_within, h.small_below)

  module _ (key : K) (m : Machine K V) (h : IsWhole eq m) (unknown : known_count (eq key) m ≡ 0) (value : V) where
    absent : slot_of (eq key) m ≡ None
    absent = absent_if (eq key) m (omega (arith, unknown))

    put_inserts : inserted (eq key) key value m ≡ after eq (Put key value) m
    put_inserts = ap (λ o. if is_some o then replaced_at (eq key) value o m else inserted (eq key) key value m) (sym absent)

    -- only its own key becomes known
    pub still_unknown : (other : K) → eq other key ≡ false → known_count (eq other) m ≡ 0 → known_count (eq other) (after eq (Put key value) m) ≡ 0
    still_unknown other differs none =
        subst (λ n. known_count (eq other) n ≡ 0) put_inserts
        (omega (
          arith,
          (placed-key eq laws key m h absent).known (eq other),
          ap one_if differs,
          sum_by-filter-le (λ k. one_if (eq other k)) (λ k. not (eq key k)) m.history,
          none,
        ))

    module _ (full : IsFullCache m) where
      abbrev rest : Machine K V
      rest = forgotten (eq key) m

      abbrev placed_at : Placement K V
      placed_at = placement (eq key) key m

      small_goes : goes_to_main (list_any (eq key) m.history) m ≡ false
      small_goes =
          let vacant : Bool = is_some (vacancy m) && nat_le m.shares.small (length m.small) in
          ap (λ b. b || (m.shares.small == 0) || vacant) (none_passes (eq key) m.history (omega (arith, unknown)))
          ∙ ap (λ b. false || b || vacant) (share_some m.shares.small full.small_share)
          ∙ ap (λ v. false || false || (is_some v && nat_le m.shares.small (length m.small))) full.no_vacancy

      forgets_none : forgotten (eq key) m ≡ m
      forgets_none = ap (λ history. record m { history = history }) (all_stay (eq key) m.history (omega (arith, unknown)))

      pub small_some : 0 < length m.small
      small_some = omega (arith, full_small m h full, full.small_share)

      tail_there : (small : List (SmallEntry K)) → 0 < length small → (tail : SmallEntry K) × (last_or None small ≡ Some tail)
      tail_there [] some = absurd (omega (arith, some))
      tail_there (e ∷ small) some = last_some small e

      pub tail_of : (tail : SmallEntry K) × (last_or None m.small ≡ Some tail)
      tail_of = tail_there m.small small_some

      placed_enters : EntersFor key tail_of.0 m placed_at.machine
      placed_enters =
          subst (λ b. EntersFor key tail_of.0 m (if b then into_main key rest else into_small key rest).machine) (sym small_goes)
          (subst (λ v. EntersFor key tail_of.0 m (into_small_at key v (last_or None m.small) rest).machine) (sym full.no_vacancy)
          (subst (λ t. EntersFor key tail_of.0 m (into_small_at key None t rest).machine) (sym tail_of.1)
          (subst (λ r. EntersFor key tail_of.0 m (into_small_at key None (Some tail_of.0) r).machine) (sym forgets_none)
          (enters key tail_of.0 m (omega (arith, full_main m h full, h.small_below))))))

      pub new_enters : EntersFor key tail_of.0 m (after eq (Put key value) m)
      new_enters =
          let p = placed_enters in
          subst (EntersFor key tail_of.0 m) put_inserts (record { slot = p.slot; small = p.small; leaves = by_leaves p.leaves; free = p.free }) where
            by_leaves : LeavesForHistory tail_of.0 m placed_at.machine ⊎ LeavesForMain tail_of.0 m placed_at.machine
                → LeavesForHistory tail_of.0 m (inserted (eq key) key value m) ⊎ LeavesForMain tail_of.0 m (inserted (eq key) key value m)
            by_leaves (inl l) = inl (record { goes = l.goes; main = l.main; history = l.history })
            by_leaves (inr l) = inr (record { goes = l.goes; victim = l.victim; others = l.others; choice = l.choice; main = l.main; history = l.history })

      made_same : length (after eq (Put key value) m).values ≡ length m.values
      made_same =
          let placed = placed-key eq laws key m h absent in
          ap (λ n. length {A = V} n.values) (sym put_inserts)
          ∙ elim placed.slots [
            | inl keeps ↦
                let made : placed_at.slot < length placed_at.machine.values = rw placed.values keeps.made in
                rw (lt-ltb placed_at.slot (length placed_at.machine.values) made) (length-set placed_at.machine.values placed_at.slot value ∙ ap (length {A = V}) placed.values)
            | inr makes ↦ absurd (omega (arith, makes.vacant, (no_vacancy m.free (length m.values) m.shares.capacity full.no_vacancy).1))
          ]

      pub full_still : IsFullCache (after eq (Put key value) m)
      full_still =
          let n = after eq (Put key value) m in
          record {
            small_share = subst (λ s. 0 < s.small) (sym (put_shares key value m h)) full.small_share;
            no_vacancy =
                ap (λ free. vacant_slot free (length n.values) n.shares.capacity) new_enters.free
                ∙ ap (λ made. vacant_slot m.free made n.shares.capacity) made_same
                ∙ ap (λ s. vacant_slot m.free (length m.values) s.capacity) (put_shares key value m h)
                ∙ full.no_vacancy;
          }

  -- through a list of keys each of which is new when its turn comes
  pub shares_run : (puts : List (K × V)) (m : Machine K V) → IsWhole eq m → AreNew eq puts m → (after_all eq (scan puts) m).shares ≡ m.shares
  shares_run [] m h new = refl
  shares_run (p ∷ puts) m h new = shares_run puts (after eq (Put p.0 p.1) m) (lasting-after eq laws (Put p.0 p.1) m h) new.1 ∙ put_shares p.0 p.1 m h

  pub full_run : (puts : List (K × V)) (m : Machine K V) → IsWhole eq m → IsFullCache m → AreNew eq puts m → IsFullCache (after_all eq (scan puts) m)
  full_run [] m h full new = full
  full_run (p ∷ puts) m h full new =
      full_run puts (after eq (Put p.0 p.1) m) (lasting-after eq laws (Put p.0 p.1) m h) (full_still p.0 m h new.0 p.1 full) new.1

  -- a scan is such a list
  pub scan_new : (puts : List (K × V)) (m : Machine K V) → IsWhole eq m → IsScan eq puts m → AreNew eq puts m
  scan_new [] m h scans = tt
  scan_new (p ∷ puts) m h scans = (
    scans.0,
    scan_new puts (after eq (Put p.0 p.1) m) (lasting-after eq laws (Put p.0 p.1) m h) (goes_on puts scans.1.0 scans.1.1),
  ) where
    goes_on : (later : List (K × V)) → AllByRecursion (λ q. eq q.0 p.0 ≡ false) later → IsScan eq later m → IsScan eq later (after eq (Put p.0 p.1) m)
    goes_on [] differ unknown = tt
    goes_on (q ∷ later) differ unknown = (still_unknown p.0 m h scans.0 p.1 q.0 differ.0 unknown.0, (unknown.1.0, goes_on later differ.1 unknown.1.1))

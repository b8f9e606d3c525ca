-- What a put changes in the three lists: a hit, or one of five ways in.
use Rattle.std.proofs.Common.{◌≡◌, ℕ, ◌-◌, ◌<◌, ◌==◌, Bool, true, false, ◌||◌, ◌&&◌, List, [], ◌∷◌, length, take, inl, inr, Option, Some, None, refl, sym, ap, ◌∙◌, arith}
use Rattle.std.specs.Prelude.{if◌then◌else◌, is_some, nat_le}
use Rattle.std.specs.Cmp.{IsEquivalence}
use Rattle.std.specs.List.{list_any, last_or}
use Rattle.std.proofs.lemmas.Bool.{eqb-true, eqb-false, le-ltb, cases_lt, and_parts, leb-true}
use Rattle.clock2q_machine.specs.Shares.{main_share}
use Rattle.clock2q_machine.specs.Ages.{is_promoted}
use Rattle.clock2q_machine.specs.Entries.{SmallEntry, MainEntry, small_hit, main_hit, small_admitted, from_victim, behind_hand}
use Rattle.clock2q_machine.specs.Calls.{Put}
use Rattle.clock2q_machine.specs.Machine.{Machine, forgotten, inserted, placement, goes_to_main, into_main, into_small, into_small_at, evicting_tail, promoting_tail, replacing_victim, joining_main, slot_of, vacancy, vacant_slot}
use Rattle.clock2q_machine.specs.Steps.{replaced_at, after}
use Rattle.clock2q_machine.specs.Whole.{IsWhole}
use Rattle.clock2q_machine.proofs.Weights.{length-from_victim}
use Rattle.clock2q_machine.proofs.Whole.{all_resident, empty_small, small_share, below_of}

module _ {K V : Type 0} (is : K → Bool) (key : K) (m n : Machine K V) where
  -- the key is resident
  pub record Hits : Type 0 where
    pub resident : is_some (slot_of is m) ≡ true
    pub small : n.small ≡ small_hit is m.small
    pub main : n.main ≡ main_hit is m.main
    pub history : n.history ≡ m.history

  -- it enters Small at a vacancy
  pub record Admits : Type 0 where
    pub absent : slot_of is m ≡ None
    pub slot : ℕ
    pub small : n.small ≡ small_admitted m.shares.window key slot m.small
    pub main : n.main ≡ m.main

  -- in place of its tail, which leaves for the history
  pub record Evicts : Type 0 where
    pub absent : slot_of is m ≡ None
    pub slot : ℕ
    pub tail : SmallEntry K
    pub last : last_or None m.small ≡ Some tail
    pub small : n.small ≡ small_admitted m.shares.window key slot (take (length m.small - 1) m.small)
    pub main : n.main ≡ m.main
    pub history : (later : List K) × (n.history ≡ take m.shares.history (tail.key ∷ later))

  -- in place of its tail, which is promoted to a full Main
  pub record Promotes : Type 0 where
    pub absent : slot_of is m ≡ None
    pub slot : ℕ
    pub tail : SmallEntry K
    pub last : last_or None m.small ≡ Some tail
    pub goes : is_promoted tail.age ≡ true
    pub small : n.small ≡ small_admitted m.shares.window key slot (take (length m.small - 1) m.small)
    pub victim : MainEntry K
    pub others : List (MainEntry K)
    pub choice : from_victim m.main ≡ victim ∷ others
    pub main : n.main ≡ behind_hand tail.key tail.slot others

  -- it enters Main, which has room
  pub record Joins : Type 0 where
    pub absent : slot_of is m ≡ None
    pub slot : ℕ
    pub room : length m.main < main_share m.shares
    pub small : n.small ≡ m.small
    pub main : n.main ≡ behind_hand key slot m.main

  -- or is full, and then the key is remembered, or Small has no share
  pub record Replaces : Type 0 where
    pub absent : slot_of is m ≡ None
    pub belongs : (list_any is m.history || (m.shares.small == 0)) ≡ true
    pub slot : ℕ
    pub full : length m.main ≡ main_share m.shares
    pub small : n.small ≡ m.small
    pub victim : MainEntry K
    pub others : List (MainEntry K)
    pub choice : from_victim m.main ≡ victim ∷ others
    pub main : n.main ≡ behind_hand key slot others

  pub data Changes : Type 0 where
    Hit : Hits → Changes
    Admit : Admits → Changes
    EvictTail : Evicts → Changes
    Promote : length m.main ≡ main_share m.shares → Promotes → Changes
    Join : Joins → Changes
    Replace : Replaces → Changes

-- if no slot is free and there is a vacancy, a slot was never made
vacant_room : (free : List ℕ) (made capacity : ℕ) → is_some (vacant_slot free made capacity) ≡ true → length free ≡ 0 → made < capacity
vacant_room (s ∷ free) made capacity vacant none = absurd (omega (arith, none))
vacant_room [] made capacity vacant none = elim (cases_lt made capacity) [
  | inl less ↦ less
  | inr more ↦ absurd (false_true (sym (ap (λ b. is_some (if b then Some made else None)) (le-ltb made capacity more)) ∙ vacant))
] where
  false_true : false ≡ true → ⊥
  false_true e = cc

-- a full Main takes a key that belongs there, and not one that only finds Small full
pub belongs_there : {K V : Type 0} (eq : K → K → Bool) (m : Machine K V) → IsWhole eq m → length m.main ≡ main_share m.shares
    → (b : Bool) → (b || (is_some (vacancy m) && nat_le m.shares.small (length m.small))) ≡ true → b ≡ true
belongs_there eq m h full true goes = refl
belongs_there eq m h full false goes =
    let parts = and_parts (is_some (vacancy m)) (nat_le m.shares.small (length m.small)) goes in
    let many = leb-true m.shares.small (length m.small) parts.1 in
    let none : length m.free ≡ 0 = omega (arith, many, full, h.slots_counted, h.made_within, h.small_below) in
    absurd (omega (arith, vacant_room m.free (length m.values) m.shares.capacity parts.0 none, many, full, h.slots_counted, h.small_below))

module _ {K V : Type 0} (eq : K → K → Bool) (laws : IsEquivalence eq) (key : K) (value : V) (m : Machine K V) (h : IsWhole eq m) where
  abbrev rest : Machine K V
  rest = forgotten (eq key) m

  module _ (gone : slot_of (eq key) m ≡ None) where
    into_main_by : goes_to_main (list_any (eq key) m.history) m ≡ true → (b : Bool) → (length m.main == main_share m.shares) ≡ b → (es : List (MainEntry K)) → from_victim m.main ≡ es
        → (v : Option ℕ) → vacancy m ≡ v → Changes (eq key) key m (if b then replacing_victim key es rest else joining_main key v rest).machine
    into_main_by goes true full [] choice v is =
        absurd (omega (arith, h.small_below, eqb-true (length m.main) (main_share m.shares) full, ap (length {A = MainEntry K}) choice, length-from_victim m.main))
    into_main_by goes true full (victim ∷ others) choice v is =
        let filled = eqb-true (length m.main) (main_share m.shares) full in
        Replace (record {
          absent = gone;
          belongs = belongs_there eq m h filled (list_any (eq key) m.history || (m.shares.small == 0)) goes;
          slot = victim.slot;
          full = filled;
          small = refl;
          victim = victim;
          others = others;
          choice = choice;
          main = refl;
        })
    into_main_by goes false room es choice None is = absurd (omega (arith, all_resident eq m h is, h.small_within, h.main_within, h.small_below, eqb-false (length m.main) (main_share m.shares) room))
    into_main_by goes false room es choice (Some slot) is = Join (record { absent = gone; slot = slot; room = below_of (length m.main) (main_share m.shares) h.main_within room; small = refl; main = refl })

    promoting : (tail : SmallEntry K) → last_or None m.small ≡ Some tail → is_promoted tail.age ≡ true → vacancy m ≡ None → (es : List (MainEntry K)) → from_victim m.main ≡ es
        → Changes (eq key) key m (promoting_tail key tail es rest).machine
    promoting tail last goes none [] choice =
        absurd (omega (arith, all_resident eq m h none, h.small_within, h.small_below, ap (length {A = MainEntry K}) choice, length-from_victim m.main))
    promoting tail last goes none (victim ∷ others) choice =
        Promote (omega (arith, all_resident eq m h none, h.small_within, h.main_within, h.small_below))
        (record { absent = gone; slot = victim.slot; tail = tail; last = last; goes = goes; small = refl; victim = victim; others = others; choice = choice; main = refl })

    into_small_by : 0 < m.shares.small → (t : Option (SmallEntry K)) → last_or None m.small ≡ t → (v : Option ℕ) → vacancy m ≡ v
        → Changes (eq key) key m (into_small_at key v t rest).machine
    into_small_by some t last (Some slot) is = Admit (record { absent = gone; slot = slot; small = refl; main = refl })
    into_small_by some None last None is = absurd (omega (arith, all_resident eq m h is, h.main_within, h.small_below, empty_small m.small last, some))
    into_small_by some (Some tail) last None is =
        (elim (is_promoted tail.age)
        as (λ b. is_promoted tail.age ≡ b → Changes (eq key) key m (if b then promoting_tail key tail (from_victim m.main) rest else evicting_tail key tail rest).machine) [
          | true ↦ λ goes. promoting tail last goes is (from_victim m.main) refl
          | false ↦ λ _. EvictTail (record { absent = gone; slot = tail.slot; tail = tail; last = last; small = refl; main = refl; history = (rest.history, refl) })
        ]) refl

    share_if : (known vacant : Bool) → (known || (m.shares.small == 0) || vacant) ≡ false → 0 < m.shares.small
    share_if true vacant e = cc
    share_if false vacant e = small_share m.shares.small vacant e

    placed : Changes (eq key) key m (placement (eq key) key m).machine
    placed =
        (elim (goes_to_main (list_any (eq key) m.history) m)
        as (λ b. goes_to_main (list_any (eq key) m.history) m ≡ b → Changes (eq key) key m (if b then into_main key rest else into_small key rest).machine) [
          | true ↦ λ goes. into_main_by goes (length m.main == main_share m.shares) refl (from_victim m.main) refl (vacancy m) refl
          | false ↦ λ goes.
              into_small_by (share_if (list_any (eq key) m.history) (is_some (vacancy m) && nat_le m.shares.small (length m.small)) goes) (last_or None m.small) refl (vacancy m) refl
        ]) refl

  -- a value that is stored changes none of the lists
  in_lists : (n stores : Machine K V) → stores.small ≡ n.small → stores.main ≡ n.main → stores.history ≡ n.history → Changes (eq key) key m n → Changes (eq key) key m stores
  in_lists n stores small main history (Hit c) = Hit (record { resident = c.resident; small = small ∙ c.small; main = main ∙ c.main; history = history ∙ c.history })
  in_lists n stores small main history (Admit c) = Admit (record { absent = c.absent; slot = c.slot; small = small ∙ c.small; main = main ∙ c.main })
  in_lists n stores small main history (EvictTail c) =
      EvictTail (record { absent = c.absent; slot = c.slot; tail = c.tail; last = c.last; small = small ∙ c.small; main = main ∙ c.main; history = (c.history.0, history ∙ c.history.1) })
  in_lists n stores small main history (Promote full c) =
      Promote full (record { absent = c.absent; slot = c.slot; tail = c.tail; last = c.last; goes = c.goes; small = small ∙ c.small; victim = c.victim; others = c.others; choice = c.choice; main = main ∙ c.main })
  in_lists n stores small main history (Join c) = Join (record { absent = c.absent; slot = c.slot; room = c.room; small = small ∙ c.small; main = main ∙ c.main })
  in_lists n stores small main history (Replace c) =
      Replace (record { absent = c.absent; belongs = c.belongs; slot = c.slot; full = c.full; small = small ∙ c.small; victim = c.victim; others = c.others; choice = c.choice; main = main ∙ c.main })

  -- a put changes the lists in one of these ways
  pub put_changes : Changes (eq key) key m (after eq (Put key value) m)
  put_changes = by_slot (slot_of (eq key) m) refl where
    by_slot : (o : Option ℕ) → slot_of (eq key) m ≡ o → Changes (eq key) key m (if is_some o then replaced_at (eq key) value o m else inserted (eq key) key value m)
    by_slot None absent = in_lists (placement (eq key) key m).machine (inserted (eq key) key value m) refl refl refl (placed absent)
    by_slot (Some slot) found = Hit (record { resident = ap is_some found; small = refl; main = refl; history = refl })

-- The resident that leaves for a key, and what comes back of it.
use Rattle.clock2q_cache.proofs.Names.{arith, ◌≡◌, ℕ, ◌<◌, Bool, false, List, length, Option, Some, None, refl, sym, ap, ◌∙◌, subst, eq-eqb, Bor, IsSomeAnd, IfSome, MatchOption, Once, FnOnceReturnsAt, if◌then◌else◌, is_some, slice_get, list_any, option_and_then, option_map, slice_get_within, main_share, Machine, Placement, slot_of, value_of, stored, inserted, IsWhole, Fills, into_queue, stored_same, Put, first_of, leaves_for, leaves_for_main, victim_of, IsAdmitted, leaves_placed, Notes}
use Rattle.clock2q_machine.specs.Entries.{from_victim}
use Rattle.clock2q_machine.specs.Leaving.{with_value}
use Rattle.clock2q_cache.proofs.Making.{small-unknown, placed-there, placed-values}

-- a closure was called with the key that leaves
pub noted : {F K R : Type 0} (g : Once F (Bor K × Unit {0}) R) {f : F} {leaver : Option (K × ℕ)} {slot : ℕ} {key : Bor K} {note : R}
    → leaver ≡ Some (key.now, slot) → g.post f (key, tt) note → Notes g f leaver slot (Some note)
noted g {f} {leaver} {slot} {key} leaves called = record { noted = (key.now, leaves, (key, called, refl)) }

module _ {K V : Type 0} (m : Machine K V) where
  -- for a key that enters Main
  pub full-leaver : length m.main ≡ main_share m.shares → leaves_for_main m ≡ first_of (from_victim m.main)
  full-leaver full = ap (λ b. if b then first_of (from_victim m.main) else None) (eq-eqb (length m.main) (main_share m.shares) full)

-- what `map` returns if its closure returns `f` of a value
pub map-gives : {X Y : Type 0} (f : X → Y) {P : X → Y → Type 0} (o : Option X) (r : Option Y) → MatchOption o (r ≡ None) (λ x. IsSomeAnd r (P x)) → ((x : X) (y : Y) → P x y → y ≡ f x)
    → r ≡ option_map f o
map-gives f o r is same = grind arith

-- what comes back of the resident that leaves, with the value of its slot
module _ {K V : Type 0} (m : Machine K V) where
  abbrev pub handed : Option (K × ℕ) → Option (K × V)
  handed leaver = option_map (λ (v : K × (ℕ × V)). (v.0, v.1.1)) (with_value m leaver)

  -- with a closure that returned the key itself
  module _ {F : Type 0} {g : Once F (Bor K × Unit {0}) K} {f : F} {leaver : Option (K × ℕ)} {slot : ℕ} {left : Option K} (n : Notes g f leaver slot left) where
    pub hands-over : {out : Option (K × ℕ)} → leaver ≡ out → ((key note : K) → FnOnceReturnsAt g f key note → note ≡ key) → {value : V} → slice_get m.values slot ≡ Some value
        → (o : Option K) → left ≡ o → option_map (λ (key : K). (key, value)) o ≡ handed out
    hands-over {out} is same {value} there o found = ap (λ o. option_map (λ (key : K). (key, value)) o) (sym found) ∙ by left n.noted ∙ ap handed is where
      by : (o : Option K) → MatchOption o (leaver ≡ None) (λ note. (key : K) × (leaver ≡ Some (key, slot)) × FnOnceReturnsAt g f key note) → option_map (λ (key : K). (key, value)) o ≡ handed leaver
      by None none = sym (ap handed none)
      by (Some note) e =
          ap (λ k. Some (k, value)) (same e.0 note e.2)
          ∙ sym (ap handed e.1 ∙ ap (λ (o : Option V). option_map (λ (v : K × (ℕ × V)). (v.0, v.1.1)) (option_map (λ v. (e.0, (slot, v))) o)) there)

-- of a put of a key that isn't resident
pub victim-handed : {K V : Type 0} (eq : K → K → Bool) (m : Machine K V) (key : K) (value : V) → slot_of (eq key) m ≡ None
    → handed m (leaves_for (list_any (eq key) m.history) m) ≡ option_map (λ (v : K × (ℕ × V)). (v.0, v.1.1)) (victim_of eq (Put key value) m)
victim-handed eq m key value absent = sym (ap (λ (o : Option ℕ). handed m (if is_some o then None else leaves_for (list_any (eq key) m.history) m)) absent)

-- the same once the key's history is erased
module _ {K V : Type 0} {is : K → Bool} {m m1 : Machine K V} {main : Bool} (s : IsAdmitted is m m1 main) where
  pub leaver-there : leaves_placed main m1 ≡ leaves_for (list_any is m.history) m
  leaver-there = ap (leaves_placed main) s.erased ∙ ap (λ b. leaves_placed b m) s.goes

-- a key that isn't resident has no value, and a resident has that of its slot
module _ {K V : Type 0} (is : K → Bool) (m : Machine K V) (P : V → Type 0) where
  pub none-had : slot_of is m ≡ None → IfSome (value_of is m) P
  none-had absent = subst (λ o. IfSome (option_and_then (slice_get m.values) o) P) (sym absent) tt

  pub had-before : {slot : ℕ} {value : V} → slot_of is m ≡ Some slot → slice_get m.values slot ≡ Some value → P value → IfSome (value_of is m) P
  had-before found there p = subst (λ o. IfSome o P) (sym (ap (option_and_then (slice_get m.values)) found ∙ there)) p

-- a key that is placed without a value leaves the values as they are, and its slot can be given one
module _ {K V : Type 0} (eq : K → K → Bool) (key : K) {m m1 : Machine K V} {main : Bool} (s : IsAdmitted (eq key) m m1 main) (h : IsWhole eq m1) {slot : ℕ} {new : Machine K V}
    (at : slot ≡ (into_queue main key m1).slot) (f : Fills None (into_queue main key m1) m1 new) where
  abbrev p : Placement K V
  p = into_queue main key m1

  values : p.machine.values ≡ m1.values
  values = placed-values eq m1 h key main (small-unknown eq key s)

  kept : new ≡ p.machine
  kept = f.becomes ∙ stored_same p.machine p.slot f.held (ap (λ vs. slice_get vs p.slot) values ∙ f.is)

  same : new.values ≡ m1.values
  same = ap (λ (z : Machine K V). z.values) kept ∙ values

  pub slot-made : slot < length new.values
  slot-made = subst (λ (z : List V). slot < length z) (sym same) (subst (λ z. z < length m1.values) (sym at) (slice_get_within m1.values p.slot f.held f.is))

  pub slot-had : {value : V} → slice_get new.values slot ≡ Some value → slice_get m.values slot ≡ Some value
  slot-had is = ap (λ vs. slice_get vs slot) (sym (same ∙ ap (λ (z : Machine K V). z.values) s.erased)) ∙ is

  pub slot-stored : (value : V) → stored slot value new ≡ inserted (eq key) key value m
  slot-stored value = ap (λ z. stored z value new) at ∙ ap (stored p.slot value) kept ∙ ap (λ (q : Placement K V). stored q.slot value q.machine) (placed-there eq key s)

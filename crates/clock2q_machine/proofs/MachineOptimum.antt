-- Clock2Q+ is a demand policy, whatever its shares: it hits no more keys of a trace than the optimum.
use Rattle.std.proofs.Common.{◌≡◌, ◌⊎◌, inl, inr, ℕ, ◌<◌, ◌≤◌, ◌==◌, Bool, true, false, ◌||◌, cond, eqb, List, [], ◌∷◌, map, length, length-append, Option, Some, None, refl, sym, ap, ◌∙◌}
use Rattle.std.proofs.Common.{arith, eqb-true}
use Rattle.std.specs.Prelude.{is_some, slice_get}
use Rattle.std.specs.Cmp.{nat_eq_equiv}
use Rattle.std.specs.List.{find}
use Rattle.std.specs.Option.{option_map, option_and_then}
use Rattle.std.proofs.lemmas.Bool.{cases_Bool}
use Rattle.std.proofs.lemmas.List.{length-map}
use Rattle.clock2q_machine.specs.Shares.{Shares}
use Rattle.clock2q_machine.specs.Calls.{Put}
use Rattle.clock2q_machine.specs.Machine.{Machine, empty, residents, slot_of, value_of}
use Rattle.clock2q_machine.specs.Whole.{IsWhole}
use Rattle.clock2q_machine.specs.Hits.{hits, is_in}
use Rattle.clock2q_machine.specs.MachineHits.{machine_holds, machine_after}
use Rattle.clock2q_machine.specs.Optimum.{optimal_hits, IsDemandPolicy}
use Rattle.clock2q_machine.proofs.MachineInvariant.{lasting-after, lasting-empty, resident_made}
use Rattle.clock2q_machine.proofs.Standing.{get-within}
use Rattle.clock2q_machine.proofs.Laws.{put_there, others_had}
use Rattle.clock2q_machine.proofs.NewKeys.{put_shares}
use Rattle.clock2q_machine.proofs.Optimum.{optimum}

abbrev resident_keys : Machine ℕ (Unit {0}) → List ℕ
resident_keys m = map (λ r. r.0) (residents m)

found_is_in : (key : ℕ) (rs : List (ℕ × ℕ)) → is_some (option_map (λ r. r.1) (find (λ r. key == r.0) rs)) ≡ is_in key (map (λ r. r.0) rs)
found_is_in key [] = refl
found_is_in key (r ∷ rs) =
    (elim (key == r.0) as (λ b. is_some (option_map (λ x. x.1) (cond b (Some r) (find (λ x. key == x.0) rs))) ≡ (b || is_in key (map (λ x. x.0) rs)))
    [ true ↦ refl | false ↦ found_is_in key rs ])
    ∙ ap (λ b. b || is_in key (map (λ x. x.0) rs)) (nat_eq_equiv.symm key r.0)

-- a machine of these shares
pub record IsCacheOf (shares : Shares) (m : Machine ℕ (Unit {0})) : Type 0 where
  pub whole : IsWhole eqb m
  pub same_shares : m.shares ≡ shares

some_unit : (o : Option (Unit {0})) → is_some o ≡ true → o ≡ Some tt
some_unit None is = absurd cc
some_unit (Some v) is = refl

module _ (key : ℕ) (m : Machine ℕ (Unit {0})) (h : IsWhole eqb m) where
  with_value : (o : Option ℕ) → slot_of (eqb key) m ≡ o → is_some (option_and_then (slice_get m.values) o) ≡ is_some o
  with_value None absent = refl
  with_value (Some slot) found =
      let v = get-within m.values slot (resident_made eqb nat_eq_equiv (eqb key) m h slot found) in
      ap {B = Bool} is_some v.1

  has_keys : machine_holds key m ≡ is_in key (resident_keys m)
  has_keys = with_value (slot_of (eqb key) m) refl ∙ found_is_in key (residents m)

  others_before : (other : ℕ) → machine_holds other (machine_after key m) ≡ true → (key ≡ other) ⊎ (machine_holds other m ≡ true)
  others_before other there = elim (cases_Bool (other == key)) [
    | inl same ↦ inl (sym (eqb-true other key same))
    | inr apart ↦
        let had : value_of (eqb other) m ≡ Some tt = others_had eqb nat_eq_equiv m h (Put key tt) other apart tt (some_unit (value_of (eqb other) (machine_after key m)) there) in
        inr (ap {B = Bool} is_some had)
  ]

room_for_residents : (m : Machine ℕ (Unit {0})) → IsWhole eqb m → length (resident_keys m) ≤ m.shares.capacity
room_for_residents m h = omega (
  arith,
  h.slots_counted,
  h.made_within,
  length-map (residents m) (λ r. r.0),
  length-append {A = ℕ × ℕ} (map (λ e. (e.key, e.slot)) m.small) (map (λ e. (e.key, e.slot)) m.main),
  length-map {B = ℕ × ℕ} m.small (λ e. (e.key, e.slot)),
  length-map {B = ℕ × ℕ} m.main (λ e. (e.key, e.slot)),
)

module _ (shares : Shares) where
  pub machine_is_demand : IsDemandPolicy (IsCacheOf shares) machine_holds machine_after shares.capacity
  machine_is_demand = record {
    goes_on = λ key m is. record {
      whole = lasting-after eqb nat_eq_equiv (Put key tt) m is.whole;
      same_shares = put_shares eqb nat_eq_equiv key tt m is.whole ∙ is.same_shares;
    };
    comes = λ key m is. ap {B = Bool} is_some (put_there eqb nat_eq_equiv m is.whole key tt);
    on_demand = λ key other m is there. others_before key m is.whole other there;
    held = resident_keys;
    listed = λ key m is. has_keys key m is.whole;
    room = λ m is. omega (arith, room_for_residents m is.whole, ap (λ s. s.capacity) is.same_shares);
  }

  pub machine_optimum : shares.small < shares.capacity → (trace : List ℕ) → hits machine_holds machine_after trace (empty shares) ≤ optimal_hits shares.capacity trace
  machine_optimum below trace =
      let is_new : IsCacheOf shares (empty shares) = record { whole = lasting-empty eqb nat_eq_equiv shares below; same_shares = refl } in
      optimum (IsCacheOf shares) machine_holds machine_after shares.capacity machine_is_demand trace (empty shares) is_new (λ key. refl)

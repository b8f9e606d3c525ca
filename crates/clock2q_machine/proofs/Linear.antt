-- A list of calls in linear time: the hand inspects no more entries than there are calls and bits that were set before.
use Rattle.std.proofs.Common.{◌≡◌, ℕ, ◌+◌, ◌≤◌, Bool, true, false, not, ◌&&◌, List, [], ◌∷◌, length, Option, Some, None, refl, arith}
use Rattle.std.specs.Prelude.{if◌then◌else◌, is_some}
use Rattle.std.specs.Cmp.{IsEquivalence}
use Rattle.std.proofs.lemmas.List.Sums.{sum_by-le-sum_by}
use Rattle.clock2q_machine.specs.Entries.{MainEntry}
use Rattle.clock2q_machine.specs.Calls.{Call, Put, Get, Peek, Contains, GetAt, Set, With, Try, SlotFor, Remove, Retain, Clear, Evict, Prefill, Len, IsEmpty, Capacity}
use Rattle.clock2q_machine.specs.Machine.{Machine, slot_of, victim_leaves}
use Rattle.clock2q_machine.specs.Steps.{is_at, after, after_all}
use Rattle.clock2q_machine.specs.Bounds.{set_bits, settings_of_hit, takes_victim, inspections_of, main_victims, settings, summed}
use Rattle.clock2q_machine.specs.Whole.{IsWhole}
use Rattle.clock2q_machine.proofs.Clock.{run_bounded, no_settings}
use Rattle.clock2q_machine.proofs.MachineInvariant.{lasting-after}
use Rattle.clock2q_machine.proofs.Standing.{fewer}
use Rattle.clock2q_machine.proofs.Whole.{one_if}

module _ {K V : Type 0} (eq : K → K → Bool) where
  module _ (m : Machine K V) (h : IsWhole eq m) where
    -- a hit sets at most one bit
    one_setting : (key : K) → settings_of_hit (eq key) m ≤ 1
    one_setting key =
        omega (arith, h.keys_once key, sum_by-le-sum_by (λ (e : MainEntry K). one_if (eq key e.key && not e.bit)) (λ e. one_if (eq key e.key)) m.main (λ e. fewer (eq key e.key) (not e.bit)))

    one_wanted : (key : K) (o : Option ℕ) → slot_of (eq key) m ≡ o → (if is_some o then 0 else (if takes_victim (eq key) m then 1 else 0)) + settings_of_hit (eq key) m ≤ 1
    one_wanted key (Some slot) found = omega (arith, one_setting key)
    one_wanted key None absent =
        elim (takes_victim (eq key) m) as (λ b. (if b then 1 else 0) + settings_of_hit (eq key) m ≤ 1)
        [ true ↦ omega (arith, no_settings (eq key) m absent) | false ↦ omega (arith, no_settings (eq key) m absent) ]

    -- a call has one victim in Main or sets one bit there, and not both
    pub one_paid : (call : Call K V) → main_victims eq call m + settings eq call m ≤ 1
    one_paid (Put key value) = one_wanted key (slot_of (eq key) m) refl
    one_paid (Get key) = omega (arith, one_setting key)
    one_paid (Peek key) = omega arith
    one_paid (Contains key) = omega arith
    one_paid (GetAt slot key) =
        elim (is_at slot (slot_of (eq key) m)) as (λ b. 0 + (if b then settings_of_hit (eq key) m else 0) ≤ 1) [ true ↦ omega (arith, one_setting key) | false ↦ omega arith ]
    one_paid (Set key value) = omega (arith, one_setting key)
    one_paid (With key value) = one_wanted key (slot_of (eq key) m) refl
    one_paid (Try key (Some value)) = one_wanted key (slot_of (eq key) m) refl
    one_paid (Try key None) = omega (arith, one_setting key)
    one_paid (SlotFor key fresh) = one_wanted key (slot_of (eq key) m) refl
    one_paid (Remove key) = omega arith
    one_paid (Retain bits) = omega arith
    one_paid Clear = omega arith
    one_paid Evict = elim (victim_leaves m) as (λ b. (if b then 1 else 0) + 0 ≤ 1) [ true ↦ omega arith | false ↦ omega arith ]
    one_paid (Prefill values) = omega arith
    one_paid Len = omega arith
    one_paid IsEmpty = omega arith
    one_paid Capacity = omega arith

  module _ (laws : IsEquivalence eq) where
    all_paid : (calls : List (Call K V)) (m : Machine K V) → IsWhole eq m → summed eq (main_victims eq) calls m + summed eq (settings eq) calls m ≤ length calls
    all_paid [] m h = omega arith
    all_paid (call ∷ calls) m h = omega (arith, one_paid m h call, all_paid calls (after eq call m) (lasting-after eq laws call m h))

    -- so a list of calls has no more inspections than calls and set bits
    pub linear_inspections : (calls : List (Call K V)) (m : Machine K V) → IsWhole eq m → summed eq (inspections_of eq) calls m + set_bits (after_all eq calls m) ≤ length calls + set_bits m
    linear_inspections calls m h = omega (arith, all_paid calls m h, run_bounded eq calls m)

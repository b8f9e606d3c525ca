-- What removing the entry that a search found results in.
use Rattle.std.proofs.Common.{◌≡◌, ℕ, suc, ◌+◌, ◌-◌, ◌%◌, ◌<◌, ◌≤◌, refl, ap, sym, ◌∙◌, arith, Bool, true, false, List, ◌∷◌, length, Option}
use Rattle.std.proofs.lemmas.List.Folds.{list_any-append}
use Rattle.std.specs.List.{list_any}
use Rattle.clock2q_handles.specs.Found.{FindsAt, TakesOut, TakesOutAt}
use Rattle.clock2q_handles.specs.Homes.{capacity, listed, total, is_entry_of, without_handle, without_first}
use Rattle.clock2q_handles.specs.Layout.{Placed, slot_at, reach, longest_reach, homes_of, met, run, IsTidy}
use Rattle.clock2q_handles.specs.Table.{IsTable}
use Rattle.clock2q_handles.proofs.layout.Laid.{met-same}
use Rattle.clock2q_handles.proofs.layout.Reaching.{run-above}
use Rattle.clock2q_handles.proofs.layout.Reading.{slot-again, slots_again}
use Rattle.clock2q_handles.proofs.layout.TidyLayout.{tidy-total}
use Rattle.clock2q_handles.proofs.shifts.Carrying.{come_at, slot_from}
use Rattle.clock2q_handles.proofs.shifts.Removals.{without_first-at}
use Rattle.clock2q_handles.proofs.shifts.Shifts.{closed-ordered, closed-within, opened-entries, own-before, own-after, others-kept, with_list-read}
use Rattle.clock2q_handles.proofs.shifts.Steps.{past_home}

module _ {E : Type 0} {test : E → Bool} {slots : List (Option (Placed E))} where
  -- a slot where an entry was found is occupied
  pub found_occupied : {h s : ℕ} → FindsAt test slots h s → 0 < reach (slot_at slots s)
  found_occupied {h} {s} found = omega (arith, ap reach (slot_from slots h found.distance s found.slot), ap reach found.finds.here)

  -- an entry of the home of x, seen from x
  pub found_at : {x s : ℕ} → FindsAt test slots (x % length slots) s → FindsAt test slots x s
  found_at {x} {s} found =
      let past = past_home slots (length slots) (x % length slots) x refl refl in
      let come = come_at slots x found.distance s (record { slot = found.slot; within = found.within; passed = found.passed }) in
      grind (arith, come, found.finds, past, met-same (slot_at slots) (slot_at slots) x (x % length slots) 0 found.distance (λ j _ _. sym (past j)))

  -- removing the entry in that slot removes the first that passes
  pub found_taken : {x s : ℕ} → FindsAt test slots (x % length slots) s → {new : List (Option (Placed E))} {before after : ℕ} → TakesOutAt slots new s before after → TakesOut test slots new x before after
  found_taken {x} {s} at taken =
      let found = found_at at in
      let closed = taken.closes x found.distance found.finds.entry (record { slot = found.slot; within = found.within; passed = found.passed }) found.finds.here in
      record { distance = found.distance; vacancy = closed.0; within = found.within; finds = found.finds; closes = closed.1; written = closed.2; len = taken.len }

-- what a removal results in: the lists without the entry, which was there, and the writes
pub record Removal {H : Type 0} (eq : H → H → Bool) (x : ℕ) (v : H) (others slots : List (Option (Placed (ℕ × H)))) (len before after : ℕ) : Type 0 where
  pub homes : homes_of slots ≡ without_handle eq (homes_of others) x v
  pub found : list_any (is_entry_of eq x v) (listed (homes_of others) x) ≡ true
  pub total_less : suc (total (homes_of slots)) ≡ len
  pub table : IsTable slots (len - 1)
  pub counted : before ≤ after
  pub writes : after ≤ before + run others x

pub removal : {H : Type 0} (eq : H → H → Bool) (x : ℕ) (v : H) (others slots : List (Option (Placed (ℕ × H)))) (len before after : ℕ)
    → IsTable others len → TakesOut (is_entry_of eq x v) others slots x before after → Removal eq x v others slots len before after
removal eq x v others slots len before after table taken =
    let test = is_entry_of eq x v in
    let A = slot_at slots in
    let n : ℕ = taken.distance in
    let rest : ℕ = taken.vacancy - n in
    let opens = taken.closes.opens in
    let again = slots_again slots (length others) taken.len in
    let fewer = opened-entries slots others taken.len refl opens in
    let ordered = closed-ordered opens again (slot-again others) table.tidy.ordered taken.closes.ends taken.closes.occupied in
    let tidy : IsTidy slots = record { ordered = ordered; room = omega (arith, table.tidy.room, fewer, ap capacity taken.len) } in
    let own = own-before slots others taken.len refl opens ordered table.tidy.ordered taken.closes.ends in
    let was = own-after slots others taken.len refl opens ordered table.tidy.ordered taken.closes.ends in
    let kept = others-kept slots others taken.len refl opens ordered table.tidy.ordered taken.closes.ends in
    let none : list_any test (met A x 0 n) ≡ false = ap (list_any test) (met-same A (slot_at others) x x 0 n (λ j _ l. sym (opens.before j (omega (arith, l))))) ∙ taken.finds.none_before in
    let less : suc (total (homes_of slots)) ≡ len = omega (arith, fewer, tidy-total slots tidy, tidy-total others table.tidy, table.counted) in
    let without : listed (homes_of slots) x ≡ without_first test (listed (homes_of others) x) =
    own ∙ sym (ap (without_first test) was ∙ without_first-at test (met A x 0 n) (met A x n rest) taken.finds.entry none taken.finds.passes) in
    let homes = with_list-read others slots x (without_first test (listed (homes_of others) x)) taken.len (omega (arith, taken.within)) without (λ h other. sym (kept h other)) in
    let found : list_any test (listed (homes_of others) x) ≡ true = grind (arith, was, taken.finds.passes, list_any-append test (met A x 0 n) (taken.finds.entry ∷ met A x n rest)) in
    let near = closed-within opens again (slot-again others) longest_reach table.near in
    let writes = run-above others x (suc taken.vacancy) opens.upto (λ j l. taken.closes.occupied j (omega (arith, l))) in
    let left : IsTable slots (len - 1) = grind (arith, less, tidy, taken.len, table.slot_count, near) in
    grind (arith, homes, found, less, left, taken.written, opens.from, writes)

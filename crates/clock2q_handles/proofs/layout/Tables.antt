-- What holds of every table, at the start and as callers see it.
use Rattle.std.proofs.Common.{◌+◌, ◌≡◌, ℕ, zero, suc, ◌-◌, ◌*◌, ◌/◌, ◌%◌, ◌<◌, inl, inr, refl, ap, sym, ◌∙◌, subst, arith, List, [], length, replicate, Option, None, pow-add, pow_mono}
use Rattle.std.proofs.lemmas.Bool.{cases_lt}
use Rattle.std.proofs.lemmas.List.{length-replicate}
use Rattle.std.proofs.lemmas.List.Folds.{sum_by-replicate}
use Rattle.clock2q_handles.specs.Homes.{capacity, listed, count, total, no_entries}
use Rattle.clock2q_handles.specs.Layout.{Placed, spill, reach, layout, layout_upto, homes_of, IsTidy, IsTooLong}
use Rattle.clock2q_handles.specs.TableStep.{table_value, made_for, fit}
use Rattle.clock2q_handles.specs.Slots.{IsSlotCount}
use Rattle.clock2q_handles.specs.Table.{IsTable, IsWholeTable}
use Rattle.std.proofs.lemmas.Option.{slice_get_cases}
use Rattle.clock2q_handles.proofs.layout.Reading.{get_or-same}
use Rattle.clock2q_handles.proofs.layout.TidyLayout.{length-homes_of, tidy-layout, tidy-room, read-laid, layout-tidy, layout-read}

module _ (E : Type 0) where
  -- m empty slots
  abbrev pub empty : ℕ → List (Option (Placed E))
  empty m = replicate m None

  pub total-nothing : (m : ℕ) → total (no_entries {E = E} m) ≡ 0
  total-nothing m = omega (arith, sum_by-replicate {X = List E} length m [])

  pub length-nothing : (m : ℕ) → length (no_entries {E = E} m) ≡ m
  length-nothing m = length-replicate m []

  empty_upto : (m k : ℕ) → layout_upto (no_entries {E = E} m) k ≡ empty m
  empty_upto m zero = ap empty (length-nothing m)
  empty_upto m (suc k) = grind (arith, get_or-same {X = List E}, empty_upto m k)

  -- without entries every slot is empty
  pub layout-nothing : (m : ℕ) → layout (no_entries {E = E} m) ≡ empty m
  unfolding layout
  layout-nothing m = empty_upto m (length (no_entries {E = E} m))

  pub homes_of-empty : (m : ℕ) → homes_of (empty m) ≡ no_entries m
  homes_of-empty m = ap homes_of (sym (layout-nothing m)) ∙ layout-read (no_entries {E = E} m) (omega (arith, total-nothing m))

module _ (H : Type 0) where
  -- empty slots make a table
  pub table-empty : (m : ℕ) → IsSlotCount m → IsTable (empty (ℕ × H) m) 0
  table-empty m is_count = record {
    tidy = subst IsTidy (layout-nothing (ℕ × H) m) (layout-tidy (no_entries {E = ℕ × H} m) (omega (arith, total-nothing (ℕ × H) m)));
    counted = sym (ap total (homes_of-empty (ℕ × H) m) ∙ total-nothing (ℕ × H) m);
    slot_count = subst IsSlotCount (sym (length-replicate m None)) is_count;
    near = λ n. omega (arith, ap reach (get_or-same {X = Option (Placed (ℕ × H))} m (n % length (empty (ℕ × H) m)) None));
  }

  -- and the table has no entries
  pub view-empty : (m : ℕ) → table_value (homes_of (empty (ℕ × H) m)) (empty (ℕ × H) m) 0 0 ≡ table_value (no_entries {E = ℕ × H} m) (layout (no_entries {E = ℕ × H} m)) 0 0
  view-empty m = grind (arith, homes_of-empty, layout-nothing)

  pub made_for-some : (n : ℕ) → 0 < n → made_for {H = H} n ≡ no_entries (fit n)
  made_for-some zero some = absurd (omega (arith, some))
  made_for-some (suc n) some = refl

module _ {H : Type 0} (slots : List (Option (Placed (ℕ × H)))) (len : ℕ) (table : IsTable slots len) where
  -- no entry of a table is too far past its home
  pub table-short : IsTooLong (homes_of slots) → ⊥
  table-short long =
      let h : ℕ = long.0 in
      let i : ℕ = count (homes_of slots) h - 1 in
      grind (arith, long, length-homes_of slots, read-laid slots table.tidy, slice_get_cases (listed (homes_of slots) h) i, table.near (h + spill (count (homes_of slots)) (length slots) h + i))

  -- so callers may rely on all of it
  pub table-whole : (writes reads : ℕ) → IsWholeTable (table_value (homes_of slots) slots writes reads)
  table-whole writes reads = grind (arith, tidy-layout, length-homes_of, tidy-room, table-short)

-- 0 is a slot count
pub no_slots : IsSlotCount 0
no_slots = record { power = λ some. absurd (omega (arith, some)); least = λ some. absurd (omega (arith, some)) }

-- the capacity, by quarters of the slots
pub capacity_quarters : (m : ℕ) → IsSlotCount m → m / 4 * 3 ≡ capacity m
capacity_quarters m is_count = elim (cases_lt 0 m) [
  | inl some ↦ let p = is_count.power some in grind (arith, cases_lt 2 p.0, p.1, pow-add 2 (p.0 - 2) 2, pow_mono {i = p.0} {j = 2}, is_count.least some)
  | inr none ↦ omega arith
]

-- tables without entries
pub ruleset emptied = (homes_of-empty, made_for-some, view-empty, layout-nothing)

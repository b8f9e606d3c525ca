-- The hits of a trace with sizes in caches for a number of bytes.
use Rattle.std.specs.Prelude.{◌≡◌, ℕ, ◌-◌, Bool, false, true, List, [], length, map, take}
use Rattle.std.specs.List.{All, filter}
use Rattle.std.specs.NonZero.{non_zero_usize_get}
use Rattle.std.specs.declared.num.NonZeroUsize.{NonZeroUsize}
use Rattle.clock2q_machine.specs.Hits.{hit_count}
use Rattle.simulator_policies.specs.declared.plain.PlainPolicy.TheVariants as plain
use Rattle.simulator_policies.specs.ByteCaches.{byte_outcomes}
use Rattle.simulator_interface.specs.declared.policy.Policy.{Policy}
use Rattle.simulator_interface.specs.declared.policy.Policy.TheVariants.{LeastRecentlyUsed, FirstInFirstOut}
use Rattle.simulator_interface.specs.declared.row.Row.{Row}
use Rattle.simulator_interface.specs.PolicyNames.{has_bytes}
use Rattle.simulator_traces.specs.Bytes.{asked_between, hit_between}
use Rattle.simulator_traces.specs.Trace.{Numbered, sizes_of}

module _ (numbers sizes : List ℕ) (capacity : ℕ) where
  -- outcomes are those of the policy's definition over keys of unequal sizes; a policy that has none is only tested
  abbrev pub AreByteOutcomes : Policy → List Bool → Type 0
  AreByteOutcomes LeastRecentlyUsed outcomes = outcomes ≡ byte_outcomes plain.LeastRecentlyUsed capacity numbers sizes
  AreByteOutcomes FirstInFirstOut outcomes = outcomes ≡ byte_outcomes plain.FirstInFirstOut capacity numbers sizes
  AreByteOutcomes _ outcomes = Unit {0}

  -- there is an outcome for each access
  pub record IsByteReplay (policy : Policy) (outcomes : List Bool) : Type 0 where
    pub long : length outcomes ≡ length numbers
    pub are : AreByteOutcomes policy outcomes

module _ (skipped : ℕ) (numbers sizes : List ℕ) where
  -- the hits after the skipped accesses, all minus those of the skipped ones, and their bytes
  pub record AreByteHits (capacity : ℕ) (policy : Policy) (counted summed : ℕ) : Type 0 where
    pub outcomes : List Bool
    pub replay : IsByteReplay numbers sizes capacity policy outcomes
    pub hits : counted ≡ hit_count outcomes - hit_count (take skipped outcomes)
    pub bytes : summed ≡ hit_between skipped (length numbers) outcomes sizes

  -- a row has the hits of each policy that is defined, in order
  pub record IsByteRow {A : Type 0} (compared : List Policy) (row : Row A) : Type 0 where
    pub accesses : row.accesses ≡ length numbers - skipped
    pub asked : row.bytes ≡ asked_between skipped (length numbers) sizes
    pub policies : map (λ h. h.policy) row.hits.items ≡ filter has_bytes compared
    pub hits : All (λ h. AreByteHits (non_zero_usize_get row.capacity) h.policy h.hits h.bytes) row.hits.items

  -- there is a row for each capacity, in order
  pub record AreByteRows {A : Type 0} (compared : List Policy) (asked : List NonZeroUsize) (rows : List (Row A)) : Type 0 where
    pub capacities : map (λ row. non_zero_usize_get row.capacity) rows ≡ map non_zero_usize_get asked
    pub each : All (IsByteRow compared) rows

-- there are none if the trace has no sizes
abbrev pub AreAskedByteRowsIf : {A : Type 0} → Bool → ℕ → Numbered → List Policy → List NonZeroUsize → List (Row A) → Type 0
AreAskedByteRowsIf false skipped trace compared capacities rows = rows ≡ []
AreAskedByteRowsIf true skipped trace compared capacities rows = AreByteRows skipped trace.numbers (sizes_of trace) compared capacities rows

abbrev pub AreAskedByteRows : {A : Type 0} → ℕ → Numbered → List Policy → List NonZeroUsize → List (Row A) → Type 0
AreAskedByteRows skipped trace compared capacities rows = AreAskedByteRowsIf trace.is_sized skipped trace compared capacities rows

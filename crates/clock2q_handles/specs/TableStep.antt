-- What each call of a table does to its entries.
use Rattle.std.specs.Prelude.{◌≡◌, ℕ, zero, suc, ◌+◌, ◌*◌, ◌^◌, ◌<◌, ◌≤◌, ◌⊎◌, max, true, false, ◌==◌, nat_le, cond, fold, List, [], length, slice_get, Option, Some}
use Rattle.std.specs.Coded.{Coded, code_by, coded×, coded_ℕ, coded_list, coded_option}
use Rattle.clock2q_handles.specs.Homes.{top, capacity, home, listed, total, no_entries, put_last}
use Rattle.clock2q_handles.specs.Layout.{Placed, placed_code, layout, entries}
use mathlib.Core.Path.{refl}

-- what a contract sees of a table: each home's list, the contents of each slot, and the numbers of slot writes and of slot reads
pub record TableValue (H : Type 0) : Type 0 where
  pub homes : List (List (ℕ × H))
  pub slots : List (Option (Placed (ℕ × H)))
  pub writes : ℕ
  pub reads : ℕ

abbrev pub table_value : {H : Type 0} → List (List (ℕ × H)) → List (Option (Placed (ℕ × H))) → ℕ → ℕ → TableValue H
table_value homes slots writes reads = record { homes = homes; slots = slots; writes = writes; reads = reads }

abbrev pub table_code : {H : Type 0} → Coded H → Coded (TableValue H)
table_code {H} h =
    code_by (List (List (ℕ × H)) × (List (Option (Placed (ℕ × H))) × (ℕ × ℕ)))
    (coded× (coded_list (coded_list (coded× coded_ℕ h))) (coded× (coded_list (coded_option (placed_code (coded× coded_ℕ h)))) (coded× coded_ℕ coded_ℕ)))
    (λ t. (t.homes, (t.slots, (t.writes, t.reads)))) (λ p. table_value p.0 p.1.0 p.1.1.0 p.1.1.1) (λ _. refl)

-- the first of m, 2 m, 4 m .. in which e entries fit, after at most k doublings
abbrev pub doubled_until : ℕ → ℕ → ℕ → ℕ
doubled_until e m zero = m
doubled_until e m (suc k) = elim (nat_le e (capacity m)) [ true ↦ m | false ↦ doubled_until e (2 * m) k ]

-- the slot count for e entries: the smallest power of two, from 16 up, in which they fit
unfoldable pub fit : ℕ → ℕ
fit e = doubled_until e 16 e

-- the slot count of a table that is doubled because it is full
abbrev pub doubled : ℕ → ℕ
doubled m = max 16 (2 * m)

module _ {H : Type 0} where
  -- the entries es put in one after another, each last in the home of its handle's hash
  abbrev pub put_all : (H → ℕ) → List (List (ℕ × H)) → List (Placed (ℕ × H)) → List (List (ℕ × H))
  put_all key homes es = fold (λ hs s. put_last hs (key s.entry.1) s.entry) homes es

  -- the entries in m homes: taken in the order of the slots, from slot 0 on, each is put last in the home of its handle's hash
  abbrev pub rebuilt : (H → ℕ) → ℕ → List (List (ℕ × H)) → List (List (ℕ × H))
  rebuilt key m homes = put_all key (no_entries m) (entries (layout homes))

  -- a table with no entries that holds n before it grows
  abbrev pub made_for : ℕ → List (List (ℕ × H))
  made_for n = elim n [ zero ↦ [] | suc k ↦ no_entries (fit (suc k)) ]

  -- one more entry fits
  abbrev pub IsBelowCapacity : List (List (ℕ × H)) → Type 0
  IsBelowCapacity homes = total homes < capacity (length homes)

  -- one more entry fits, and makes no run too long
  pub record HasSpare (homes : List (List (ℕ × H))) : Type 0 where
    pub room : IsBelowCapacity homes
    pub few : total homes + 1 < 2 ^ 24

  -- no more entries fit
  abbrev pub IsFull : List (List (ℕ × H)) → Type 0
  IsFull homes = total homes ≡ capacity (length homes)

  -- what an insertion starts from: a full table is first rebuilt with twice the slots
  abbrev pub grown : (H → ℕ) → List (List (ℕ × H)) → List (List (ℕ × H))
  grown key homes = cond (total homes == capacity (length homes)) (rebuilt key (doubled (length homes)) homes) homes

  -- `reserve(n)` has to rebuild
  abbrev pub IsShortOf : List (List (ℕ × H)) → ℕ → Type 0
  IsShortOf homes n = capacity (length homes) < total homes + n

  -- the lists after `reserve(n)`
  abbrev pub reserved : (H → ℕ) → List (List (ℕ × H)) → ℕ → List (List (ℕ × H))
  reserved key homes n = cond (nat_le (total homes + n) (capacity (length homes))) homes (rebuilt key (fit (total homes + n)) homes)

  -- `reserve(n)` is refused for size: the entries are too many to count, or their slots are
  abbrev pub IsPastSize : List (List (ℕ × H)) → ℕ → Type 0
  IsPastSize homes n = (2 ^ 64 ≤ total homes + n) ⊎ (IsShortOf homes n × (2 ^ 64 ≤ fit (total homes + n)))

  -- key gives each entry's handle a hash with that entry's home and fingerprint
  abbrev pub IsHashOf : (H → ℕ) → List (List (ℕ × H)) → Type 0
  IsHashOf key homes = (h i : ℕ) (e : ℕ × H) → h < length homes → slice_get (listed homes h) i ≡ Some e → (home homes (key e.1) ≡ h) × (top (key e.1) ≡ e.0)

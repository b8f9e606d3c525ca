-- Where a table's entries are: in Robin Hood order, each home's one after another, as far past it as earlier homes push them.
use Rattle.std.specs.Prelude.{◌≡◌, ℕ, zero, suc, ◌+◌, ◌-◌, ◌%◌, ◌^◌, ◌<◌, ◌≤◌, max, cond, ◌==◌, List, [], ◌∷◌, ◌++◌, length, get_or, set, replicate, filter_map, Option, Some, None}
use Rattle.std.specs.Coded.{Coded, code_by, coded×, coded_ℕ}
use Rattle.clock2q_handles.specs.Homes.{capacity, listed, count}
use mathlib.Core.Path.{refl}

-- an entry in a slot, and how far past its home that slot is
pub record Placed (E : Type 0) : Type 0 where
  pub displacement : ℕ
  pub entry : E

-- the number of entries whose home is among the k slots from a on, where c counts the entries of each home
abbrev pub window : (ℕ → ℕ) → ℕ → ℕ → ℕ
window c a zero = 0
window c a (suc k) = window c a k + c (a + k)

-- the maximum of f 0 .. f (n - 1), or 0
abbrev pub largest : (ℕ → ℕ) → ℕ → ℕ
largest f zero = 0
largest f (suc n) = max (largest f n) (f n)

-- how far earlier homes push the entries of home h: the maximum, over the windows just before h, of the number of entries at home there minus the number of slots there
unfoldable pub spill : (ℕ → ℕ) → ℕ → ℕ → ℕ
spill c m h = largest (λ k. window c (h + m - k) k - k) m

module _ {E : Type 0} where
  abbrev pub placed : ℕ → E → Placed E
  placed d e = record { displacement = d; entry = e }

  abbrev pub placed_code : Coded E → Coded (Placed E)
  placed_code e = code_by (ℕ × E) (coded× coded_ℕ e) (λ p. (p.displacement, p.entry)) (λ q. placed q.0 q.1) (λ _. refl)

  -- how far earlier homes push those of h
  abbrev pub spill_of : List (List E) → ℕ → ℕ
  spill_of homes h = spill (count homes) (length homes) h

  -- the contents of slot n, which wraps past the last slot
  abbrev pub slot_at : List (Option (Placed E)) → ℕ → Option (Placed E)
  slot_at slots n = get_or slots (n % length slots) None

  -- the slots with the entries es in slot n and those after it, the first d past its home
  abbrev pub put_from : List (Option (Placed E)) → ℕ → ℕ → List E → List (Option (Placed E))
  put_from slots n d [] = slots
  put_from slots n d (e ∷ es) = put_from (set slots (n % length slots) (Some (placed d e))) (suc n) (suc d) es

  -- the slots with the entries of only the first k homes
  abbrev pub layout_upto : List (List E) → ℕ → List (Option (Placed E))
  layout_upto homes zero = replicate (length homes) None
  layout_upto homes (suc h) = put_from (layout_upto homes h) (h + spill_of homes h) (spill_of homes h) (listed homes h)

  -- the slots: entry i of home h is spill + i past its home, and every other slot is empty
  unfoldable pub layout : List (List E) → List (Option (Placed E))
  layout homes = layout_upto homes (length homes)

  -- the entries by slot, from slot 0 on
  abbrev pub entries : List (Option (Placed E)) → List (Placed E)
  entries slots = filter_map (λ s. s) slots

  -- the number of slots that a walk for x reads
  abbrev pub walk : List (List E) → ℕ → ℕ
  walk [] x = 0
  walk (es ∷ homes) x = spill_of (es ∷ homes) x + count (es ∷ homes) x + 1

  -- the number of the k slots from n on that are before the first empty one
  abbrev pub occupied : (ℕ → Option (Placed E)) → ℕ → ℕ → ℕ
  occupied A n zero = 0
  occupied A n (suc k) = elim (A n) [ None ↦ 0 | Some _ ↦ suc (occupied A (suc n) k) ]

  -- the run of x: the occupied slots from its home up to the first empty one
  abbrev pub run : List (Option (Placed E)) → ℕ → ℕ
  run slots x = occupied (slot_at slots) x (length slots)

  -- some entry would be 2^24 - 1 or more past its home
  abbrev pub IsTooLong : List (List E) → Type 0
  IsTooLong homes = (h : ℕ) × (h < length homes) × (0 < count homes h) × (2 ^ 24 ≤ spill_of homes h + count homes h)

  -- entry i of each home h has the slot `place h i`, and no other entry has it
  pub record IsPlacement (homes : List (List E)) (place : ℕ → ℕ → ℕ) : Type 0 where
    pub within : (h i : ℕ) → h < length homes → i < count homes h → place h i < length homes
    pub apart : (h i g j : ℕ) → h < length homes → i < count homes h → g < length homes → j < count homes g → place h i ≡ place g j → (h ≡ g) × (i ≡ j)

  -- some entry is d or more past its home, counted circularly
  abbrev pub ReachesPast : List (List E) → (ℕ → ℕ → ℕ) → ℕ → Type 0
  ReachesPast homes place d = (h : ℕ) × (i : ℕ) × (h < length homes) × (i < count homes h) × (d ≤ (place h i + length homes - h) % length homes)

  -- however the entries are placed, some entry is as far past its home as any in the layout
  abbrev pub IsBestPlaced : List (List E) → Type 0
  IsBestPlaced homes = (place : ℕ → ℕ → ℕ) → IsPlacement homes place → (h i : ℕ) → h < length homes → i < count homes h → ReachesPast homes place (spill_of homes h + i)

-- how far past its home an entry in the next slot may be: one further than the entry here, or 0 after an empty slot
abbrev pub reach : {E : Type 0} → Option (Placed E) → ℕ
reach None = 0
reach (Some s) = suc s.displacement

-- the longest reach that a slot's metadata can hold
abbrev pub longest_reach : ℕ
longest_reach = 16777215

-- no entry is further past its home than a slot's metadata can hold
abbrev pub AreNear : {E : Type 0} → List (Option (Placed E)) → Type 0
AreNear slots = (n : ℕ) → reach (slot_at slots n) ≤ longest_reach

-- Robin Hood order: no entry is further past its home than the slot before it allows
pub record IsOrdered {E : Type 0} (A : ℕ → Option (Placed E)) : Type 0 where
  pub next : (n : ℕ) → reach (A (suc n)) ≤ suc (reach (A n))

module _ {E : Type 0} where
  -- the entry of home h in a slot d past h: the one whose displacement is d
  abbrev pub at_home : Option (Placed E) → ℕ → List E
  at_home None d = []
  at_home (Some s) d = cond (s.displacement == d) (s.entry ∷ []) []

  -- the entries of home h among the k slots from d past it on
  abbrev pub met : (ℕ → Option (Placed E)) → ℕ → ℕ → ℕ → List E
  met A h d zero = []
  met A h d (suc k) = at_home (A (h + d)) d ++ met A h (suc d) k

  -- the lists of the first k homes, read off the slots
  abbrev pub read_upto : List (Option (Placed E)) → ℕ → List (List E)
  read_upto slots zero = []
  read_upto slots (suc h) = read_upto slots h ++ met (slot_at slots) h 0 (length slots) ∷ []

  -- each home's list, read off the slots
  unfoldable pub homes_of : List (Option (Placed E)) → List (List E)
  homes_of slots = read_upto slots (length slots)

  -- the invariant of a table's slots: their order, and that at least a quarter of them is empty
  pub record IsTidy (slots : List (Option (Placed E))) : Type 0 where
    pub ordered : IsOrdered (slot_at slots)
    pub room : length (entries slots) ≤ capacity (length slots)

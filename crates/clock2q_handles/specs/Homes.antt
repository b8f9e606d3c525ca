-- A table's entries as a list for each home slot: what a hash selects, and what is put in, found and removed.
use Rattle.std.specs.Prelude.{◌≡◌, false, ℕ, ◌*◌, ◌/◌, ◌%◌, ◌^◌, Bool, ◌&&◌, ◌==◌, cond, List, [], ◌∷◌, ◌++◌, map, filter, length, get_or, set, replicate, take, sum_by}
use Rattle.std.specs.List.{list_any}

-- the fingerprint of a hash: its top byte
abbrev pub top : ℕ → ℕ
top x = x / 2 ^ 56

-- the number of entries that a table of m slots holds before it grows
abbrev pub capacity : ℕ → ℕ
capacity m = m * 3 / 4

-- no entry in any of m homes
abbrev pub no_entries : {E : Type 0} → ℕ → List (List E)
no_entries m = replicate m []

-- the home slot of a hash, or of a slot number that wraps past the last slot
abbrev pub home : {E : Type 0} → List (List E) → ℕ → ℕ
home homes x = x % length homes

-- the list of that home
abbrev pub listed : {E : Type 0} → List (List E) → ℕ → List E
listed homes x = get_or homes (home homes x) []

-- the number of entries of that home
abbrev pub count : {E : Type 0} → List (List E) → ℕ → ℕ
count homes x = length (listed homes x)

-- the number of entries
abbrev pub total : {E : Type 0} → List (List E) → ℕ
total homes = sum_by length homes

-- the same entries, with the list es at the home of x
abbrev pub with_list : {E : Type 0} → List (List E) → ℕ → List E → List (List E)
with_list homes x es = set homes (home homes x) es

-- e is last in the list of x's home
abbrev pub put_last : {E : Type 0} → List (List E) → ℕ → E → List (List E)
put_last homes x e = with_list homes x (listed homes x ++ e ∷ [])

-- the list without its first element that passes the test
abbrev pub without_first : {E : Type 0} → (E → Bool) → List E → List E
without_first test [] = []
without_first test (e ∷ es) = cond (test e) es (e ∷ without_first test es)

-- the handles that a lookup of x yields: those of its home's list with its fingerprint, in order
abbrev pub candidates : {H : Type 0} → List (List (ℕ × H)) → ℕ → List H
candidates homes x = map (λ e. e.1) (filter (λ e. e.0 == top x) (listed homes x))

-- and those among the first i entries of the list
abbrev pub candidates_before : {H : Type 0} → List (List (ℕ × H)) → ℕ → ℕ → List H
candidates_before homes x i = map (λ e. e.1) (filter (λ e. e.0 == top x) (take i (listed homes x)))

-- v is put in under the hash x
abbrev pub with_handle : {H : Type 0} → List (List (ℕ × H)) → ℕ → H → List (List (ℕ × H))
with_handle homes x v = put_last homes x (top x, v)

-- an entry that `remove` of v under x may remove: one with x's fingerprint and a handle equal to v
abbrev pub is_entry_of : {H : Type 0} → (H → H → Bool) → ℕ → H → ℕ × H → Bool
is_entry_of eq x v e = (e.0 == top x) && eq e.1 v

-- the lists without the first such entry of x's home
abbrev pub without_handle : {H : Type 0} → (H → H → Bool) → List (List (ℕ × H)) → ℕ → H → List (List (ℕ × H))
without_handle eq homes x v = with_list homes x (without_first (is_entry_of eq x v) (listed homes x))

-- no entry of x's home with its fingerprint has a handle equal to v
abbrev pub IsNew : {H : Type 0} → (H → H → Bool) → List (List (ℕ × H)) → ℕ → H → Type 0
IsNew eq homes x v = list_any (is_entry_of eq x v) (listed homes x) ≡ false

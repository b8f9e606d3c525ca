-- Keys by place, each with its hash and a value.
use Rattle.std.specs.Prelude.{◌≡◌, ℕ, zero, suc, Bool, false, cond, List, [], ◌∷◌, map, slice_get, slice_set, Option, Some, None}
use Rattle.std.specs.List.{filter_map}
use Rattle.std.specs.Coded.{Coded, code_by, coded×, coded_ℕ, coded_list}
use Rattle.clock2q_directory.specs.declared.keys.Entry.{Entry}
use mathlib.Core.Path.{refl}

abbrev pub entry : {K V : Type 0} → ℕ → K → V → Entry K V
entry hash key value = record { hash = hash; key = key; value = value }

abbrev pub entry_code : {K V : Type 0} → Coded K → Coded V → Coded (Entry K V)
entry_code {K} {V} k v = code_by (ℕ × (K × V)) (coded× coded_ℕ (coded× k v)) (λ e. (e.hash, (e.key, e.value))) (λ p. entry p.0 p.1.0 p.1.1) (λ _. refl)

-- the entries by place, the number that there is room for, and the numbers of writes and of comparisons of keys
pub record KeyPlaces (K V : Type 0) : Type 0 where
  pub entries : List (Entry K V)
  pub room : ℕ
  pub writes : ℕ
  pub comparisons : ℕ

abbrev pub key_places : {K V : Type 0} → List (Entry K V) → ℕ → ℕ → ℕ → KeyPlaces K V
key_places entries room writes comparisons = record { entries = entries; room = room; writes = writes; comparisons = comparisons }

abbrev pub keys_code : {K V : Type 0} → Coded K → Coded V → Coded (KeyPlaces K V)
keys_code {K} {V} k v =
    code_by (List (Entry K V) × (ℕ × (ℕ × ℕ))) (coded× (coded_list (entry_code k v)) (coded× coded_ℕ (coded× coded_ℕ coded_ℕ)))
    (λ p. (p.entries, (p.room, (p.writes, p.comparisons)))) (λ q. key_places q.0 q.1.0 q.1.1.0 q.1.1.1) (λ _. refl)

module _ {E : Type 0} where
  -- an entry written to a place: over the one that is there, or as the next one
  abbrev pub written : ℕ → E → List E → List E
  written place e [] = e ∷ []
  written zero e (x ∷ xs) = e ∷ xs
  written (suc place) e (x ∷ xs) = x ∷ written place e xs

module _ {K V : Type 0} where
  -- the hash of the key at a place, if there is one
  abbrev pub hash_at : List (Entry K V) → ℕ → Option ℕ
  hash_at entries place = elim (slice_get entries place) [ None ↦ None | Some e ↦ Some e.hash ]

  -- the key at a place
  abbrev pub key_at : List (Entry K V) → ℕ → Option K
  key_at entries place = elim (slice_get entries place) [ None ↦ None | Some e ↦ Some e.key ]

  -- the value at a place
  abbrev pub value_at : List (Entry K V) → ℕ → Option V
  value_at entries place = elim (slice_get entries place) [ None ↦ None | Some e ↦ Some e.value ]

  -- the key at a place, with its hash in front
  abbrev pub hashed_at : List (Entry K V) → ℕ → Option (ℕ × K)
  hashed_at entries place = elim (slice_get entries place) [ None ↦ None | Some e ↦ Some (e.hash, e.key) ]

  -- the keys at these places, in the places' order
  abbrev pub entries_of : List (Entry K V) → List ℕ → List (ℕ × K)
  entries_of entries places = filter_map (hashed_at entries) places

  -- another key at that place, with its hash; the value stays
  abbrev pub with_key : ℕ → ℕ → K → List (Entry K V) → List (Entry K V)
  with_key place hash key entries = elim (slice_get entries place) [ None ↦ entries | Some e ↦ slice_set entries place (entry hash key e.value) ]

  -- another value at that place; the key stays
  abbrev pub with_value : ℕ → V → List (Entry K V) → List (Entry K V)
  with_value place value entries = elim (slice_get entries place) [ None ↦ entries | Some e ↦ slice_set entries place (entry e.hash e.key value) ]

  -- whether this key is at a place
  abbrev pub is_key_at : (K → K → Bool) → K → List (Entry K V) → ℕ → Bool
  is_key_at eq key entries place = elim (slice_get entries place) [ None ↦ false | Some e ↦ eq key e.key ]

-- the number of places that are compared: those up to the first that passes the test
abbrev pub comparisons_of : (ℕ → Bool) → List ℕ → ℕ
comparisons_of test [] = 0
comparisons_of test (place ∷ places) = suc (cond (test place) 0 (comparisons_of test places))

-- the value at a place: the one that was passed, or else the one that the place had
abbrev pub IsValueFor : {V : Type 0} → Option V → ℕ → List V → V → Type 0
IsValueFor (Some value) place values v = v ≡ value
IsValueFor None place values v = slice_get values place ≡ Some v

-- a key was written to a place, with such a value
pub record Writes {K V : Type 0} (hash : ℕ) (key : K) (value : Option V) (place : ℕ) (old new : List (Entry K V)) : Type 0 where
  pub held : V
  pub is : IsValueFor value place (map (λ e. e.value) old) held
  pub becomes : new ≡ written place (entry hash key held) old

-- An index of places: a table that has the place of each key under the key's hash.
use Rattle.std.specs.Prelude.{◌≡◌, ℕ, Bool, true, false, ◌&&◌, ◌==◌, List, length, Some, None, nat_eq}
use Rattle.std.specs.List.{list_any, AllByRecursion, IsDistinct}
use Rattle.clock2q_handles.specs.Homes.{top, home, candidates, total}
use Rattle.clock2q_directory.specs.declared.keys.Entry.{Entry}
use Rattle.clock2q_directory.specs.Keys.{hash_at}

-- two hashes that an index can't distinguish: they have the same home and the same fingerprint
abbrev pub is_alike : List (List (ℕ × ℕ)) → ℕ → ℕ → Bool
is_alike index x y = (home index x == home index y) && (top x == top y)

-- whether the key at a place has a hash like this one
abbrev pub is_named : {K V : Type 0} → List (List (ℕ × ℕ)) → List (Entry K V) → ℕ → ℕ → Bool
is_named index keys x place = elim (hash_at keys place) [ None ↦ false | Some y ↦ is_alike index x y ]

-- the index has each of these places under the hash of its key, once, and nothing else
pub record IsIndex {K V : Type 0} (index : List (List (ℕ × ℕ))) (keys : List (Entry K V)) (places : List ℕ) : Type 0 where
  pub listed : (x place : ℕ) → list_any (nat_eq place) (candidates index x) ≡ (list_any (nat_eq place) places && is_named index keys x place)
  pub once : (x : ℕ) → IsDistinct nat_eq (candidates index x)
  pub counted : total index ≡ length places

module _ {K : Type 0} (eq : K → K → Bool) where
  -- whether a key is among these
  abbrev pub has_key : K → List (ℕ × K) → Bool
  has_key key entries = list_any (λ e. eq key e.1) entries

  -- if this key is among them, it has this hash
  abbrev pub HasHash : ℕ → K → List (ℕ × K) → Type 0
  HasHash hash key entries = AllByRecursion (λ e. eq key e.1 ≡ true → e.0 ≡ hash) entries

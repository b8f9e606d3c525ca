-- Keys that are accessed again: a loop, and how many others come in between; and which answers are hits.
use Rattle.std.specs.Prelude.{⊤, ◌≡◌, ℕ, zero, suc, Bool, true, false, not, ◌&&◌, List, [], ◌∷◌, ◌++◌, map, take, Some}
use Rattle.std.specs.List.{count_by, list_any, AllByRecursion, IsDistinct}
use Rattle.clock2q_machine.specs.Calls.{Answer, Value}
use Rattle.clock2q_machine.specs.Machine.{Machine}

-- a list as often as this, one after the other
abbrev pub rounds : {X : Type 0} → ℕ → List X → List X
rounds zero xs = []
rounds (suc n) xs = xs ++ rounds n xs

-- a put hits if it returns a value that the key had
abbrev pub is_hit : {V : Type 0} → Answer V → Bool
is_hit (Value (Some value)) = true
is_hit answer = false

module _ {K V : Type 0} (eq : K → K → Bool) where
  -- no key is equal to any of the next n
  abbrev pub AreFarApart : ℕ → List (K × V) → Type 0
  AreFarApart n [] = ⊤
  AreFarApart n (p ∷ puts) = AllByRecursion (λ q. eq q.0 p.0 ≡ false) (take n puts) × AreFarApart n puts

  -- the keys of a loop differ from one another
  abbrev pub AreDistinct : List (K × V) → Type 0
  AreDistinct puts = IsDistinct eq (map (λ p. p.0) puts)

  -- whether a key is none of the loop's
  abbrev pub is_foreign : List (K × V) → K → Bool
  is_foreign puts k = not (list_any (λ p. eq p.0 k) puts)

  -- the number of keys of Main that aren't the loop's, and were hit
  abbrev pub foreign_bits : List (K × V) → Machine K V → ℕ
  foreign_bits puts m = count_by (λ e. is_foreign puts e.key && e.bit) m.main

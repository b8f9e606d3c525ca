-- What contracts see of a memo, and what it keeps.
use Rattle.std.specs.Prelude.{◌≡◌, ℕ, ◌+◌, Bool, true, List, ◌∷◌, slice_get, Some, is_some, if◌then◌else◌, Result, Ok, refl}
use Rattle.std.specs.Coded.{Coded, code_by, coded×, coded_ℕ}
use Rattle.std.specs.Borrow.{Bor}
use Rattle.std.specs.Fn.{Shared, FnReturnsAt}
use Rattle.clock2q_machine.specs.Machine.{Machine, machine_code, slot_of, value_of, inserted}
use Rattle.clock2q_machine.specs.Steps.{fetched}

-- the machine of its cache, its function, and the number of the function's calls
pub record MemoState (K V F : Type 0) : Type 0 where
  pub machine : Machine K V
  pub function : F
  pub evaluations : ℕ

abbrev pub memo_state : {K V F : Type 0} → Machine K V → F → ℕ → MemoState K V F
memo_state machine function evaluations = record { machine = machine; function = function; evaluations = evaluations }

abbrev pub memo_code : {K V F : Type 0} → Coded K → Coded V → Coded F → Coded (MemoState K V F)
memo_code {K} {V} {F} key value function = code_by (Machine K V × (F × ℕ))
    (coded× (machine_code key value) (coded× function coded_ℕ))
    (λ m. (m.machine, (m.function, m.evaluations)))
    (λ p. memo_state p.0 p.1.0 p.1.1)
    (λ _. refl)

module _ {F K V : Type 0} (g : Shared F (Bor K × Unit {0}) V) where
  -- the function may be called for a key
  abbrev pub IsCallableAt : F → K → Type 0
  IsCallableAt f key = (shown : Bor K) → shown.now ≡ key → g.pre f (shown, tt)

  -- the function may be called for each of these keys
  abbrev pub IsCallableAtEach : F → List K → Type 0
  IsCallableAtEach f keys = (at : ℕ) (key : K) → slice_get keys at ≡ Some key → IsCallableAt f key

-- a function that may fail returns this value for a key
abbrev pub GivesOk : {F K V E : Type 0} → Shared F (Bor K × Unit {0}) (Result V E) → F → K → V → Type 0
GivesOk g f key v = FnReturnsAt g f key (Ok v)

module _ {K V : Type 0} (eq : K → K → Bool) where
  -- what the function returns for a key is the key's value, and equal keys have equal values
  pub record Computes (returns : K → V → Type 0) (value : K → V) : Type 0 where
    pub one : (key : K) (v : V) → returns key v → v ≡ value key
    pub equal : (key other : K) → eq key other ≡ true → value key ≡ value other

  -- each resident has its key's value, for any values that the function computes
  abbrev pub HoldsValues : (K → V → Type 0) → Machine K V → Type 0
  HoldsValues returns m = (value : K → V) → Computes returns value → (key : K) (v : V) → value_of (eq key) m ≡ Some v → v ≡ value key

  -- this is the key's value, for any values that the function computes, if each resident has its own key's value
  abbrev pub IsValueAt : (K → V → Type 0) → Machine K V → K → V → Type 0
  IsValueAt returns m key v = HoldsValues returns m → (value : K → V) → Computes returns value → v ≡ value key

  -- a key that is not resident is inserted with the value, and nothing else changes
  abbrev pub looked_up : K → V → Machine K V → Machine K V
  looked_up key value m = if is_some (slot_of (eq key) m) then m else inserted (eq key) key value m

  -- a key that is not resident costs one call of the function, and a resident key none
  abbrev pub evaluations_for : K → Machine K V → ℕ
  evaluations_for key m = if is_some (slot_of (eq key) m) then 0 else 1

  -- each key is fetched in turn, with the value that its lookup returned
  abbrev pub recalled : List K → List V → Machine K V → Machine K V
  recalled (key ∷ keys) (value ∷ values) m = recalled keys values (fetched (eq key) key value m)
  recalled _ _ m = m

  -- the calls of the function while the keys are fetched in turn
  abbrev pub evaluations_of : List K → List V → Machine K V → ℕ
  evaluations_of (key ∷ keys) (value ∷ values) m = evaluations_for key m + evaluations_of keys values (fetched (eq key) key value m)
  evaluations_of _ _ m = 0

-- A list of calls takes linear time: at most 30 link accesses a call, and one for each bit that was set before.
use Rattle.clock2q_cache.proofs.Names.{◌≡◌, ◌+◌, ◌*◌, ◌≤◌, Bool, false, List, [], ◌∷◌, length, Some, None, arith, IsEquivalence, AllByRecursion, Call, Put, Get, Peek, Contains, GetAt, Set, With, Try, SlotFor, Remove, Retain, Clear, Evict, Prefill, Len, IsEmpty, Capacity, Machine, after, after_all, set_bits, inspections_for, inspections_of, summed, IsWhole, linear_inspections, accesses_for, most_accesses, visits_all}

module _ {K V : Type 0} (eq : K → K → Bool) where
  wanted_accesses : (is : K → Bool) (m : Machine K V) → accesses_for is m ≤ inspections_for is m + 29
  wanted_accesses is m = grind arith

  -- any other call makes at most 29 link accesses beside the hand's inspections
  call_accesses : (call : Call K V) (m : Machine K V) → visits_all call ≡ false → most_accesses eq call m ≤ inspections_of eq call m + 29
  call_accesses (Put key value) m some = wanted_accesses (eq key) m
  call_accesses (Get key) m some = omega arith
  call_accesses (Peek key) m some = omega arith
  call_accesses (Contains key) m some = omega arith
  call_accesses (GetAt slot key) m some = omega arith
  call_accesses (Set key value) m some = omega arith
  call_accesses (With key value) m some = wanted_accesses (eq key) m
  call_accesses (Try key (Some value)) m some = wanted_accesses (eq key) m
  call_accesses (Try key None) m some = omega arith
  call_accesses (SlotFor key value) m some = wanted_accesses (eq key) m
  call_accesses (Remove key) m some = omega arith
  call_accesses (Retain bits) m some = cc
  call_accesses Clear m some = cc
  call_accesses Evict m some = omega arith
  call_accesses (Prefill values) m some = cc
  call_accesses Len m some = omega arith
  call_accesses IsEmpty m some = omega arith
  call_accesses Capacity m some = omega arith

  list_accesses : (calls : List (Call K V)) (m : Machine K V) → AllByRecursion (λ call. visits_all call ≡ false) calls
      → summed eq (most_accesses eq) calls m ≤ summed eq (inspections_of eq) calls m + 29 * length calls
  list_accesses [] m some = omega arith
  list_accesses (call ∷ calls) m some = omega (arith, call_accesses call m some.0, list_accesses calls (after eq call m) some.1)

  -- so a list of such calls takes linear time
  pub linear_accesses : (laws : IsEquivalence eq) (calls : List (Call K V)) (m : Machine K V) → IsWhole eq m → AllByRecursion (λ call. visits_all call ≡ false) calls
      → summed eq (most_accesses eq) calls m + set_bits (after_all eq calls m) ≤ 30 * length calls + set_bits m
  linear_accesses laws calls m h some = omega (arith, list_accesses calls m some, linear_inspections eq laws calls m h)

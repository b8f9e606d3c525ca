-- The slot count for a number of entries, as it is computed; those that a table grows to, and what a rebuild at one results in.
use Rattle.std.proofs.Common.{◌≡◌, ℕ, zero, suc, ◌+◌, ◌-◌, ◌*◌, ◌^◌, ◌<◌, ◌≤◌, inl, inr, max, refl, ap, ◌∙◌, arith, List, length, pow-add, pow_pos, pow_mono}
use Rattle.std.proofs.lemmas.Bool.{cases_lt}
use Rattle.std.proofs.lemmas.Bool.Decides.{leb_tells}
use Rattle.std.proofs.Math.Nat.{two-pow-succ}
use Rattle.std.specs.Int.{IsNextPowerOfTwo, div_ceil}
use Rattle.clock2q_handles.specs.Homes.{capacity, total}
use Rattle.clock2q_handles.specs.TableStep.{doubled_until, fit, rebuilt, grown, doubled, IsFull, IsHashOf}
use Rattle.clock2q_handles.specs.Changes.{IsNearer}
use Rattle.clock2q_handles.specs.Slots.{IsSlotCount}
use Rattle.clock2q_handles.proofs.layout.TidyLayout.{capacity-lt}
use Rattle.clock2q_handles.proofs.layout.TooLong.{rebuilt-reach}
use Rattle.clock2q_handles.proofs.layout.Periods.{powers-divide}
use Rattle.clock2q_handles.proofs.rebuild.Hashes.{grown-by, rebuilt-length, rebuilt-total}

-- doubling from 2^c ends at 2^n, if e entries fit there and not before
doubled_found : (e c n k : ℕ) → c ≤ n → n ≤ c + k → ((j : ℕ) → c ≤ j → j < n → capacity (2 ^ j) < e) → e ≤ capacity (2 ^ n) → doubled_until e (2 ^ c) k ≡ 2 ^ n
doubled_found e c n zero from upto before fits = ap (λ j. 2 ^ j) (omega arith)
doubled_found e c n (suc k) from upto before fits = elim (cases_lt c n) [
  | inl below ↦ grind (arith, before c, leb_tells e (capacity (2 ^ c)), two-pow-succ c, doubled_found e (suc c) n k)
  | inr here ↦ let q : c ≡ n = omega arith in grind (arith, q, leb_tells e (capacity (2 ^ c)))
]

-- a number is below its power of two
below_pow : (n : ℕ) → n < 2 ^ n
below_pow zero = omega arith
below_pow (suc n) = omega (arith, below_pow n, two-pow-succ n, pow_pos n)

-- the slot count from the power of two that is computed
pub fit_from_power : (e p : ℕ) → IsNextPowerOfTwo (div_ceil e 3) p → fit e ≡ max (p * 4) 16
unfolding fit
fit_from_power e p next =
    let k : ℕ = next.0.0 in
    let four : 2 ^ (k + 2) ≡ p * 4 = omega (arith, pow-add 2 k 2, next.0.1) in
    elim (cases_lt 2 k) [
      | inl large ↦
          let half : 2 ^ k ≡ 2 ^ (k - 1) * 2 = grind (arith, pow-add 2 (k - 1) 1) in
          let eight : 2 ^ 3 ≤ 2 ^ k = pow_mono {i = 3} {j = k} (omega arith) in
          doubled_found e 4 (k + 2) e (omega arith) (omega (arith, below_pow k, half, eight, next.0.1, next.2))
          (λ j _ l. omega (arith, pow_mono {i = j} {j = k + 1} (omega arith), pow-add 2 k 1, half, eight, next.0.1, next.2)) (omega (arith, four, next.1))
          ∙ omega (arith, four, next.0.1, eight)
      | inr small ↦ doubled_found e 4 4 e (omega arith) (omega arith) (λ j from l. absurd (omega (arith, from, l))) (omega (arith, next.1, pow_mono {i = k} {j = 2} (omega arith), next.0.1))
          ∙ omega (arith, pow_mono {i = k} {j = 2} (omega arith), next.0.1)
    ]

-- a power of two, or 16 if that is more, is a slot count
slot_count_of : (k m : ℕ) → m ≡ max (2 ^ k) 16 → IsSlotCount m
slot_count_of k m is = record {
  power = λ _. elim (cases_lt 4 k) [ inl above ↦ (k, omega (arith, is, pow_mono {i = 4} {j = k} (omega arith))) | inr below ↦ (4, omega (arith, is, pow_mono {i = k} {j = 4} (omega arith))) ];
  least = λ _. omega (arith, is);
}

-- so what is computed from a power of two is one
pub slot_count_from_power : (p k : ℕ) → p ≡ 2 ^ k → IsSlotCount (max (p * 4) 16)
slot_count_from_power p k is = slot_count_of (k + 2) (max (p * 4) 16) (omega (arith, is, pow-add 2 k 2))

-- it fits the entries
pub fit_enough : (e p m : ℕ) → IsNextPowerOfTwo (div_ceil e 3) p → m ≡ max (p * 4) 16 → e ≤ capacity m
fit_enough e p m next is = omega (arith, next.1, is)

-- and so are twice the slots, or 16 of them
pub slot_count_doubled : (n : ℕ) → IsSlotCount n → IsSlotCount (max (n * 2) 16)
slot_count_doubled n is_count = elim (cases_lt 0 n) [
  | inl some ↦ let k = is_count.power some in slot_count_of (suc k.0) (max (n * 2) 16) (omega (arith, k.1, two-pow-succ k.0))
  | inr none ↦ slot_count_of 4 (max (n * 2) 16) (omega (arith, none))
]

module _ {E : Type 0} (homes : List (List E)) (n : ℕ) (len : length homes ≡ n) (is_count : IsSlotCount n) where
  pub doubled_is : max (n * 2) 16 ≡ doubled (length homes)
  doubled_is = omega (arith, len)

  pub doubled_more : capacity (length homes) < capacity (max (n * 2) 16)
  doubled_more = grind arith

  pub doubled_multiple : 0 < length homes → (k : ℕ) × (max (n * 2) 16 ≡ k * length homes)
  doubled_multiple some = (2, omega (arith, len, some, is_count.least (omega (arith, len, some))))

  -- a slot count of greater capacity is a multiple of the number of homes
  pub larger_multiple : (m : ℕ) → IsSlotCount m → capacity (length homes) < capacity m → 0 < length homes → (k : ℕ) × (m ≡ k * length homes)
  larger_multiple m is_count' more some = grind (arith, powers-divide)

module _ {H : Type 0} (key : H → ℕ) (homes : List (List (ℕ × H))) (m : ℕ) (room : total homes ≤ capacity (length homes)) (some : 0 < m) where
  -- a rebuild leaves as much room as the slots have
  pub rebuilt_room : total homes < capacity m → total (rebuilt key m homes) < capacity (length (rebuilt key m homes))
  rebuilt_room fits = omega (arith, rebuilt-total key homes m room some, ap capacity (rebuilt-length key homes m), fits)

-- growth before an insertion leaves no home's entries further past it than they were
pub grown_nearer : {H : Type 0} (key : H → ℕ) (homes : List (List (ℕ × H))) → IsSlotCount (length homes)
    → total homes ≤ capacity (length homes) → (IsFull homes → IsHashOf key homes) → IsNearer homes (grown key homes)
grown_nearer key homes is_count room hashes =
    grown-by key (IsNearer homes) homes (λ full x.
    let more = doubled_more homes (length homes) refl is_count in
    let less : total homes < max (length homes * 2) 16 = omega (arith, room, more, capacity-lt (max (length homes * 2) 16) (omega arith)) in
    rw (← doubled_is homes (length homes) refl is_count) (rebuilt-reach key homes (max (length homes * 2) 16) room less (doubled_multiple homes (length homes) refl is_count) (hashes full) x))
    (λ _ x. omega arith)

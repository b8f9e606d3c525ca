-- How far earlier homes push the entries of a home, over counts that repeat every m homes; the slots as parts, one for each home, with gaps between them; and what one more entry does to them.
use Rattle.std.proofs.Common.{◌≡◌, ℕ, zero, suc, ◌+◌, ◌-◌, ◌<◌, ◌≤◌, ◌⊎◌, inl, inr, min, refl, ap, arith, add_assoc, add-zero, add-suc}
use Rattle.std.proofs.lemmas.Bool.{cases_lt}
use Rattle.clock2q_handles.specs.Layout.{window, largest, spill}

-- the first of f 0 .. f (k - 1) that is 0, if one is
pub first_zero : (f : ℕ → ℕ) (k : ℕ) → ((n : ℕ) × (n < k) × (f n ≡ 0) × ((j : ℕ) → j < n → 0 < f j)) ⊎ ((j : ℕ) → j < k → 0 < f j)
first_zero f zero = inr (λ j l. absurd (omega arith))
first_zero f (suc k) = grind (arith, first_zero f k, cases_lt 0 (f k))

-- the counts repeat every m homes, and leave a slot of each lap empty
pub record Roomy (c : ℕ → ℕ) (m : ℕ) : Type 0 where
  pub again : (n : ℕ) → c (n + m) ≡ c n
  pub room : window c 0 m < m

pub window-add : (c : ℕ → ℕ) (a k l : ℕ) → window c a (k + l) ≡ window c a k + window c (a + k) l
window-add c a k zero = rw (add-zero k) (omega arith)
window-add c a k (suc l) = rw add-suc (omega (arith, window-add c a k l, ap c (add_assoc a k l)))

pub window-front : (f : ℕ → ℕ) (a k : ℕ) → window f a (suc k) ≡ f a + window f (suc a) k
window-front f a k = grind (arith, window-add f a 1 k)

pub window-shift : (f : ℕ → ℕ) (a k : ℕ) → window f (suc a) k ≡ window (λ n. f (suc n)) a k
window-shift f a zero = refl
window-shift f a (suc k) = grind (arith, window-shift f a k)

pub window-again : (c : ℕ → ℕ) (m : ℕ) → ((n : ℕ) → c (n + m) ≡ c n) → (a k : ℕ) → window c (a + m) k ≡ window c a k
window-again c m again a zero = refl
window-again c m again a (suc k) = grind (arith, window-again c m again a k)

pub window-le : (c d : ℕ → ℕ) (a k : ℕ) → ((j : ℕ) → j < k → c (a + j) ≤ d (a + j)) → window c a k ≤ window d a k
window-le c d a zero below = omega arith
window-le c d a (suc k) below = omega (arith, window-le c d a k (λ j l. below j (omega arith)), below k (omega arith))

pub window-same : (c d : ℕ → ℕ) (a k : ℕ) → ((j : ℕ) → j < k → c (a + j) ≡ d (a + j)) → window c a k ≡ window d a k
window-same c d a k same = omega (arith, window-le c d a k (λ j l. omega (arith, same j l)), window-le d c a k (λ j l. omega (arith, same j l)))

-- the sum over a lap is the same wherever the lap begins
pub window-lap : (c : ℕ → ℕ) (m : ℕ) → ((n : ℕ) → c (n + m) ≡ c n) → (a : ℕ) → window c a m ≡ window c 0 m
window-lap c m again zero = refl
window-lap c m again (suc a) = grind (arith, window-lap c m again a, window-front c a m)

pub largest-above : (f : ℕ → ℕ) (n k : ℕ) → k < n → f k ≤ largest f n
largest-above f zero k l = absurd (omega arith)
largest-above f (suc n) k l = grind (arith, cases_lt k n, largest-above f n k)

pub largest-found : (f : ℕ → ℕ) (n : ℕ) → (largest f n ≡ 0) ⊎ ((k : ℕ) × (k < n) × (f k ≡ largest f n))
largest-found f zero = inl refl
largest-found f (suc n) = grind (arith, largest-found f n, cases_lt (f n) (largest f n))

pub largest-same : (f g : ℕ → ℕ) (n : ℕ) → ((k : ℕ) → k < n → f k ≡ g k) → largest f n ≡ largest g n
largest-same f g zero same = refl
largest-same f g (suc n) same = omega (arith, largest-same f g n (λ k l. same k (omega arith)), same n (omega arith))

-- no window before a home holds more than what is spilled there and its slots
pub spill-above : (c : ℕ → ℕ) (m h k : ℕ) → k < m → window c (h + m - k) k ≤ spill c m h + k
unfolding spill
spill-above c m h k l = omega (arith, largest-above (λ j. window c (h + m - j) j - j) m k l)

-- and some window holds as much
pub spill-found : (c : ℕ → ℕ) (m h : ℕ) → 0 < m → (k : ℕ) × (k < m) × (window c (h + m - k) k ≡ spill c m h + k)
unfolding spill
spill-found c m h some = elim (largest-found (λ j. window c (h + m - j) j - j) m) [ inl none ↦ (0, some, omega (arith, none)) | inr r ↦ grind (arith, cases_lt 0 (spill c m h), r) ]

pub spill-again : (c : ℕ → ℕ) (m : ℕ) → ((n : ℕ) → c (n + m) ≡ c n) → (h : ℕ) → spill c m (h + m) ≡ spill c m h
unfolding spill
spill-again c m again h = grind (arith, largest-same, window-again)

-- nothing is spilled at n and nothing has its home there
pub record IsGap (c : ℕ → ℕ) (m n : ℕ) : Type 0 where
  pub spilled : spill c m n ≡ 0
  pub counted : c n ≡ 0

-- slot n is one of those of home h
pub record IsPartOf (c : ℕ → ℕ) (m h n : ℕ) : Type 0 where
  pub from : h + spill c m h ≤ n
  pub upto : n < h + spill c m h + c h

module _ (c : ℕ → ℕ) (m : ℕ) (roomy : Roomy c m) where
  -- a window of a lap or less holds no more than a lap
  pub within_lap : (a k : ℕ) → k ≤ m → window c a k ≤ window c 0 m
  within_lap a k l = grind (arith, window-add c a k (m - k), window-lap c m roomy.again a)

  pub spill-lt : (h : ℕ) → spill c m h < m
  spill-lt h = grind (arith, spill-found c m h (omega (arith, roomy.room)), within_lap)

  -- what is spilled at the next home: one slot has passed, and this home's entries need slots
  pub spill-step : (h : ℕ) → spill c m (suc h) ≡ spill c m h + c h - 1
  spill-step h =
      let r = spill-found c m h (omega (arith, roomy.room)) in
      let s = spill-found c m (suc h) (omega (arith, roomy.room)) in
      grind (arith, r, s, spill-above c m (suc h) (suc r.0), within_lap (h + m - r.0) (suc r.0), spill-above c m h (s.0 - 1), roomy.again h, roomy.room)

  gap_upto : (z n : ℕ) → ((a : ℕ) × (a < n) × IsGap c m (z + a)) ⊎ (spill c m (z + n) + n ≡ spill c m z + window c z n)
  gap_upto z zero = grind arith
  gap_upto z (suc n) = grind (arith, gap_upto z n, cases_lt 0 (spill c m (z + n) + c (z + n)), spill-step (z + n))

  -- each lap has a gap
  pub gap : (z : ℕ) → (a : ℕ) × (a < m) × IsGap c m (z + a)
  gap z = grind (arith, gap_upto z m, spill-again c m roomy.again z, window-lap c m roomy.again z)

  -- what follows the law of spill from one zero to the next, a lap on, is spill
  module _ (z : ℕ) (f : ℕ → ℕ) (first : f 0 ≡ 0) (last : f m ≡ 0) (steps : (j : ℕ) → j < m → f (suc j) ≡ f j + c (z + j) - 1) where
    not_above : (j : ℕ) → j ≤ m → f j ≤ spill c m (z + j)
    not_above zero l = omega arith
    not_above (suc j) l = grind (arith, not_above j (omega arith), spill-step (z + j))

    same_from : (a : ℕ) → spill c m (z + a) ≡ f a → (j : ℕ) → a ≤ j → j ≤ m → spill c m (z + j) ≡ f j
    same_from a here zero from l = grind arith
    same_from a here (suc j) from l = grind (arith, cases_lt j a, same_from a here j, spill-step (z + j))

    pub unique : (j : ℕ) → j ≤ m → spill c m (z + j) ≡ f j
    unique j l = same_from 0 (grind (arith, gap z, not_above (gap z).0, same_from (gap z).0, spill-again c m roomy.again z)) j (omega arith) l

  -- the parts come in the order of their homes
  pub starts : (g h : ℕ) → g ≤ h → g + spill c m g ≤ h + spill c m h
  starts g zero l = grind arith
  starts g (suc h) l = grind (arith, cases_lt h g, starts g h, spill-step h)

  -- and do not overlap
  pub apart : (g h : ℕ) → g < h → g + spill c m g + c g ≤ h + spill c m h
  apart g h l = omega (arith, starts (suc g) h l, spill-step g)

  taken_upto : (n h : ℕ) → spill c m 0 ≤ n → n < h + spill c m h → IsGap c m n ⊎ ((g : ℕ) × IsPartOf c m g n)
  taken_upto n zero l below = absurd (omega arith)
  taken_upto n (suc h) l below = grind (arith, cases_lt n (h + spill c m h), taken_upto n h l, cases_lt n (h + spill c m h + c h), spill-step h)

  -- each slot is a gap or part of a home
  pub taken : (n : ℕ) → spill c m 0 ≤ n → IsGap c m n ⊎ ((g : ℕ) × IsPartOf c m g n)
  taken n l = taken_upto n (suc n) l (omega arith)

-- over the lap from z on, d counts as many entries as c, save at home z + a, and pushes those of the homes after it one further
pub record IsOneMore (c d : ℕ → ℕ) (m z a : ℕ) : Type 0 where
  pub spills : (n : ℕ) → z ≤ n → n < z + m → spill d m n ≡ spill c m n + min 1 (n - (z + a))
  pub same : (n : ℕ) → z ≤ n → n < z + m → (n ≡ z + a → ⊥) → d n ≡ c n

module _ (c d : ℕ → ℕ) (m z a : ℕ) (roomy : Roomy c m) (roomy' : Roomy d m) (within : a < m) (more : d (z + a) ≡ suc (c (z + a))) (same : (j : ℕ) → j < m → (j ≡ a → ⊥) → d (z + j) ≡ c (z + j))
    (full : (j : ℕ) → a ≤ j → suc j < m → 1 ≤ spill c m (z + j) + c (z + j)) (gap : (j : ℕ) → suc j ≡ m → IsGap c m (z + j)) where
  abbrev raised : ℕ → ℕ
  raised j = spill c m (z + j) + (min 1 (j - a) - min 1 (suc j - m))

  start_zero : spill c m z ≡ 0
  start_zero = grind (arith, spill-step c m roomy (z + (m - 1)), spill-again c m roomy.again z, gap (m - 1))

  raised_step : (j : ℕ) → j < m → raised (suc j) ≡ raised j + d (z + j) - 1
  raised_step j l = grind (arith, spill-step c m roomy (z + j), cases_lt (suc j) m, cases_lt j a, cases_lt a j)

  -- one more entry pushes the homes after it, up to the gap, by one
  pub one-more : IsOneMore c d m z a
  one-more =
      let raised_is = unique d m roomy' z raised (grind (arith, start_zero)) (omega (arith, start_zero, spill-again c m roomy.again z)) raised_step in
      record { spills = λ n from upto. grind (arith, raised_is (n - z)); same = λ n from upto other. grind (arith, same (n - z)) }

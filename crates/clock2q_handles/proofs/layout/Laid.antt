-- Slots in which each home's entries are where the layout says: what each slot contains, that they are in order, and the sums of their entries: by slots, by homes, and as a list in slot order.
use Rattle.std.proofs.Common.{◌≡◌, ℕ, zero, suc, ◌+◌, ◌-◌, ◌<◌, ◌≤◌, ◌⊎◌, inl, inr, refl, ap, arith, eq-eqb, ne_eqb, List, [], ◌∷◌, ◌++◌, length, Option, Some, None}
use Rattle.std.proofs.Common.{append_assoc, append-nil, slice_get, add-one, take, take_all, get_or, sum_by}
use Rattle.std.proofs.lemmas.Bool.{cases_lt}
use Rattle.std.proofs.lemmas.List.Sums.{sum_by-cons, sum_by_more}
use Rattle.std.proofs.lemmas.Option.{slice_get_cases}
use Rattle.clock2q_handles.specs.Layout.{Placed, placed, window, spill, reach, at_home, met, entries, IsOrdered}
use Rattle.clock2q_handles.proofs.layout.Spill.{Roomy, window-add, window-front, window-shift, window-lap, spill-again, spill-step, spill-lt, IsGap, IsPartOf, gap, apart, taken}

module _ {E : Type 0} where
  -- the number of entries of each list
  abbrev pub counts : (ℕ → List E) → ℕ → ℕ
  counts L n = length (L n)

  -- entry i of each home is spill + i past it, and a gap is empty
  pub record IsLaid (m : ℕ) (L : ℕ → List E) (A : ℕ → Option (Placed E)) : Type 0 where
    pub standing : (h i : ℕ) (e : E) → slice_get (L h) i ≡ Some e → A (h + spill (counts L) m h + i) ≡ Some (placed (spill (counts L) m h + i) e)
    pub rest : (n : ℕ) → IsGap (counts L) m n → A n ≡ None

  pub at_home-own : (o : Option (Placed E)) (n : ℕ) → reach o ≡ suc n → (e : E) × (o ≡ Some (placed n e)) × (at_home o n ≡ e ∷ [])
  at_home-own None n r = absurd (omega arith)
  at_home-own (Some s) n r = (s.entry, grind arith, grind (arith, eq-eqb))

  pub at_home-other : (o : Option (Placed E)) (n : ℕ) → (reach o ≡ suc n → ⊥) → at_home o n ≡ []
  at_home-other None n r = refl
  at_home-other (Some s) n r = rw (ne_eqb s.displacement n (λ e. r (ap suc e)))

  pub reach-none : (o : Option (Placed E)) → reach o ≡ 0 → o ≡ None
  reach-none None r = refl
  reach-none (Some s) r = absurd (omega arith)

  pub met-add : (A : ℕ → Option (Placed E)) (h d k l : ℕ) → met A h d (k + l) ≡ met A h d k ++ met A h (d + k) l
  met-add A h d zero l = grind arith
  met-add A h d (suc k) l = let e : suc k + l ≡ suc (k + l) = omega arith in grind (arith, e, met-add A h (suc d) k l, append_assoc)

  pub met-last : (A : ℕ → Option (Placed E)) (h d k : ℕ) → met A h d (suc k) ≡ met A h d k ++ at_home (A (h + (d + k))) (d + k)
  met-last A h d k = grind (arith, met-add A h d k 1, append-nil)

  pub met-same : (A B : ℕ → Option (Placed E)) (g h d k : ℕ) → ((j : ℕ) → d ≤ j → j < d + k → A (g + j) ≡ B (h + j)) → met A g d k ≡ met B h d k
  met-same A B g h d zero same = refl
  met-same A B g h d (suc k) same = grind (arith, met-same A B g h (suc d) k (λ j from upto. same j (omega arith) (omega arith)))

  pub met-again : (A : ℕ → Option (Placed E)) (m h d k : ℕ) → ((n : ℕ) → A (n + m) ≡ A n) → met A (h + m) d k ≡ met A h d k
  met-again A m h d k again = grind (arith, met-same)

  -- what a slot adds
  abbrev pub weight : (E → ℕ) → Option (Placed E) → ℕ
  weight w None = 0
  weight w (Some s) = w s.entry

  -- the entries by slot have the same sum as the slots
  pub entries-sum : (w : E → ℕ) (slots : List (Option (Placed E))) → sum_by (λ s. w s.entry) (entries slots) ≡ window (λ n. weight w (get_or slots n None)) 0 (length slots)
  entries-sum w [] = refl
  entries-sum w (None ∷ slots) = grind (arith, entries-sum w slots, window-front, window-shift)
  entries-sum w (Some s ∷ slots) = grind (arith, entries-sum w slots, sum_by-cons (λ s. w s.entry) s (entries slots), window-front, window-shift)

  module _ (m : ℕ) (L : ℕ → List E) (A : ℕ → Option (Placed E)) (roomy : Roomy (counts L) m) (laid : IsLaid m L A) where
    -- the contents of a slot of home h
    pub shows : (n h : ℕ) → IsPartOf (counts L) m h n → (e : E) × (A n ≡ Some (placed (n - h) e)) × (slice_get (L h) (n - (h + spill (counts L) m h)) ≡ Some e)
    shows n h p = grind (arith, slice_get_cases (L h) (n - (h + spill (counts L) m h)))

    -- a slot is a gap and empty, or part of a home, and if of an earlier one, something is spilled there
    pub seen : (n : ℕ) → spill (counts L) m 0 ≤ n
        → (IsGap (counts L) m n × (reach (A n) ≡ 0)) ⊎ ((g : ℕ) × IsPartOf (counts L) m g n × (reach (A n) ≡ suc (n - g)) × (g < n → 1 ≤ spill (counts L) m n))
    seen n l = elim (taken (counts L) m roomy n l) [ inl g ↦ inl (g, ap reach (laid.rest n g)) | inr p ↦ grind (arith, p.1, shows n p.0, apart (counts L) m roomy p.0 n) ]

    -- an empty slot is a gap
    pub none-gap : (n : ℕ) → spill (counts L) m 0 ≤ n → A n ≡ None → IsGap (counts L) m n
    none-gap n l none = grind (arith, seen n l)

    -- slots laid out are in order
    pub laid-ordered : ((n : ℕ) → A (n + m) ≡ A n) → IsOrdered A
    laid-ordered again = record {
      next = λ n. elim (seen (suc n + m) (omega (arith, spill-lt (counts L) m roomy 0))) [
        | inl g ↦ grind (arith, g, again (suc n))
        | inr p ↦ grind (arith, p, seen (n + m) (omega (arith, spill-lt (counts L) m roomy 0)), spill-step (counts L) m roomy (n + m), apart (counts L) m roomy p.0, again n, again (suc n))
      ];
    }

    module _ (w : E → ℕ) where
      -- the slots of home h have the same sum as its list
      part_sum : (h k : ℕ) → k ≤ counts L h → window (λ n. weight w (A n)) (h + spill (counts L) m h) k ≡ sum_by w (take k (L h))
      part_sum h zero l = refl
      part_sum h (suc k) l = elim (slice_get_cases (L h) k).1 [ inl r ↦ grind (arith, r, part_sum h k, rw add-one at (sum_by_more w (L h) k r.0 l)) | inr past ↦ absurd (omega arith) ]

      -- the slots of the k homes from z on
      homes_sum : (z : ℕ) → spill (counts L) m z ≡ 0 → (k : ℕ) → window (λ n. weight w (A n)) z (k + spill (counts L) m (z + k)) ≡ window (λ h. sum_by w (L h)) z k
      homes_sum z start zero = grind (arith, counts)
      homes_sum z start (suc k) =
          let c : ℕ = counts L (z + k) in
          let s : ℕ = spill (counts L) m (z + k) in
          let part : window (λ n. weight w (A n)) z (k + s + c) ≡ window (λ h. sum_by w (L h)) z (suc k) = grind (arith, window-add, homes_sum z start k, part_sum (z + k) c, take_all c (L (z + k))) in
          elim (cases_lt 0 (s + c)) [
            | inl more ↦ let e : suc k + spill (counts L) m (z + suc k) ≡ k + s + c = grind (arith, spill-step (counts L) m roomy (z + k)) in rw e part
            | inr none ↦ let e : suc k + spill (counts L) m (z + suc k) ≡ suc k = grind (arith, spill-step (counts L) m roomy (z + k)) in rw e (grind (arith, homes_sum z start k, laid.rest (z + k)))
          ]

      pub laid-sum : ((n : ℕ) → L (n + m) ≡ L n) → ((n : ℕ) → A (n + m) ≡ A n) → window (λ n. weight w (A n)) 0 m ≡ window (λ h. sum_by w (L h)) 0 m
      laid-sum same again =
          let g = gap (counts L) m roomy 0 in
          grind (arith, g, spill-step (counts L) m roomy (0 + g.0), homes_sum (suc (0 + g.0)), spill-again (counts L) m roomy.again (suc (0 + g.0)), window-lap)

  -- two lists of slots laid out for the same lists show the same
  pub laid-same : (m : ℕ) (L : ℕ → List E) (A B : ℕ → Option (Placed E)) → Roomy (counts L) m
      → ((n : ℕ) → A (n + m) ≡ A n) → ((n : ℕ) → B (n + m) ≡ B n) → IsLaid m L A → IsLaid m L B → (n : ℕ) → A n ≡ B n
  laid-same m L A B roomy a b p q n =
      grind (arith, taken (counts L) m roomy (n + m) (omega (arith, spill-lt (counts L) m roomy 0)), a n, b n, p.rest (n + m), q.rest (n + m), shows m L A roomy p (n + m), shows m L B roomy q (n + m))

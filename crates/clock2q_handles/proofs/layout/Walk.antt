-- Slots in order, as a walk from a home sees them: entries of earlier homes, its own, and then an empty slot or an entry nearer its home. They are the layout of the lists that are read off them.
use Rattle.std.proofs.Common.{◌≡◌, ℕ, zero, suc, ◌+◌, ◌-◌, ◌<◌, ◌≤◌, ◌⊎◌, inl, inr, min, refl, ap, sym, ◌∙◌, arith, List, [], ◌∷◌, ◌++◌, length, Option, Some, None, append-nil, length-append}
use Rattle.std.proofs.Common.{slice_get, get_or}
use Rattle.std.proofs.lemmas.Bool.{cases_lt}
use Rattle.std.proofs.lemmas.Option.{slice_get_within, slice_get-get_or}
use Rattle.std.proofs.lemmas.List.{same_lists}
use Rattle.clock2q_handles.specs.Layout.{Placed, placed, window, spill, reach, at_home, met, IsOrdered}
use Rattle.clock2q_handles.proofs.layout.Spill.{first_zero, Roomy, spill-again, spill-lt, spill-step, window-lap, unique, apart}
use Rattle.clock2q_handles.proofs.layout.Periods.{lap, lap-lt, lap-same}
use Rattle.clock2q_handles.proofs.layout.Laid.{counts, IsLaid, seen, laid-ordered, at_home-own, at_home-other, reach-none, met-last, met-add, met-again}

-- the first n slots from h on hold entries at least t further from their homes than the slot is from h, and slot n doesn't
pub record Stops {E : Type 0} (A : ℕ → Option (Placed E)) (h t n : ℕ) : Type 0 where
  pub before : (j : ℕ) → j < n → j + t < reach (A (h + j))
  pub stop : reach (A (h + n)) ≤ n + t

pub slice_get-append : {E : Type 0} (xs ys : List E) (i : ℕ) (e : E) → slice_get (xs ++ ys) i ≡ Some e → (slice_get xs i ≡ Some e) ⊎ ((length xs ≤ i) × (slice_get ys (i - length xs) ≡ Some e))
slice_get-append [] ys i e is = grind arith
slice_get-append (x ∷ xs) ys zero e is = inl is
slice_get-append (x ∷ xs) ys (suc i) e is = grind (arith, slice_get-append xs ys i e is)

module _ {E : Type 0} (A : ℕ → Option (Placed E)) (ordered : IsOrdered A) where
  -- past the stop no entry is further from its home either
  pub after : (h t n : ℕ) → reach (A (h + n)) ≤ n + t → (j : ℕ) → n ≤ j → reach (A (h + j)) ≤ j + t
  after h t n stop zero l = grind arith
  after h t n stop (suc j) l = grind (arith, cases_lt j n, after h t n stop j, ordered.next (h + j))

  pub stops-unique : (h t n k : ℕ) → Stops A h t n → Stops A h t k → n ≡ k
  stops-unique h t n k p q = grind arith

  -- the entries that the next home's walk passes first
  stops-next : (h n : ℕ) → Stops A h 0 n → Stops A (suc h) 1 (n - 1)
  stops-next h n s = record { before = λ j l. grind (arith, s.before (suc j)); stop = grind (arith, s.stop, ordered.next h) }

  -- past its stop a walk meets no entry of its home
  pub met-late : (h n k : ℕ) → reach (A (h + n)) ≤ n → met A h n k ≡ []
  met-late h n zero l = refl
  met-late h n (suc k) l = grind (arith, at_home-other, after, met-late h (suc n) k)

  module _ (h p q : ℕ) (pushes : Stops A h 1 p) (ends : Stops A h 0 q) where
    -- a slot k past h: one of the home's own entries, or none
    own : (k : ℕ) → ((p ≤ k) × (k < q) × ((e : E) × (A (h + k) ≡ Some (placed k e)) × (at_home (A (h + k)) k ≡ e ∷ []))) ⊎ (((k < p) ⊎ (q ≤ k)) × (at_home (A (h + k)) k ≡ []))
    own k = grind (arith, cases_lt k p, cases_lt k q, at_home-other (A (h + k)) k, at_home-own (A (h + k)) k, pushes.before k, ends.before k, after h 1 p pushes.stop k, after h 0 q ends.stop k)

    -- among the first k slots a walk meets the home's entries from the pushed ones on
    met-length : (k : ℕ) → length (met A h 0 k) ≡ min k q - min k p
    met-length zero = omega arith
    met-length (suc k) = grind (arith, met-last A h 0 k, length-append (met A h 0 k) (at_home (A (h + k)) k), own k, met-length k)

    met-entry : (k i : ℕ) (e : E) → slice_get (met A h 0 k) i ≡ Some e → A (h + (p + i)) ≡ Some (placed (p + i) e)
    met-entry zero i e is = absurd (cc)
    met-entry (suc k) i e is = elim (slice_get-append (met A h 0 k) (at_home (A (h + (0 + k))) (0 + k)) i e (rw (met-last A h 0 k) at is)) [
      | inl front ↦ met-entry k i e front
      | inr last ↦
          let within = slice_get_within (at_home (A (h + (0 + k))) (0 + k)) (i - length (met A h 0 k)) e last.1 in
          elim (own k) [ inl mine ↦ grind (arith, last, mine, met-length k, within) | inr none ↦ grind (arith, none, within) ]
    ]

  module _ (m : ℕ) (again : (n : ℕ) → A (n + m) ≡ A n) (some : 0 < m) (v : ℕ) (vacant : A v ≡ None) where
    -- where a walk from h stops
    pub stop : (h t : ℕ) → (n : ℕ) × (n < m) × Stops A h t n
    stop h t = grind (arith, first_zero (λ j. reach (A (h + j)) - (j + t)) (suc (lap m h v)), lap-lt m h v some, lap-same A m again some h v)

    -- the number of entries of earlier homes from h on
    abbrev pushed : ℕ → ℕ
    pushed h = (stop h 1).0

    -- the number with those of h
    abbrev ending : ℕ → ℕ
    ending h = (stop h 0).0

    pushed-le : (h : ℕ) → pushed h ≤ ending h
    pushed-le h = grind (arith, cases_lt (ending h) (pushed h), (stop h 0).2, (stop h 1).2)

    pushed-step : (h : ℕ) → pushed (suc h) ≡ ending h - 1
    pushed-step h = stops-unique (suc h) 1 (pushed (suc h)) (ending h - 1) (stop (suc h) 1).2 (stops-next h (ending h) (stop h 0).2)

    pushed-again : (h : ℕ) → pushed (h + m) ≡ pushed h
    pushed-again h = stops-unique (h + m) 1 (pushed (h + m)) (pushed h) (stop (h + m) 1).2
        (record { before = λ j l. grind (arith, (stop h 1).2.before j, again (h + j)); stop = grind (arith, (stop h 1).2.stop, again (h + pushed h)) })

    -- each home's list, read off the slots
    abbrev lists : ℕ → List E
    lists h = met A h 0 m

    lists-length : (h : ℕ) → length (lists h) ≡ ending h - pushed h
    lists-length h = omega (arith, met-length h (pushed h) (ending h) (stop h 1).2 (stop h 0).2 m, (stop h 0).1, pushed-le h)

    ending_at_vacant : ending v ≡ 0
    ending_at_vacant = grind (arith, cases_lt 0 (ending v), (stop v 0).2)

    lap_sum : (k : ℕ) → suc (window (counts lists) v (suc k)) ≤ pushed (v + suc k) + suc k
    lap_sum zero = grind (arith, lists-length v, ending_at_vacant)
    lap_sum (suc k) = grind (arith, lap_sum k, lists-length (v + suc k), pushed-step (v + suc k), pushed-le (v + suc k))

    pub lists-roomy : Roomy (counts lists) m
    lists-roomy = record {
      again = λ n. ap length (met-again A m n 0 m again);
      room = grind (arith, window-lap (counts lists) m (λ n. ap length (met-again A m n 0 m again)) v, lap_sum (m - 1), pushed-again v, pushed-le v, ending_at_vacant);
    }

    -- what is spilled at a home is what a walk from it passes first
    spill-pushed : (h : ℕ) → spill (counts lists) m h ≡ pushed h
    spill-pushed h =
        let from = unique (counts lists) m lists-roomy (suc v) (λ j. pushed (suc v + j)) (grind (arith, pushed-step v, ending_at_vacant))
        (omega (arith, pushed-again (suc v), pushed-step v, ending_at_vacant)) (λ j l. grind (arith, pushed-step (suc v + j), lists-length (suc v + j), pushed-le (suc v + j))) in
        let same = lap-same (spill (counts lists) m) m (spill-again (counts lists) m lists-roomy.again) some (suc v) h in
        grind (arith, same, from (lap m (suc v) h), lap-lt m (suc v) h some, lap-same pushed m pushed-again some (suc v) h)

    -- and with its own entries it has passed all up to its stop
    ending-sum : (h : ℕ) → ending h ≡ spill (counts lists) m h + counts lists h
    ending-sum h = omega (arith, spill-pushed h, lists-length h, pushed-le h)

    -- slots in order are the layout of the lists that are read off them
    pub ordered-laid : IsLaid m lists A
    ordered-laid = record {
      standing = λ h i e is. grind (arith, spill-pushed h, met-entry h (pushed h) (ending h) (stop h 1).2 (stop h 0).2 m i e is);
      rest = λ n g. reach-none (A n) (grind (arith, ending-sum n, g.spilled, g.counted, (stop n 0).2.stop));
    }

    -- a walk stops past its home's last entry
    pub stop-sum : (h n : ℕ) → Stops A h 0 n → n ≡ spill (counts lists) m h + counts lists h
    stop-sum h n s = stops-unique h 0 n (ending h) s (stop h 0).2 ∙ ending-sum h

    -- an entry's displacement: what is spilled at its home, and the home's entries before it
    pub met-count : (h d : ℕ) → reach (A (h + d)) ≡ suc d → spill (counts lists) m h + length (met A h 0 d) ≡ d
    met-count h d r =
        let found = own h (pushed h) (ending h) (stop h 1).2 (stop h 0).2 d in
        grind (arith, found, at_home-own (A (h + d)) d r, met-length h (pushed h) (ending h) (stop h 1).2 (stop h 0).2 d, spill-pushed h)

    -- a home's list is what its walk meets up to the stop
    pub met-stop : (h n : ℕ) → n ≤ m → Stops A h 0 n → lists h ≡ met A h 0 n
    met-stop h n l s = grind (arith, met-add A h 0 n (m - n), met-late, append-nil (met A h 0 n))

module _ {E : Type 0} (m : ℕ) (L : ℕ → List E) (A : ℕ → Option (Placed E)) (roomy : Roomy (counts L) m) (laid : IsLaid m L A) (again : (n : ℕ) → A (n + m) ≡ A n) where
  -- where a walk from h stops in slots that are laid out
  laid-ends : (h : ℕ) → spill (counts L) m 0 ≤ h → Stops A h 0 (spill (counts L) m h + counts L h)
  laid-ends h l = record {
    before = λ j u. elim (seen m L A roomy laid (h + j) (omega arith)) [ inl g ↦ grind (arith, g, apart (counts L) m roomy h (h + j)) | inr p ↦ grind (arith, p, apart (counts L) m roomy h p.0) ];
    stop = elim (seen m L A roomy laid (h + (spill (counts L) m h + counts L h)) (omega arith)) [ inl g ↦ omega (arith, g.1) | inr p ↦ grind (arith, p, apart (counts L) m roomy p.0 h) ];
  }

  -- each home's list is read off slots that are laid out
  pub laid-met : ((n : ℕ) → L (n + m) ≡ L n) → (h : ℕ) → met A h 0 m ≡ L h
  laid-met same h =
      let g : ℕ = h + m in
      let s : ℕ = spill (counts L) m g in
      let late = spill-lt (counts L) m roomy 0 in
      let ordered = laid-ordered m L A roomy laid again in
      let pushes : Stops A g 1 s = grind (arith, stops-next A ordered (g - 1) (spill (counts L) m (g - 1) + counts L (g - 1)), laid-ends (g - 1), late, spill-step (counts L) m roomy (g - 1)) in
      let ends = laid-ends g (omega (arith, late)) in
      let len = met-length A ordered g s (s + counts L g) pushes ends m in
      let same_length : length (met A g 0 m) ≡ length (L g) = omega (arith, len, spill-lt (counts L) m roomy g, spill-lt (counts L) m roomy (suc g), spill-step (counts L) m roomy g) in
      sym (met-again A m h 0 m again) ∙ same_lists (met A g 0 m) (L g) same_length (λ k d l.
      grind (
        arith,
        met-entry A ordered g s (s + counts L g) pushes ends m k (get_or (met A g 0 m) k d) (slice_get-get_or (met A g 0 m) k d l),
        laid.standing g k (get_or (L g) k d) (slice_get-get_or (L g) k d (omega (arith, same_length))),
      )) ∙ same h

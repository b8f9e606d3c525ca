-- What moving the entries of a run on by one slot, for an entry put in before them, does to the order of the slots, to the number of entries and to the lists that are read off the slots.
use Rattle.std.proofs.Common.{◌≡◌, ℕ, zero, suc, ◌+◌, ◌-◌, ◌%◌, ◌<◌, ◌≤◌, min, ◌⊎◌, refl, ap, sym, ◌∙◌, arith, List, [], ◌∷◌, ◌++◌, length, get_or, Option, Some, None}
use Rattle.std.proofs.Common.{append-nil, ext_get_or, mod-eq_of_lt, eq-eqb}
use Rattle.std.proofs.lemmas.Bool.{cases_lt}
use Rattle.std.proofs.Math.Nat.{add-mod_right, mod-add-mod}
use Rattle.clock2q_handles.specs.Homes.{listed, with_list}
use Rattle.clock2q_handles.specs.Layout.{Placed, placed, window, slot_at, reach, at_home, met, entries, homes_of, IsOrdered}
use Rattle.clock2q_handles.specs.Shifts.{Opens, moved_on}
use Rattle.clock2q_handles.proofs.layout.Laid.{met-add, met-same, met-again, at_home-other, weight, entries-sum}
use Rattle.clock2q_handles.proofs.layout.Periods.{again-at, lap, lap-lt, lap-same, rems-differ}
use Rattle.clock2q_handles.proofs.layout.Reading.{slot-again, slots_again}
use Rattle.clock2q_handles.proofs.layout.Spill.{window-add, window-lap, window-same, window-front, window-shift}
use Rattle.clock2q_handles.proofs.layout.TidyLayout.{sum_by_one, length-homes_of, listed-homes_of}
use Rattle.clock2q_handles.proofs.layout.Walk.{met-late}
use Rattle.clock2q_handles.proofs.shifts.Changes.{length-with_list, listed-with_same, listed-with_other}

-- homes that are equally far from the same slot are the same
pub home_same : (m h x d : ℕ) → 0 < m → (h + d) % m ≡ (x + d) % m → h % m ≡ x % m
home_same m h x d some e = grind (arith, mod-add-mod h m d, mod-add-mod x m d, rems-differ m (h % m + d) (x % m + d), rems-differ m (x % m + d) (h % m + d))

module _ {E : Type 0} where
  pub reach-moved_on : (o : Option (Placed E)) → reach (moved_on o) ≡ reach o + min 1 (reach o)
  reach-moved_on o = grind arith

  met-on : (A B : ℕ → Option (Placed E)) (h d k : ℕ) → ((j : ℕ) → d ≤ j → j < d + k → B (h + suc j) ≡ moved_on (A (h + j))) → met B h (suc d) k ≡ met A h d k
  met-on A B h d zero on = refl
  met-on A B h d (suc k) on = grind (arith, met-on A B h (suc d) k (λ j from upto. on j (omega arith) (omega arith)), on d)

  -- past the stop of a walk nothing is read
  met-upto : (A : ℕ → Option (Placed E)) → IsOrdered A → (h k m : ℕ) → k ≤ m → reach (A (h + k)) ≤ k → met A h 0 m ≡ met A h 0 k
  met-upto A ordered h k m l stop = grind (arith, met-add A h 0 k (m - k), met-late A ordered h k (m - k) stop, append-nil (met A h 0 k))

  -- there are as many entries as occupied slots on a lap
  entries-lap : (slots : List (Option (Placed E))) (g : ℕ) → length (entries slots) ≡ window (λ k. weight (λ _. 1) (slot_at slots k)) g (length slots)
  entries-lap slots g =
      let around = window-same (λ k. weight (λ _. 1) (get_or slots k None)) (λ k. weight (λ _. 1) (slot_at slots k)) 0 (length slots) (λ j l. grind (arith, mod-eq_of_lt l)) in
      sym (sum_by_one (entries slots)) ∙ entries-sum (λ _. 1) slots ∙ around
      ∙ sym (window-lap (λ k. weight (λ _. 1) (slot_at slots k)) (length slots) (λ k. ap (weight (λ _. 1)) (slot-again slots k)) g)

  -- what holds on one lap holds of every slot
  reach-lap : (A : ℕ → Option (Placed E)) (m g : ℕ) → ((k : ℕ) → A (k + m) ≡ A k) → 0 < m → (b : ℕ) → ((j : ℕ) → j < m → reach (A (g + j)) ≤ b) → (k : ℕ) → reach (A k) ≤ b
  reach-lap A m g again some b bound k = omega (arith, bound (lap m g k) (lap-lt m g k some), ap reach (lap-same A m again some g k))

  next-lap : (A B : ℕ → Option (Placed E)) (m g : ℕ) → ((k : ℕ) → A (k + m) ≡ A k) → ((k : ℕ) → B (k + m) ≡ B k) → 0 < m
      → ((j : ℕ) → j < m → reach (B (g + suc j)) ≤ suc (reach (A (g + j)))) → (k : ℕ) → reach (B (suc k)) ≤ suc (reach (A k))
  next-lap A B m g again again' some next k =
      let on = lap-same (λ i. B (suc i)) m (λ i. grind (arith, again' (suc i))) some g k in
      grind (arith, next (lap m g k), lap-lt m g k some, on, lap-same A m again some g k)

  -- the order of the slots, counted from one of them
  next-from : (A : ℕ → Option (Placed E)) → IsOrdered A → (g j : ℕ) → reach (A (g + suc j)) ≤ suc (reach (A (g + j)))
  next-from A ordered g j = grind arith

  module _ {A B : ℕ → Option (Placed E)} {m g n v : ℕ} {e : E} (opens : Opens A B m g n v e) (again : (k : ℕ) → A (k + m) ≡ A k) (again' : (k : ℕ) → B (k + m) ≡ B k) where
    moved-reach : (j : ℕ) → n ≤ j → j < v → reach (B (g + suc j)) ≡ reach (A (g + j)) + min 1 (reach (A (g + j)))
    moved-reach j from upto = grind (arith, opens.moved j)

    kept-reach : (j : ℕ) → j < m → j < n ⊎ v < j → reach (B (g + j)) ≡ reach (A (g + j))
    kept-reach j l apart = grind (arith, opens.before j, opens.after j)

    -- past the run, the slots of the lap are the same
    past_lap : (i : ℕ) → v - n < i → i < m → B (g + n + i) ≡ A (g + n + i)
    past_lap i from l =
        let before : g + n + i ≡ g + (n + i) = omega arith in
        let around : m ≤ n + i → g + n + i ≡ g + (n + i - m) + m = λ past. omega arith in
        grind (arith, before, around, opens.from, cases_lt (n + i) m, opens.after (n + i), opens.before (n + i - m), again (g + (n + i - m)), again' (g + (n + i - m)))

    pub opened-ordered : IsOrdered A → ((j : ℕ) → j < n → j < reach (A (g + j))) → reach (A (g + n)) ≤ n → ((j : ℕ) → j < v → 0 < reach (A (g + j))) → IsOrdered B
    opened-ordered ordered passed stop full = record { next = next-lap B B m g again' again' (omega (arith, opens.upto)) step }
      where
        step : (j : ℕ) → j < m → reach (B (g + suc j)) ≤ suc (reach (B (g + j)))
        step zero l = grind (arith, ordered, ap reach opens.put, moved-reach 0, kept-reach 0, kept-reach 1, opens, full 0, again g, again' g)
        step (suc j) l = grind (
          arith,
          next-from A ordered g j,
          next-from A ordered g (suc j),
          ap reach opens.put,
          moved-reach j,
          moved-reach (suc j),
          kept-reach 0,
          kept-reach (suc j),
          kept-reach (suc (suc j)),
          ap reach opens.vacant,
          passed j,
          full j,
          full (suc j),
          again g,
          again' g,
        )

    -- no entry reaches more than one slot further than the slot before it allowed
    pub opened-on : IsOrdered A → ((j : ℕ) → j < n → j < reach (A (g + j))) → (k : ℕ) → reach (B (suc k)) ≤ suc (reach (A k))
    opened-on ordered passed = next-lap A B m g again again' (omega (arith, opens.upto)) (λ j l. grind (arith, ordered, ap reach opens.put, moved-reach j, kept-reach 0, kept-reach (suc j), passed j))

    -- the entry past the run is at most at its home
    pub opened-near : IsOrdered A → reach (B (g + suc v)) ≤ 1
    opened-near ordered = grind (arith, cases_lt (suc v) m, kept-reach (suc v), ap reach opens.put, kept-reach 0, ordered.next (g + v), ap reach opens.vacant, opens, again g, again' g)

    pub closed-ordered : IsOrdered B → reach (B (g + suc v)) ≤ 1 → ((j : ℕ) → j ≤ v → 0 < reach (B (g + j))) → IsOrdered A
    closed-ordered ordered near full = record {
      next = next-lap A A m g again again (omega (arith, opens.upto)) (λ j l.
          grind (
            arith,
            next-from B ordered g j,
            next-from B ordered g (suc j),
            ap reach opens.put,
            moved-reach j,
            moved-reach (suc j),
            kept-reach 0,
            kept-reach j,
            kept-reach (suc j),
            ap reach opens.vacant,
            full (suc j),
            full (suc (suc j)),
            again g,
            again' g,
          ));
    }

    -- how far the entries are past their homes
    pub opened-within : (b : ℕ) → ((k : ℕ) → reach (A k) ≤ b) → n < b → ((j : ℕ) → n ≤ j → j < v → reach (A (g + j)) < b) → (k : ℕ) → reach (B k) ≤ b
    opened-within b bound own room = reach-lap B m g again' (omega (arith, opens.upto)) b step
      where
        step : (j : ℕ) → j < m → reach (B (g + j)) ≤ b
        step zero l = grind (arith, ap reach opens.put, kept-reach 0, bound (g + 0))
        step (suc j) l = grind (arith, ap reach opens.put, moved-reach j, kept-reach (suc j), bound (g + suc j), room j)

    pub closed-within : (b : ℕ) → ((k : ℕ) → reach (B k) ≤ b) → (k : ℕ) → reach (A k) ≤ b
    closed-within b bound = reach-lap A m g again (omega (arith, opens.upto)) b (λ j l. grind (arith, moved-reach j, kept-reach j, bound (g + j), bound (g + suc j), ap reach opens.vacant))

    -- a home's list, read from h on, where the run's first empty slot was c past h
    module _ (ordered : IsOrdered A) (ordered' : IsOrdered B) (near : reach (B (g + suc v)) ≤ 1) (h c : ℕ) (within : c < m) (at : h + c ≡ g + v + m) where
      was : met A h 0 m ≡ met A h 0 c
      was = met-upto A ordered h c m (omega arith) (omega (arith, ap reach (again-at A m again (h + c) (g + v) at), ap reach opens.vacant))

      is : met B h 0 m ≡ met B h 0 (suc c)
      is = met-upto B ordered' h (suc c) m (omega arith) (omega (arith, near, ap reach (again-at B m again' (h + suc c) (g + suc v) (omega arith))))

      on : (j : ℕ) → c ≤ j + (v - n) → j < c → B (h + suc j) ≡ moved_on (A (h + j))
      on j past upto =
          let i : ℕ = v + j - c in
          grind (arith, again-at B m again' (h + suc j) (g + suc i), opens.moved i, again-at A m again (h + j) (g + i))

      -- the home is among the slots that moved
      in_run : c < v - n → met B h 0 m ≡ met A h 0 m
      in_run l =
          let i : ℕ = v - suc c in
          grind (arith, was, is, met-on A B h 0 c (λ j _ upto. on j (omega arith) (omega arith)), again-at B m again' (h + 0) (g + suc i), opens.moved i)

      -- or not
      past_run : v - n ≤ c → met B h 0 m ≡ met A h 0 (c - (v - n)) ++ (at_home (Some (placed n e)) (c - (v - n)) ++ met A h (c - (v - n)) (v - n))
      past_run l =
          let k : ℕ = v - n in
          let a : ℕ = c - k in
          let put : B (h + a) ≡ Some (placed n e) = again-at B m again' (h + a) (g + n) (omega arith) ∙ opens.put in
          let front : met B h 0 a ≡ met A h 0 a = met-same B A h h 0 a (λ j _ u. let i : ℕ = m + k + j - c in let q : g + n + i ≡ h + j = omega (arith, opens.from) in grind (arith, q, past_lap i)) in
          let rest : met B h (suc a) k ≡ met A h a k = met-on A B h a k (λ j from upto. on j (omega arith) (omega arith)) in
          let whole : suc c ≡ a + suc k = omega arith in
          let start : 0 + a ≡ a = omega arith in
          is ∙ ap (met B h 0) whole ∙ rw (met-add B h 0 a (suc k), start, front, put, rest)

      -- another home's list stays the same
      other_home : (c ≡ v → ⊥) → met B h 0 m ≡ met A h 0 m
      other_home other = grind (arith, cases_lt c (v - n), in_run, past_run, at_home-other (Some (placed n e)) (c - (v - n)), was, met-add A h 0 (c - (v - n)) (v - n))

  module _ (slots others : List (Option (Placed E))) {m g n v : ℕ} {e : E} (len : length slots ≡ m) (len' : length others ≡ m) (opens : Opens (slot_at slots) (slot_at others) m g n v e) where
    -- one more entry
    pub opened-entries : length (entries others) ≡ suc (length (entries slots))
    opened-entries =
        let f : ℕ → ℕ = λ i. weight (λ _. 1) (slot_at slots i) in
        let h : ℕ → ℕ = λ i. weight (λ _. 1) (slot_at others i) in
        let p : ℕ = g + n in
        let k : ℕ = v - n in
        let r : ℕ = m - suc k in
        let rest = window-same h f (suc p + k) r (λ j l. grind (arith, past_lap opens (slots_again slots m len) (slots_again others m len') (suc k + j))) in
        let moved = window-same (λ i. h (suc i)) f p k (λ j l. grind (arith, opens.moved (n + j))) in
        let whole : m ≡ k + suc r = omega (arith, opens.upto) in
        let hole : p + k ≡ g + v = omega (arith, opens.from) in
        let whole' : m ≡ suc (k + r) = omega (arith, whole) in
        grind (
          arith,
          entries-lap slots p,
          entries-lap others p,
          ap (window f p) (len ∙ whole),
          ap (window h p) (len' ∙ whole'),
          window-add f p k (suc r),
          window-front f (p + k) r,
          window-front h p (k + r),
          window-add h (suc p) k r,
          window-shift h p k,
          rest,
          moved,
          ap f hole,
          ap (weight (λ _. 1)) opens.vacant,
          ap (weight (λ _. 1)) opens.put,
        )

    -- and the lists, seen from the home
    module _ (ordered : IsOrdered (slot_at slots)) (ordered' : IsOrdered (slot_at others)) (near : reach (slot_at others (g + suc v)) ≤ 1) where
      pub own-before : listed (homes_of slots) g ≡ met (slot_at slots) g 0 n ++ met (slot_at slots) g n (v - n)
      own-before =
          let upto = met-upto (slot_at slots) ordered g v m (omega (arith, opens.upto)) (omega (arith, ap reach opens.vacant)) in
          grind (arith, listed-homes_of slots g, len, upto, opens.from, met-add (slot_at slots) g 0 n (v - n))

      pub own-after : listed (homes_of others) g ≡ met (slot_at slots) g 0 n ++ e ∷ met (slot_at slots) g n (v - n)
      own-after =
          let again = slots_again slots m len in
          let lap_on = past_run opens again (slots_again others m len') ordered ordered' near (g + m) v opens.upto (omega arith) (omega arith) in
          let back : v - (v - n) ≡ n = omega (arith, opens.from) in
          let here = rw (back, eq-eqb n n refl, met-again (slot_at slots) m g 0 n again, met-again (slot_at slots) m g n (v - n) again) at lap_on in
          rw (listed-homes_of others g, len', ← met-again (slot_at others) m g 0 m (slots_again others m len')) here

      pub others-kept : (h : ℕ) → (h % m ≡ g % m → ⊥) → listed (homes_of others) h ≡ listed (homes_of slots) h
      others-kept h other =
          let c : ℕ = lap m h (g + v) in
          let k : ℕ = g + v + m - c in
          let within : c < m = lap-lt m h (g + v) (omega (arith, opens.upto)) in
          let at : k + c ≡ g + v + m = omega arith in
          let same = lap-same (λ x. x % m) m (λ x. add-mod_right x m) (omega (arith, opens.upto)) h (g + v) in
          let home : h % m ≡ k % m = home_same m h k c (omega arith) (grind (arith, same, at, add-mod_right (g + v) m)) in
          let is = other_home opens (slots_again slots m len) (slots_again others m len') ordered ordered' near k c within at (λ q. other (home ∙ ap (λ x. x % m) (omega arith) ∙ add-mod_right g m)) in
          grind (arith, length-homes_of, listed-homes_of slots k, listed-homes_of others k, home, is, len, len')

  -- slots that are read as other slots but for one home's list
  pub with_list-read : (slots others : List (Option (Placed E))) (x : ℕ) (es : List E) → length others ≡ length slots → 0 < length slots → listed (homes_of others) x ≡ es
      → ((h : ℕ) → (h % length slots ≡ x % length slots → ⊥) → listed (homes_of others) h ≡ listed (homes_of slots) h) → homes_of others ≡ with_list (homes_of slots) x es
  with_list-read slots others x es same some own kept =
      let len : length (homes_of others) ≡ length (with_list (homes_of slots) x es) = grind (arith, length-homes_of, length-with_list) in
      ext_get_or [] (homes_of others) (with_list (homes_of slots) x es) len (λ h l.
      grind (arith, mod-eq_of_lt l, len, length-homes_of, listed-with_same (homes_of slots) x h, listed-with_other (homes_of slots) x h, own, kept h))

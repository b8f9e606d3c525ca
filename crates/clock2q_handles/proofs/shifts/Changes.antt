-- Lists with another in one home's place, and what is read off a table's slots.
use Rattle.std.proofs.Common.{◌≡◌, ℕ, suc, ◌+◌, ◌-◌, ◌%◌, ◌<◌, ◌≤◌, refl, ap, sym, ◌∙◌, subst, arith, eq-eqb, List, ◌∷◌, ◌++◌, length, get_or-set_same, get_or-set_other}
use Rattle.std.proofs.Common.{length-set, Option, Some, None}
use Rattle.std.proofs.lemmas.Bool.{cases_lt}
use Rattle.std.proofs.lemmas.List.Sums.{sum_by-set}
use Rattle.clock2q_handles.specs.Homes.{home, listed, count, total, with_list}
use Rattle.clock2q_handles.specs.Layout.{Placed, placed, spill, spill_of, slot_at, reach, met, homes_of, IsTidy}
use Rattle.clock2q_handles.proofs.layout.Spill.{Roomy, spill-lt, IsOneMore, one-more}
use Rattle.clock2q_handles.proofs.layout.Periods.{lap, lap-lt, lap-same, other_home}
use Rattle.clock2q_handles.proofs.layout.Laid.{counts, IsLaid, met-add, none-gap}
use Rattle.clock2q_handles.proofs.layout.Walk.{Stops, stop-sum, met-count, met-stop}
use Rattle.clock2q_handles.proofs.layout.Reading.{slot-again}
use Rattle.clock2q_handles.proofs.layout.TidyLayout.{roomy-of, length-homes_of, listed-homes_of, tidy-vacant}

module _ {E : Type 0} where
  pub length-with_list : (homes : List (List E)) (x : ℕ) (es : List E) → length (with_list homes x es) ≡ length homes
  length-with_list homes x es = length-set homes (home homes x) es

  pub listed-with_same : (homes : List (List E)) (x n : ℕ) (es : List E) → 0 < length homes → n % length homes ≡ x % length homes → listed (with_list homes x es) n ≡ es
  listed-with_same homes x n es some same = grind (arith, length-with_list, get_or-set_same)

  pub listed-with_other : (homes : List (List E)) (x n : ℕ) (es : List E) → (n % length homes ≡ x % length homes → ⊥) → listed (with_list homes x es) n ≡ listed homes n
  listed-with_other homes x n es other = grind (arith, length-with_list, get_or-set_other)

  pub total-with_list : (homes : List (List E)) (x : ℕ) (es : List E) → 0 < length homes → total (with_list homes x es) + count homes x ≡ total homes + length es
  total-with_list homes x es some = grind (arith, sum_by-set)

  -- an empty slot bounds what is known of the slots before it: it is within a lap of the home
  pub vacant_within : (A : ℕ → Option (Placed E)) (m h v : ℕ) → ((n : ℕ) → A (n + m) ≡ A n) → 0 < m → (w : ℕ) → A w ≡ None → ((j : ℕ) → j < v → 1 ≤ reach (A (h + j))) → v < m
  vacant_within A m h v again some w vacant full = grind (arith, cases_lt v m, lap m h w, lap-lt m h w some, lap-same A m again some h w)

  -- the entry d past its home is between what a walk meets before and after it
  pub read-split : (slots : List (Option (Placed E))) (h d : ℕ) (e : E) → d < length slots → slot_at slots (h + d) ≡ Some (placed d e)
      → listed (homes_of slots) h ≡ met (slot_at slots) h 0 d ++ e ∷ met (slot_at slots) h (suc d) (length slots - suc d)
  read-split slots h d e l here = grind (arith, eq-eqb d d refl, listed-homes_of slots h, met-add (slot_at slots) h 0 d (suc (length slots - suc d)))

  -- where a walk of an ordered table stops
  pub read-stop : (slots : List (Option (Placed E))) → IsTidy slots → 0 < length slots → (h n : ℕ) → Stops (slot_at slots) h 0 n → n ≡ spill_of (homes_of slots) h + count (homes_of slots) h
  read-stop slots tidy some h n stops =
      let v = tidy-vacant slots tidy some in
      let at = stop-sum (slot_at slots) tidy.ordered (length slots) (slot-again slots) some v.0 v.1 h n stops in
      grind (arith, length-homes_of slots, subst (λ L. n ≡ spill (counts L) (length slots) h + counts L h) (λ i x. sym (listed-homes_of slots x) i) at)

  -- what it has met by then is its home's list
  pub read-met : (slots : List (Option (Placed E))) → IsTidy slots → 0 < length slots → (h n : ℕ)
      → n ≤ length slots → Stops (slot_at slots) h 0 n → listed (homes_of slots) h ≡ met (slot_at slots) h 0 n
  read-met slots tidy some h n l stops =
      let v = tidy-vacant slots tidy some in
      listed-homes_of slots h ∙ met-stop (slot_at slots) tidy.ordered (length slots) (slot-again slots) some v.0 v.1 h n l stops

  -- the displacement of an entry d past its home
  pub read-count : (slots : List (Option (Placed E))) → IsTidy slots → 0 < length slots → (h d : ℕ)
      → reach (slot_at slots (h + d)) ≡ suc d → spill_of (homes_of slots) h + length (met (slot_at slots) h 0 d) ≡ d
  read-count slots tidy some h d r =
      let v = tidy-vacant slots tidy some in
      let at = met-count (slot_at slots) tidy.ordered (length slots) (slot-again slots) some v.0 v.1 h d r in
      rw (length-homes_of slots) (subst (λ L. spill (counts L) (length slots) h + length (met (slot_at slots) h 0 d) ≡ d) (λ i x. sym (listed-homes_of slots x) i) at)

  -- one more entry in a home from which the slots are full up to a hole
  pub one-put : (m h v : ℕ) (L M : ℕ → List E) (A : ℕ → Option (Placed E)) → Roomy (counts L) m → Roomy (counts M) m → v < m → counts M h ≡ suc (counts L h)
      → ((n : ℕ) → (n % m ≡ h % m → ⊥) → counts M n ≡ counts L n) → IsLaid m L A → ((n : ℕ) → A (n + m) ≡ A n)
      → A (h + v) ≡ None → ((j : ℕ) → j < v → 1 ≤ reach (A (h + j))) → IsOneMore (counts L) (counts M) m (h + suc v) (m - suc v)
  one-put m h v L M A roomy roomy' within more other laid again hole full =
      one-more (counts L) (counts M) m (h + suc v) (m - suc v) roomy roomy' (omega arith) (grind (arith, more, roomy.again h, roomy'.again h)) (λ j l q.
      other (h + suc v + j) (other_home m h v j within l q)) (λ j from l.
      let k : ℕ = j - (m - suc v) in
      let q : h + suc v + j ≡ h + k + m = omega arith in
      grind (arith, laid.rest (h + suc v + j), full k, q, again (h + k)))
      (λ j l. none-gap m L A roomy laid (h + suc v + j) (omega (arith, spill-lt (counts L) m roomy 0)) (grind (arith, again (h + v), hole)))

  pub roomy_at : (homes : List (List E)) (m : ℕ) → length homes ≡ m → total homes < m → Roomy (count homes) m
  roomy_at homes m len l = subst (Roomy (count homes)) len (roomy-of homes (omega arith))

  pub other_at : (homes : List (List E)) (m h : ℕ) (es : List E) → length homes ≡ m → (n : ℕ) → (n % m ≡ h % m → ⊥) → listed (with_list homes h es) n ≡ listed homes n
  other_at homes m h es len n other = listed-with_other homes h n es (λ q. other (ap (λ x. n % x) (sym len) ∙ q ∙ ap (λ x. h % x) len))

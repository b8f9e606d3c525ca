-- Walks that look for an entry of a home: what they have met, how many slots they have read, and that they go on to an entry that is there.
use Rattle.std.proofs.Common.{◌≡◌, ◌≢◌, ℕ, ◌+◌, ◌-◌, ◌%◌, ◌<◌, ◌≤◌, refl, ap, arith, Bool, true, false, ◌&&◌, eq-eqb, List, length, Option, Some, None, IfSome}
use Rattle.std.proofs.lemmas.Bool.{cases_lt}
use Rattle.std.proofs.lemmas.Bool.Decides.{eqb_tells}
use Rattle.std.proofs.lemmas.List.Folds.{list_any-append}
use Rattle.std.specs.List.{list_any}
use Rattle.clock2q_handles.specs.Candidates.{EndsAt}
use Rattle.clock2q_handles.specs.Homes.{top, is_entry_of, listed}
use Rattle.clock2q_handles.specs.Layout.{Placed, placed, slot_at, reach, at_home, met, homes_of, walk, IsTidy}
use Rattle.clock2q_handles.specs.Shifts.{HasCome}
use Rattle.clock2q_handles.specs.Slots.{Mark, mark_of, mark_reach}
use Rattle.clock2q_handles.proofs.layout.FewerEntries.{walk-is}
use Rattle.clock2q_handles.proofs.layout.Laid.{met-last}
use Rattle.clock2q_handles.proofs.layout.TidyLayout.{length-homes_of, listed-homes_of}
use Rattle.clock2q_handles.proofs.shifts.Carrying.{come_here}
use Rattle.clock2q_handles.proofs.shifts.Changes.{read-met}
use Rattle.clock2q_handles.proofs.walks.Yields.{walk-home, walk-at, walk-beyond}

module _ {E : Type 0} where
  -- if nothing passes in the slots passed nor in the next, nothing passes in all of them
  pub none_more : (test : E → Bool) (A : ℕ → Option (Placed E)) (h k : ℕ) → list_any test (met A h 0 k) ≡ false
      → list_any test (at_home (A (h + k)) k) ≡ false → list_any test (met A h 0 (k + 1)) ≡ false
  none_more test A h k before here = grind (arith, met-last, list_any-append)

  -- what a walk has met at its end is its home's list
  pub met_all : (slots : List (Option (Placed E))) → IsTidy slots → (h n : ℕ) → n < length slots → ((j : ℕ) → j < n → j < reach (slot_at slots (h + j))) → reach (slot_at slots (h + n)) ≤ n
      → listed (homes_of slots) h ≡ met (slot_at slots) h 0 n
  met_all slots tidy h n within passed stop = grind (arith, read-met)

  -- an entry of the home that fails
  pub any-failed : (test : E → Bool) (o : Option (Placed E)) (d : ℕ) (e : E) → o ≡ Some (placed d e) → test e ≡ false → list_any test (at_home o d) ≡ false
  any-failed test o d e is fails = grind (arith, eq-eqb)

module _ {H : Type 0} (x : ℕ) where
  -- the entry of a candidate
  pub candidate : (s : Mark) (o : Option (Placed (ℕ × H))) (d : ℕ) (w : H) → s ≡ mark_of o → s ≡ Some (d, top x) → IfSome o (λ p. w ≡ p.entry.1) → o ≡ Some (placed d (top x, w))
  candidate s None d w is meaning handle = absurd (cc)
  candidate s (Some p) d w is meaning handle = grind arith

module _ {H : Type 0} (eq : H → H → Bool) (x : ℕ) (v : H) where
  -- a candidate is an entry that is looked for if its handle is equal
  pub is_entry_of-candidate : (w : H) → is_entry_of eq x v (top x, w) ≡ eq w v
  is_entry_of-candidate w = ap (λ b. b && eq w v) (eq-eqb (top x) (top x) refl)

  -- no other slot holds such an entry
  pub any-other : (o : Option (Placed (ℕ × H))) (d : ℕ) → mark_of o ≢ Some (d, top x) → list_any (is_entry_of eq x v) (at_home o d) ≡ false
  any-other None d other = refl
  any-other (Some p) d other = grind (arith, eqb_tells)

module _ {E : Type 0} (test : E → Bool) (slots : List (Option (Placed E))) (tidy : IsTidy slots) (h : ℕ) (held : list_any test (listed (homes_of slots) h) ≡ true) where
  -- there are slots
  pub held_somewhere : 0 < length slots
  held_somewhere = grind (arith, listed-homes_of)

  -- a walk that hasn't met it goes on
  pub held_further : (n s : ℕ) → HasCome slots h n s → list_any test (met (slot_at slots) h 0 n) ≡ false → n < reach (slot_at slots s)
  held_further n s come none = grind (arith, come_here, met_all)

module _ {H : Type 0} (slots : List (Option (Placed (ℕ × H)))) (tidy : IsTidy slots) where
  -- a walk reads the slot that it has come to, and each before it
  pub come_reads : (x d n : ℕ) → HasCome slots (x % length slots) d n → d < walk (homes_of slots) x
  come_reads x d n come = grind (arith, cases_lt 0 d, come.passed (d - 1), walk-beyond slots tidy (x % length slots) (d - 1), walk-home slots x, walk-is (homes_of slots) x, length-homes_of slots)

  -- a walk that ends has read as many slots as its definition says
  pub ends_reads : (x n : ℕ) (s : Mark) → EndsAt slots x s n → mark_reach s ≡ walk (homes_of slots) x
  ends_reads x n s ends = grind (arith, come_here slots (x % length slots) ends.walk.distance n ends.walk.come, walk-at slots tidy (x % length slots) ends.walk.distance, walk-home slots x)

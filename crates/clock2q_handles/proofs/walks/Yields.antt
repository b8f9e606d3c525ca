-- Lookups: the candidates that are left, and the slots that a walk reads.
use Rattle.std.proofs.Common.{◌≡◌, ℕ, ◌+◌, ◌%◌, ◌<◌, ◌≤◌, refl, arith, List, [], ◌∷◌, drop, length, slice_get, Option, Some, None}
use Rattle.clock2q_handles.specs.Homes.{candidates}
use Rattle.clock2q_handles.specs.Layout.{Placed, slot_at, reach, homes_of, walk, IsTidy}
use Rattle.clock2q_handles.specs.Candidates.{left_from}
use Rattle.clock2q_handles.proofs.layout.Walk.{after, stop}
use Rattle.clock2q_handles.proofs.layout.Reading.{slot-again}
use Rattle.clock2q_handles.proofs.layout.TidyLayout.{length-homes_of, listed-homes_of, tidy-vacant}
use Rattle.clock2q_handles.proofs.shifts.Changes.{read-stop}
use Rattle.clock2q_handles.proofs.layout.FewerEntries.{walk-is, walk-again}
use Rattle.clock2q_handles.proofs.layout.Periods.{rem-same}
use Rattle.clock2q_handles.proofs.shifts.Steps.{listed-home}
use Rattle.std.specs.Iterator.{MakesProgress, item_count}

-- a list begins with its first element
pub first_is : {H : Type 0} (hs : List H) (h : H) → Some h ≡ slice_get hs 0 → hs ≡ h ∷ drop 1 hs
first_is [] h e = absurd (cc)
first_is (x ∷ xs) h e = cc

pub none_is : {H : Type 0} (hs : List H) → None ≡ slice_get hs 0 → hs ≡ []
none_is [] e = refl
none_is (x ∷ xs) e = absurd (cc)

-- a walk is that of its home
pub walk-home : {E : Type 0} (slots : List (Option (Placed E))) (x : ℕ) → walk (homes_of slots) (x % length slots) ≡ walk (homes_of slots) x
walk-home slots x = grind (arith, length-homes_of slots, rem-same (walk (homes_of slots)) (length (homes_of slots)) (walk-again (homes_of slots)))

module _ {E : Type 0} (slots : List (Option (Placed E))) (tidy : IsTidy slots) where
  -- a walk that ended has read one slot more than it passed
  pub walk-at : (h n : ℕ) → 0 < length slots → ((j : ℕ) → j < n → j < reach (slot_at slots (h + j))) → reach (slot_at slots (h + n)) ≤ n → walk (homes_of slots) h ≡ n + 1
  walk-at h n some passed near = grind (arith, read-stop slots tidy some h n, passed, near, walk-is (homes_of slots) h, length-homes_of slots)

  -- a walk that goes on ends later, and reads no more slots than there are
  pub walk-beyond : (h n : ℕ) → 0 < length slots → n < reach (slot_at slots (h + n)) → (n + 1 < walk (homes_of slots) h) × (walk (homes_of slots) h ≤ length slots)
  walk-beyond h n some on =
      let v = tidy-vacant slots tidy some in
      let s = stop (slot_at slots) tidy.ordered (length slots) (slot-again slots) some v.0 v.1 h 0 in
      grind (arith, walk-at h s.0 some, s.1, s.2.before, s.2.stop, after (slot_at slots) tidy.ordered h 0 s.0 s.2.stop n)

-- a lookup that begins has all candidates left
pub left_at_start : {H : Type 0} (slots : List (Option (Placed (ℕ × H)))) (x : ℕ) → left_from slots x 0 ≡ candidates (homes_of slots) x
left_at_start slots x = grind (arith, listed-homes_of slots (x % length slots), listed-home slots (x % length slots) x (λ _. refl))

-- a call that yields a handle gets closer to the end
pub yields_progress : {S A : Type 0} (rest : S → List A) (can : S → Type 0) (s t : S) (a : A) → rest s ≡ a ∷ rest t → can t → MakesProgress can (item_count rest) s (Some a) t
yields_progress rest can s t a is may = grind arith

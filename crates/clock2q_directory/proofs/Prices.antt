-- What the changes of an index cost at most, in the state before the first of them.
use Rattle.clock2q_directory.proofs.Names.{ℕ, ◌+◌, ◌≤◌, eqb, Bool, true, false, Option, Some, None, List, length, inl, inr, arith, last_or, cases_Bool, total, capacity, without_handle, removed-walk, removed-room, removed-run, most_changed, most_inserted, IndexState, IsWithinCapacity, is_shared, left, remembered_at, forgotten_at, most_reached, Places, pushed_places, freed_place, taking_oldest}

module _ (homes : List (List (ℕ × ℕ))) (room : total homes ≤ capacity (length homes)) (x h : ℕ) where
  -- once an entry has left a table, no change reads and writes more slots than before
  pub removed-changed : (y : ℕ) → most_changed (without_handle eqb homes x h) y ≤ most_changed homes y
  removed-changed y = omega (arith, removed-walk eqb homes x h room y, removed-run eqb homes x h room y)

-- an insertion reads and writes no more slots than any change
pub inserted-most : (b : Bool) (homes : List (List (ℕ × ℕ))) (x : ℕ) → most_inserted b homes x ≤ most_changed homes x
inserted-most true homes x = omega arith
inserted-most false homes x = omega arith

-- no change of either table reads and writes more slots than before, and the entries fit
pub record IsNoDearer (v w : IndexState) : Type 0 where
  pub shared : (y : ℕ) → most_changed w.shared y ≤ most_changed v.shared y
  pub own : (y : ℕ) → most_changed w.own y ≤ most_changed v.own y
  pub within : IsWithinCapacity w

module _ (v : IndexState) (within : IsWithinCapacity v) where
  pub same-dear : IsNoDearer v v
  same-dear = record { shared = λ y. omega arith; own = λ y. omega arith; within = within }

  -- the resident at a slot leaves
  pub left-dear : (x s : ℕ) → IsNoDearer v (left x s v)
  left-dear x s = grind (arith, removed-changed, removed-room)

  -- the key at a place is forgotten
  pub forgotten-dear : (x p : ℕ) → IsNoDearer v (forgotten_at x p v)
  forgotten-dear x p = grind (arith, removed-changed, removed-room)

  pub forgotten-accesses : (x p : ℕ) → (forgotten_at x p v).accesses ≤ v.accesses + most_reached v x
  forgotten-accesses x p = elim (cases_Bool (is_shared v)) [ inl h ↦ rw h (omega arith) | inr h ↦ rw h (omega arith) ]

  -- the resident at a slot is remembered at a place
  pub remembered-accesses : (x s p : ℕ) → (remembered_at x s p v).accesses ≤ v.accesses + most_reached v x
  remembered-accesses x s p = elim (cases_Bool (is_shared v)) [ inl h ↦ rw h (omega arith) | inr h ↦ rw h (omega arith) ]

-- the most slots that forgetting the oldest place reads and writes, if there is one
abbrev pub reached_oldest : IndexState → ℕ → Option ℕ → ℕ
reached_oldest v oldest None = 0
reached_oldest v oldest (Some place) = most_reached v oldest

module _ (p : Places) (within : IsWithinCapacity p.index) where
  -- a key that may have a place is forgotten
  pub freed-dear : (hash : ℕ) (o : Option ℕ) → IsNoDearer p.index (freed_place hash o p).index
  freed-dear hash None = same-dear p.index within
  freed-dear hash (Some place) = forgotten-dear p.index within hash place

  pub freed-accesses : (hash : ℕ) (o : Option ℕ) → (freed_place hash o p).index.accesses ≤ p.index.accesses + most_reached p.index hash
  freed-accesses hash None = omega arith
  freed-accesses hash (Some place) = forgotten-accesses p.index within hash place

  -- the resident at a slot leaves for the history, whose oldest key may be forgotten for it
  module _ (limit hash slot oldest : ℕ) where
    oldest_accesses : (o : Option ℕ) → (taking_oldest hash slot oldest o p).index.accesses ≤ p.index.accesses + most_reached p.index hash + reached_oldest p.index oldest o
    oldest_accesses None = omega arith
    oldest_accesses (Some place) = grind (arith, forgotten-dear, forgotten-accesses, remembered-accesses)

    pub pushed-accesses : (pushed_places limit hash slot oldest p).index.accesses ≤ p.index.accesses + most_reached p.index hash + reached_oldest p.index oldest (last_or None p.taken)
    pushed-accesses = grind (arith, remembered-accesses, oldest_accesses)

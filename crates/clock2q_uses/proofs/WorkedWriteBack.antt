-- A cache of two blocks over a device of four, worked out by hand: which block leaves, what the device then has, and
-- what is read.
use Rattle.std.proofs.Common.{◌≡◌, ℕ, true, false, eqb, [], ◌∷◌, Some, None, refl}
use Rattle.clock2q_machine.specs.Shares.{usual_shares}
use Rattle.clock2q_machine.specs.Machine.{Machine, empty}
use Rattle.clock2q_machine.specs.Steps.{put}
use Rattle.clock2q_uses.specs.WriteBack.{blocks, written_if_left, left_by, flushed}

-- block 0 is in Small, and block 1 in Main
abbrev two : Machine ℕ ℕ
two = put (eqb 1) 1 20 (put (eqb 0) 0 10 (empty (usual_shares 2)))

none_left : left_by {T = ℕ} 1 20 (put (eqb 0) 0 10 (empty (usual_shares 2))) ≡ None
none_left = refl

-- a third block evicts Small's
first_left : left_by {T = ℕ} 2 30 two ≡ Some (0, 10)
first_left = refl

-- the evicted block is written if it is dirty
dirty_is_written : written_if_left {T = ℕ} (true ∷ true ∷ false ∷ false ∷ []) (left_by {T = ℕ} 2 30 two) (1 ∷ 2 ∷ 3 ∷ 4 ∷ []) ≡ 10 ∷ 2 ∷ 3 ∷ 4 ∷ []
dirty_is_written = refl

clean_is_not : written_if_left {T = ℕ} (false ∷ true ∷ false ∷ false ∷ []) (left_by {T = ℕ} 2 30 two) (10 ∷ 2 ∷ 3 ∷ 4 ∷ []) ≡ 10 ∷ 2 ∷ 3 ∷ 4 ∷ []
clean_is_not = refl

-- what is read before and after it leaves
read_before : blocks {T = ℕ} two (1 ∷ 2 ∷ 3 ∷ 4 ∷ []) ≡ 10 ∷ 20 ∷ 3 ∷ 4 ∷ []
read_before = refl

read_after : blocks {T = ℕ} (put (eqb 2) 2 30 two) (10 ∷ 2 ∷ 3 ∷ 4 ∷ []) ≡ 10 ∷ 20 ∷ 30 ∷ 4 ∷ []
read_after = refl

-- putting a resident block again evicts none
put_again : left_by {T = ℕ} 0 11 two ≡ None
put_again = refl

-- a flush writes the dirty blocks
flush : flushed {T = ℕ} (false ∷ true ∷ true ∷ false ∷ []) ((2, 30) ∷ (1, 20) ∷ []) (10 ∷ 2 ∷ 3 ∷ 4 ∷ []) ≡ 10 ∷ 20 ∷ 30 ∷ 4 ∷ []
flush = refl

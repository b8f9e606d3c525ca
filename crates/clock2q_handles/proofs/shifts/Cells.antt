-- Two vectors side by side, read and written as one list of slots.
use Rattle.std.proofs.Common.{◌≡◌, ℕ, zero, suc, ◌+◌, ◌-◌, ◌%◌, ◌<◌, List, [], ◌∷◌, length, get_or, take, ◌++◌, refl, sym, ap, subst, ◌∙◌, arith, None, IfSome, mod-eq_of_lt, set, length-set, replicate, bit_and}
use Rattle.std.proofs.Math.Seq.{set-get_or, take_all}
use Rattle.std.proofs.lemmas.Nat.{and_mask}
use Rattle.std.proofs.lemmas.List.{length-replicate, take_at}
use Rattle.clock2q_handles.specs.Layout.{slot_at}
use Rattle.clock2q_handles.specs.Slots.{meaning, cell, mark_of, cells, SlotsValue, slots_value, IsSlotCount, ArePaired}
use Rattle.clock2q_handles.specs.declared.metadata.Metadata.{Metadata}

-- masking by a slot count minus one is a remainder
pub slot_mask : (n m : ℕ) → IsSlotCount m → 0 < m → bit_and n (m - 1) ≡ n % m
slot_mask n m is_count some = grind (arith, and_mask)

module _ {H : Type 0} where
  pub length-cells : (ms : List Metadata) (vs : List H) → length vs ≡ length ms → length (cells ms vs) ≡ length ms
  length-cells [] vs e = refl
  length-cells (m ∷ ms) [] e = e
  length-cells (m ∷ ms) (v ∷ vs) e = ap suc (length-cells ms vs (omega (arith, e)))

  -- there is a word of metadata for each slot that contracts see
  pub words : (ms : List Metadata) (vs : List H) {w : ℕ} {s : SlotsValue H} → length vs ≡ length ms → slots_value (cells ms vs) w ≡ s → length ms ≡ length s.slots
  words ms vs as_many is = sym (length-cells ms vs as_many) ∙ ap (λ t. length t.slots) is

  -- masking by the number of slots minus one is a remainder
  pub masked : (x mask : ℕ) (ms : List Metadata) (vs : List H) → length vs ≡ length ms → IsSlotCount (length ms) → (0 < length ms → mask + 1 ≡ length ms)
      → 0 < length (cells ms vs) → bit_and x mask ≡ x % length (cells ms vs)
  masked x mask ms vs same is_count mask_of some = grind (arith, mask_of, slot_mask x (length ms) is_count, some, length-cells ms vs same)

  pub masked_within : (x mask : ℕ) (ms : List Metadata) (vs : List H) → length vs ≡ length ms → IsSlotCount (length ms) → (0 < length ms → mask + 1 ≡ length ms)
      → 0 < length (cells ms vs) → bit_and x mask < length (cells ms vs)
  masked_within x mask ms vs same is_count mask_of some = omega (arith, masked x mask ms vs same is_count mask_of some)

  -- the contents of a slot, read off the two vectors
  pub get_or-cells : (ms : List Metadata) (vs : List H) (n : ℕ) (m : Metadata) (v : H) → length vs ≡ length ms
      → n < length ms → get_or (cells ms vs) n None ≡ cell (meaning (get_or ms n m)) (get_or vs n v)
  get_or-cells [] vs n m v e h = absurd (omega (arith, h))
  get_or-cells (x ∷ ms) [] n m v e h = absurd (omega (arith, e))
  get_or-cells (x ∷ ms) (y ∷ vs) zero m v e h = refl
  get_or-cells (x ∷ ms) (y ∷ vs) (suc n) m v e h = get_or-cells ms vs n m v (omega (arith, e)) (omega (arith, h))

  -- a slot written in both vectors is written in the list
  pub set-cells : (ms : List Metadata) (vs : List H) (n : ℕ) (m : Metadata) (v : H) → length vs ≡ length ms → cells (set ms n m) (set vs n v) ≡ set (cells ms vs) n (cell (meaning m) v)
  set-cells [] vs n m v e = refl
  set-cells (x ∷ ms) [] n m v e = absurd (omega (arith, e))
  set-cells (x ∷ ms) (y ∷ vs) zero m v e = refl
  set-cells (x ∷ ms) (y ∷ vs) (suc n) m v e = ap (λ c. cell (meaning x) y ∷ c) (set-cells ms vs n m v (omega (arith, e)))

  -- and neither vector has another length then
  pub set-paired : (ms : List Metadata) (vs : List H) (n : ℕ) (m : Metadata) (v : H) → ArePaired ms vs → ArePaired (set ms n m) (set vs n v)
  set-paired ms vs n m v pair = record {
    same = length-set vs n v ∙ pair.same ∙ sym (length-set ms n m);
    slot_count = subst IsSlotCount (sym (length-set ms n m)) pair.slot_count;
  }

  -- a slot whose metadata alone is written, to be empty
  pub set_empty : (ms : List Metadata) (vs : List H) (n : ℕ) → length vs ≡ length ms → cells (set ms n (record { word = 0 })) vs ≡ set (cells ms vs) n None
  set_empty [] vs n e = refl
  set_empty (x ∷ ms) [] n e = absurd (omega (arith, e))
  set_empty (x ∷ ms) (y ∷ vs) n e = grind (arith, set-cells (x ∷ ms) (y ∷ vs) n (record { word = 0 }) (get_or (y ∷ vs) n y) e, set-get_or (y ∷ vs) n y)

  -- empty marks make empty slots, whatever the handles are
  pub cells-emptied : (ms : List Metadata) (vs : List H) (n : ℕ) → ms ≡ replicate n (record { word = 0 }) → length vs ≡ n → cells ms vs ≡ replicate n None
  cells-emptied ms vs zero is len = rw is
  cells-emptied ms [] (suc n) is len = absurd (omega (arith, len))
  cells-emptied ms (v ∷ vs) (suc n) is len = rw is (grind (arith, cells-emptied (replicate n (record { word = 0 })) vs n refl))

  -- vectors that are filled up with empty marks make empty slots
  pub filled_cells : (n i j : ℕ) (ms ms' : List Metadata) (vs vs' : List H) (v : H) → ms ≡ [] → vs ≡ []
      → i ≡ 0 → j ≡ 0 → ms' ≡ take n ms ++ replicate (n - i) (record { word = 0 }) → vs' ≡ take n vs ++ replicate (n - j) v → cells ms' vs' ≡ replicate n None
  filled_cells n i j ms ms' vs vs' v none-ms none-vs ei ej er es = grind (arith, take_all n ms, take_all n vs, cells-emptied ms' vs' n, length-replicate)

  -- a slot named by its number
  slot_within : (ms : List Metadata) (vs : List H) (k : ℕ) → length vs ≡ length ms → k < length ms → slot_at (cells ms vs) k ≡ get_or (cells ms vs) k None
  slot_within ms vs k same within = ap (λ j. get_or (cells ms vs) j None) (mod-eq_of_lt (omega (arith, within, length-cells ms vs same)))

  -- the handle of a slot that is read
  pub handle_read_at : (ms : List Metadata) (vs : List H) (k : ℕ) (v : H) → length vs ≡ length ms → k < length ms → v ≡ get_or vs k v → IfSome (slot_at (cells ms vs) k) (λ p. v ≡ p.entry.1)
  handle_read_at ms vs k v same within is = grind (arith, slot_within ms vs k same within, get_or-cells ms vs k (record { word = 0 }) v same within)

  -- and its mark
  pub mark_read_or : (ms : List Metadata) (vs : List H) (k : ℕ) (z : Metadata) → length vs ≡ length ms → k < length ms → meaning (get_or ms k z) ≡ mark_of (slot_at (cells ms vs) k)
  mark_read_or ms [] k z same within = absurd (omega (arith, same, within))
  mark_read_or ms (v ∷ vs) k z same within = grind (arith, slot_within ms (v ∷ vs) k same within, get_or-cells ms (v ∷ vs) k z v same within)

  -- a handle that is written alone
  pub handle_replaced_cells : (ms : List Metadata) (vs : List H) (n : ℕ) (v : H) → length vs ≡ length ms → n < length ms
      → cells ms (set vs n v) ≡ set (cells ms vs) n (cell (mark_of (slot_at (cells ms vs) n)) v)
  handle_replaced_cells ms vs n v same within =
      let z : Metadata = record { word = 0 } in
      grind (arith, set-get_or ms n z, set-cells ms vs n (get_or ms n z) v same, mark_read_or ms vs n z same within)

-- a vector whose slice was written contains what the slice does
pub kept_whole : {X : Type 0} (xs ys : List X) (n : ℕ) → length xs ≡ n → take n (xs ++ ys) ≡ xs
kept_whole xs ys n len = take_at xs ys n len

-- there are as many cells as words of metadata
pub ruleset counted_cells = (length-cells)

-- what a write leaves of the cells
pub ruleset written_cells = (length-cells, set-cells, set_empty)

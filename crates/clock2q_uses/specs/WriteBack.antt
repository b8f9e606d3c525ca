-- A device's blocks in a cache that writes a block back when it leaves, if the device has an older one.
use Rattle.std.specs.Prelude.{◌≡◌, ℕ, ◌+◌, ◌<◌, Bool, false, eqb, List, [], ◌∷◌, length, slice_get, slice_set, slice_index_or, ◌==◌, if◌then◌else◌, Option, Some, None}
use Rattle.std.specs.List.{fold}
use Rattle.std.specs.Option.{option_map, unwrap_or}
use Rattle.clock2q_machine.specs.Calls.{Put}
use Rattle.clock2q_machine.specs.Leaving.{victim_of}
use Rattle.clock2q_machine.specs.Machine.{Machine, value_of}

-- whether the cache may have a newer block of this number than the device
abbrev pub is_dirty : List Bool → ℕ → Bool
is_dirty dirty number = slice_index_or dirty number false

module _ {T : Type 0} where
  -- the blocks from a number on: the cache's if resident, otherwise the device's
  abbrev pub blocks_from : Machine ℕ T → ℕ → List T → List T
  blocks_from m number [] = []
  blocks_from m number (stored ∷ device) = unwrap_or (value_of (eqb number) m) stored ∷ blocks_from m (number + 1) device

  -- the blocks, as a reader sees them
  abbrev pub blocks : Machine ℕ T → List T → List T
  blocks m device = blocks_from m 0 device

  -- the device once a block is written back, if the block is dirty
  abbrev pub written_back : List Bool → ℕ × T → List T → List T
  written_back dirty block device = if is_dirty dirty block.0 then slice_set device block.0 block.1 else device

  -- the device once the block that left the cache, if any, is written back
  abbrev pub written_if_left : List Bool → Option (ℕ × T) → List T → List T
  written_if_left dirty None device = device
  written_if_left dirty (Some block) device = written_back dirty block device

  -- the marks once the block that left the cache, if any, is clean
  abbrev pub cleaned_if_left : Option (ℕ × T) → List Bool → List Bool
  cleaned_if_left None dirty = dirty
  cleaned_if_left (Some block) dirty = slice_set dirty block.0 false

  -- what a put hands over, if it is of another number
  abbrev pub other_than : ℕ → Option (ℕ × T) → Option (ℕ × T)
  other_than number None = None
  other_than number (Some block) = if number == block.0 then None else Some block

  -- the block that leaves if this one is put
  abbrev pub left_by : ℕ → T → Machine ℕ T → Option (ℕ × T)
  left_by number block m = option_map (λ v. (v.0, v.1.1)) (victim_of eqb (Put number block) m)

  -- the device once the dirty ones of these blocks are written, one after another
  abbrev pub flushed : List Bool → List (ℕ × T) → List T → List T
  flushed dirty resident device = fold (λ written block. written_back dirty block written) device resident

  -- the block of a cache's entry
  abbrev pub number_and_block : ℕ × ℕ × T → ℕ × T
  number_and_block e = (e.0, e.2)

  -- a resident block is one of the device's, where it is the same unless it is dirty
  pub record IsInStep (m : Machine ℕ T) (dirty : List Bool) (device : List T) : Type 0 where
    pub within : (number : ℕ) (block : T) → value_of (eqb number) m ≡ Some block → number < length device
    pub clean : (number : ℕ) (block : T) → value_of (eqb number) m ≡ Some block → is_dirty dirty number ≡ false → slice_get device number ≡ Some block

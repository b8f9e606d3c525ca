-- CLOCK whose keys come unmarked: a ring of keys, and the mark of each is clear until the key is hit. The hand gives a
-- marked key a second chance, and clears its mark; the first one without a mark is evicted. Each key has a frame of memory.
use Rattle.std.specs.Prelude.{ℕ, zero, suc, Bool, true, false, ◌==◌, nat_lt, if◌then◌else◌, List, [], ◌∷◌, ◌++◌, map, length, take, drop, Option, Some, None}
use Rattle.std.specs.List.{list_any, prefix_len}
use Rattle.clock2q_machine.specs.Hits.{hits, outcomes}

-- the keys from the hand on, each with its mark
abbrev pub Ring : Type 0
Ring = List (ℕ × Bool)

abbrev pub is_on : ℕ → Ring → Bool
is_on key ring = list_any (λ e. key == e.0) ring

-- a hit marks the key
abbrev pub marked : ℕ → Ring → Ring
marked key ring = map (λ e. if key == e.0 then (e.0, true) else e) ring

-- the hand moves past marked keys, at most this many: each moves behind the others without its mark
abbrev pub moved_on : ℕ → Ring → Ring
moved_on zero ring = ring
moved_on (suc n) [] = []
moved_on (suc n) (e ∷ ring) = if e.1 then moved_on n (ring ++ (e.0, false) ∷ []) else e ∷ ring

-- a key that isn't on the ring is added behind the others; if there is no room, the key that the hand stops at is
-- evicted, after at most one round
abbrev pub joined : ℕ → ℕ → Ring → Ring
joined capacity key ring = (if nat_lt (length ring) capacity then ring else drop 1 (moved_on (length ring) ring)) ++ (key, false) ∷ []

abbrev pub clock_after : ℕ → ℕ → Ring → Ring
clock_after capacity key ring = if is_on key ring then marked key ring else joined capacity key ring

-- the number of accesses of a trace that hit in a new cache
abbrev pub clock_hits : ℕ → List ℕ → ℕ
clock_hits capacity trace = hits is_on (clock_after capacity) trace []

-- and which ones
abbrev pub clock_outcomes : ℕ → List ℕ → List Bool
clock_outcomes capacity trace = outcomes is_on (clock_after capacity) trace []

-- the key that leaves for a key, if one does: the one that the hand stops at
abbrev pub first_key : Ring → Option ℕ
first_key [] = None
first_key (e ∷ ring) = Some e.0

abbrev pub clock_victim : ℕ → ℕ → Ring → Option ℕ
clock_victim capacity key ring = if is_on key ring then None else (if nat_lt (length ring) capacity then None else first_key (moved_on (length ring) ring))

-- the number of marked keys that the hand moves past
abbrev pub passed : Ring → ℕ
passed ring = prefix_len (λ e. e.1) ring

-- as many frames go behind the others
abbrev pub rotated : ℕ → List ℕ → List ℕ
rotated n frames = drop n frames ++ take n frames

-- the frames of the keys from the hand on: while there is room, a key gets the next frame that was never used, otherwise
-- that of the key that leaves
abbrev pub frames_after : ℕ → ℕ → Ring → List ℕ → List ℕ
frames_after capacity key ring frames =
    if is_on key ring then frames else (if nat_lt (length ring) capacity then frames ++ length frames ∷ [] else rotated 1 (rotated (passed ring) frames))

-- the ring and the frames of a new cache after a trace
abbrev pub clock_ring_from : ℕ → List ℕ → Ring → Ring
clock_ring_from capacity [] ring = ring
clock_ring_from capacity (key ∷ trace) ring = clock_ring_from capacity trace (clock_after capacity key ring)

abbrev pub clock_frames_from : ℕ → List ℕ → Ring → List ℕ → List ℕ
clock_frames_from capacity [] ring frames = frames
clock_frames_from capacity (key ∷ trace) ring frames = clock_frames_from capacity trace (clock_after capacity key ring) (frames_after capacity key ring frames)

abbrev pub clock_ring : ℕ → List ℕ → Ring
clock_ring capacity trace = clock_ring_from capacity trace []

abbrev pub clock_frames : ℕ → List ℕ → List ℕ
clock_frames capacity trace = clock_frames_from capacity trace [] []

-- The gap that a lookup found for a hash.
use Rattle.std.proofs.Common.{◌≡◌, ℕ, Option, sym, subst}
use Rattle.clock2q_handles.specs.Positions.{GapValue}
use Rattle.clock2q_directory.specs.declared.handle.Found.{Found}
use Rattle.clock2q_directory.specs.Index.{IsGapFor}
use Rattle.clock2q_directory.specs.History.{Remembered, Places, freed_place, places_looked_up, found_gap, found_place}

-- the lookup leaves it where it is
pub gap-kept : (o : Option GapValue) (x : ℕ) (h h' : Remembered ℕ) → IsGapFor o x h.places.index
    → h' ≡ record h { places = places_looked_up x h.places; comparisons = h'.comparisons } → IsGapFor o x h'.places.index
gap-kept o x h h' gap same = subst (λ (z : Remembered ℕ). IsGapFor o x z.places.index) (sym same) gap

-- there is none if a key is then forgotten, and otherwise nothing changes
pub gap-stays : (found : Found) (x : ℕ) (p q : Places) → IsGapFor (found_gap found) x p.index → q ≡ freed_place x (found_place found) p → IsGapFor (found_gap found) x q.index
gap-stays (Found.Resident slot) x p q gap freed = tt
gap-stays (Found.Remembered place) x p q gap freed = tt
gap-stays (Found.Absent o) x p q gap freed = subst (λ (z : Places). IsGapFor o x z.index) (sym freed) gap

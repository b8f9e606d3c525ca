-- Candidates offered to a closure, up to the first that it accepts.
use Rattle.std.specs.Prelude.{◌≡◌, ℕ, Bool, true, false, List, [], ◌∷◌, Option, Some, None, Result, Ok, Err, MatchBool, MatchResult}
use Rattle.std.specs.Fn.{Called, Takes, Mut}
use Rattle.clock2q_handles.specs.Homes.{candidates, with_handle}
use Rattle.clock2q_handles.specs.Layout.{IsTooLong}
use Rattle.clock2q_handles.specs.declared.error.TableError.{TableError}
use Rattle.clock2q_handles.specs.declared.error.TableError.TheVariants.{RunTooLong}

-- f was called on the candidates in turn; `found` is the first that it accepted, and f' is what f became
abbrev pub Offers : {F H : Type 0} → Mut F (H × Unit {0}) Bool → F → List H → Option H → F → Type 0
Offers g f [] found f' = (found ≡ None) × (f' ≡ f)
Offers {F} g f (h ∷ hs) found f' = (b : Bool) × (next : F) × Called g f (h, tt) b next × MatchBool b ((found ≡ Some h) × (f' ≡ next)) (Offers g next hs found f')

-- f rejected the handles before v, and then accepted v
pub record AcceptsNext {F H : Type 0} (g : Mut F (H × Unit {0}) Bool) (f : F) (before : List H) (v : H) : Type 0 where
  pub asked : F
  pub last : F
  pub rejects : Offers g f before None asked
  pub accepts : Called g asked (v, tt) true last

-- the handle that a search found
abbrev pub handle_in : {H P G : Type 0} → Result (H × P) G → Option H
handle_in (Ok r) = Some r.0
handle_in (Err _) = None

-- f may be called on the first of the handles, and if it rejects one, on the next
abbrev pub TakesInTurn : {F H : Type 0} → Mut F (H × Unit {0}) Bool → F → List H → Type 0
TakesInTurn g f [] = Unit {0}
TakesInTurn {F} g f (h ∷ hs) = Takes g f (h, tt) × ((next : F) → Called g f (h, tt) false next → TakesInTurn g next hs)

-- f may be offered the candidates
pub record MayBeOffered {F H : Type 0} (g : Mut F (H × Unit {0}) Bool) (f : F) (candidates : List H) : Type 0 where
  pub in_turn : TakesInTurn g f candidates

-- the accepted candidate is returned, and nothing changes; or v is put in under x, if no run becomes too long
abbrev pub Settles : {H : Type 0} → List (List (ℕ × H)) → ℕ → H → Option H → Result (H × Bool) TableError → List (List (ℕ × H)) → Type 0
Settles old x v (Some c) result new = (result ≡ Ok (c, false)) × (new ≡ old)
Settles old x v None result new =
    MatchResult result (λ r. (r ≡ (v, true)) × (new ≡ with_handle old x v) × (IsTooLong (with_handle old x v) → ⊥)) (λ e. (e ≡ RunTooLong) × (new ≡ old) × IsTooLong (with_handle old x v))

-- the candidates of x are offered to f, which becomes `last`, and the call settles with what f accepted
abbrev pub FindsOrPuts : {M H : Type 0} → Mut M (H × Unit {0}) Bool → M → List (List (ℕ × H)) → ℕ → H → Result (H × Bool) TableError → List (List (ℕ × H)) → M → Type 0
FindsOrPuts {M} {H} g f old x v result new last = (found : Option H) × Offers g f (candidates old x) found last × Settles old x v found result new

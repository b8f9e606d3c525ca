-- Routes to services, each over a link that is up or down.
use Rattle.std.specs.Prelude.{◌≡◌, ◌<◌, ℕ, Bool, false, List, Some, get_or, map, slice_get}
use Rattle.clock2q_machine.specs.Machine.{Machine, by_slot}
use Rattle.clock2q_machine.specs.Steps.{retained}

-- each route is over one of this many links
abbrev pub AreOver : ℕ → Machine ℕ ℕ → Type 0
AreOver links m = (slot link : ℕ) → slice_get m.values slot ≡ Some link → link < links

-- whether the link of the route at a slot is up
abbrev pub is_up : List Bool → Machine ℕ ℕ → ℕ → Bool
is_up up m slot = get_or up (get_or m.values slot 0) false

-- the routes over links that are up
abbrev pub routes_up : List Bool → Machine ℕ ℕ → Machine ℕ ℕ
routes_up up m = retained (map (λ route. is_up up m route.1) (by_slot m)) m

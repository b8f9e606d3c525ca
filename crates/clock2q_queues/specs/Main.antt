-- Main as a list from the hand, and how the hand's choice changes it.
use Rattle.std.specs.Prelude.{◌≡◌, ℕ, Bool, true, false, List, map, ◌==◌, if◌then◌else◌, nat_eq}
use Rattle.std.specs.List.{list_any}
use Rattle.clock2q_machine.specs.Hand as hand
use Rattle.clock2q_queues.specs.Links.{LinkState, IsQueue, slots_from, location_at, bit_at}
use Rattle.clock2q_queues.specs.declared.entries.Location.TheVariants as at
use Rattle.clock2q_queues.specs.declared.main_queue.Main.{Main}

-- the slots of Main, from the hand
abbrev pub main_slots : LinkState → Main → List ℕ
main_slots l main = slots_from l.records.items main.hand main.len

-- the same, each with its hit bit
abbrev pub main_entries : LinkState → Main → List (ℕ × Bool)
main_entries l main = map (λ s. (s, bit_at l s)) (main_slots l main)

-- these slots are Main's, and their locations say so
pub record IsMain (l : LinkState) (main : Main) (slots : List ℕ) : Type 0 where
  pub queue : IsQueue l.records.items main.hand main.len slots
  pub location : (t : ℕ) → list_any (nat_eq t) slots ≡ true → location_at l.records.items t ≡ at.Main

-- the links represent Main
abbrev pub IsMainQueue : LinkState → Main → Type 0
IsMainQueue l main = IsMain l main (main_slots l main)

-- the number of slots that the hand passes, the number of its inspections, and Main from its victim on
abbrev pub set_front : List (ℕ × Bool) → ℕ
set_front main = hand.set_front (λ e. e.1) main

abbrev pub inspections : List (ℕ × Bool) → ℕ
inspections main = hand.inspections (λ e. e.1) main

abbrev pub from_victim : List (ℕ × Bool) → List (ℕ × Bool)
from_victim main = hand.from_victim (λ e. e.1) (λ e. (e.0, false)) main

-- after a hit on a slot
abbrev pub main_hit_at : ℕ → List (ℕ × Bool) → List (ℕ × Bool)
main_hit_at slot main = map (λ e. if e.0 == slot then (e.0, true) else e) main

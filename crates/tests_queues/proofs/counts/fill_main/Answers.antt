use Rattle.std.proofs.Common.{◌≡◌, ℕ, ◌+◌, ◌-◌, Bool, false, List, [], ◌∷◌, ◌++◌, inr, ap, ◌∙◌, arith, eqb}
use Rattle.std.specs.List.{range_with_len, list_any}
use Rattle.clock2q_machine.specs.Ages.{Age}
use Rattle.clock2q_queues.specs.Main.{main_hit_at}
use Rattle.clock2q_queues.specs.Small.{small_hit_at}
use Rattle.clock2q_queues.specs.Queues.{QueueState, slots_of}
use Rattle.tests_queues.proofs.Filling.{all_set, filled_more, not_there, put_there}
use Rattle.tests_queues.proofs.counts.fill_main.Goals as goal

pub append-requires-clause-not_in_main : goal.append-requires-clause-not_in_main
append-requires-clause-not_in_main c =
    let slot = c.loop-slot.slot in
    ap (λ (main : List (ℕ × Bool)). list_any (eqb slot) (slots_of main)) c.loop-slot.invariant.2 ∙ not_there 2 (slot - 2) slot (omega (arith, c.loop-slot.auto.slot))

pub hit-requires : goal.hit-requires
hit-requires c =
    let slot = c.loop-slot.slot in
    let put = c.append.ensures.queues in
    record { resident = inr (ap (λ (q : QueueState). list_any (eqb slot) (slots_of q.main)) put ∙ put_there slot c.loop-slot.queues.main) }

pub loop-slot-preserved : goal.loop-slot-preserved
loop-slot-preserved c =
    let slot = c.loop-slot.slot in
    let i = c.loop-slot.invariant in
    let put = c.append.ensures.queues in
    let hit = c.hit.ensures.queues in
    let is : slot - 2 + 1 ≡ slot + 1 - 2 = omega (arith, c.loop-slot.auto.slot) in (
      ap (λ (q : QueueState). q.slots) hit ∙ ap (λ (q : QueueState). q.slots) put ∙ i.0,
      ap (λ (q : QueueState). q.small) hit ∙ ap (λ (q : QueueState). small_hit_at slot q.small) put ∙ ap (λ (small : List (ℕ × Age)). small_hit_at slot small) i.1,
      ap (λ (q : QueueState). q.main) hit ∙ ap (λ (q : QueueState). main_hit_at slot q.main) put ∙ ap (λ (main : List (ℕ × Bool)). main_hit_at slot (main ++ (slot, false) ∷ [])) i.2
          ∙ filled_more 2 (slot - 2) slot (omega (arith, c.loop-slot.auto.slot)) ∙ ap (λ n. all_set (range_with_len 2 n)) is,
      ap (λ (q : QueueState). q.inspections) hit ∙ ap (λ (q : QueueState). q.inspections) put ∙ i.3,
      omega (arith, i.4, ap (λ (q : QueueState). q.made) hit ∙ ap (λ (q : QueueState). q.made) put),
    )

pub returns-clause-main : goal.returns-clause-main
returns-clause-main c =
    let all : c.loop-slot.slot - 2 ≡ 18 = omega (arith, c.loop-slot.auto.slot, c.loop-slot.auto.slot-end, c.loop-slot-test.false) in
    c.loop-slot.invariant.2 ∙ ap (λ n. all_set (range_with_len 2 n)) all

-- A loop on which a full cache of a hundred keys never hits, and an LRU of 61 keys hits with each access after the first
-- round: no smaller LRU bounds the misses of Clock2Q+.
use Rattle.std.proofs.Common.{◌≡◌, ℕ, eqb, List, [], map, refl}
use Rattle.std.specs.List.{range_with_len}
use Rattle.clock2q_machine.specs.Calls.{Put}
use Rattle.clock2q_machine.specs.Shares.{usual_shares}
use Rattle.clock2q_machine.specs.Machine.{empty}
use Rattle.clock2q_machine.specs.Steps.{after_all}
use Rattle.clock2q_machine.specs.Loops.{rounds}
use Rattle.clock2q_machine.specs.Hits.{hits, is_in}
use Rattle.clock2q_machine.specs.MachineHits.{machine_holds, machine_after}
use Rattle.simulator_policies.specs.declared.plain.PlainPolicy.TheVariants.{LeastRecentlyUsed}
use Rattle.simulator_policies.specs.Policies.{plain_after, plain_after_all}

abbrev loop : List ℕ
loop = range_with_len 101 61

-- a hundred other keys filled the cache
never_hits : hits machine_holds machine_after (rounds 3 loop) (after_all eqb (map (λ k. Put k tt) (range_with_len 1 100)) (empty (usual_shares 100))) ≡ 0
never_hits = refl

smaller_lru_hits : hits is_in (plain_after LeastRecentlyUsed 61) (rounds 2 loop) (plain_after_all LeastRecentlyUsed 61 loop []) ≡ 122
smaller_lru_hits = refl

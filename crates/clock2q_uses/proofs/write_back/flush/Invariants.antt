-- Writing the blocks that are left gives the device that writing all blocks to the first one gives.
use Rattle.std.proofs.Common.{◌≡◌, ◌<◌, map, length}
use Rattle.std.specs.List.{AllByRecursion}
use Rattle.clock2q_cache.specs.Iteration.{entries}
use Rattle.clock2q_uses.specs.WriteBack.{flushed, number_and_block}
use Rattle.clock2q_uses.proofs.write_back.flush.Given as goal

abbrev pub invariant-loop-number : goal.invariant-loop-number
invariant-loop-number g l = record {
  written : flushed l.dirty (map number_and_block l.number-iterator) l.device ≡ flushed l.dirty (map number_and_block (entries l.cache.machine)) l.fn.device;
  within : AllByRecursion (λ e. e.0 < length l.fn.device) l.number-iterator;
  as_many : length l.device ≡ length l.fn.device;
}

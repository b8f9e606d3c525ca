-- The replies so far and those to the commands left are those to all, and there is room for them; so are the
-- inspections by the hand; and the commands left have their values.
use Rattle.std.proofs.Common.{◌≡◌, ◌+◌, ◌≤◌, ◌++◌, map, length, vec_len, vec_capacity}
use Rattle.std.specs.Vec.Iter.{into_iter_items}
use Rattle.clock2q_text.specs.Commands.{call_of, answer_of, AreSupplied}
use Rattle.std.specs.HashMap.Lent.{HashMembers}
use Rattle.clock2q_cache.specs.CacheState.{CacheState}
use Rattle.clock2q_cache.specs.Costs.{most_accesses}
use Rattle.clock2q_cache.specs.Runs.{RunsAtCost}
use Rattle.clock2q_machine.specs.Bounds.{summed, inspections_of}
use Rattle.clock2q_machine.specs.Steps.{answers, after_all}
use Rattle.clock2q_command.proofs.commands.run.Given as goal

-- the keys' equality and what they feed to a hasher
abbrev pub members : (g : goal.Over) → HashMembers g.row.K.Denot
members g = record { eq = g.K.PartialEq.eq; hash_input = g.K.Hash.hash_input }

abbrev pub invariant-loop-command : goal.invariant-loop-command
invariant-loop-command g l = record {
  can : (goal.iterator-loop-command g).can_next l.command-iterator;
  ends : (goal.iterator-loop-command g).is_finite l.command-iterator;
  replied : map answer_of l.replies.items ++ answers g.K.PartialEq.eq
      (map call_of (into_iter_items l.command-iterator)) l.cache.machine ≡
      answers g.K.PartialEq.eq (map call_of l.fn.commands.items) l.fn.cache.machine;
  rest : after_all g.K.PartialEq.eq (map call_of (into_iter_items l.command-iterator)) l.cache.machine ≡ after_all g.K.PartialEq.eq (map call_of l.fn.commands.items) l.fn.cache.machine;
  ran : (end : CacheState g.row.K.Denot g.row.V.Denot g.row.S.Denot) →
      RunsAtCost (members g) g.S.BuildHasher g.S.Hasher.Hasher (map call_of (into_iter_items l.command-iterator)) l.cache end →
      RunsAtCost (members g) g.S.BuildHasher g.S.Hasher.Hasher (map call_of l.fn.commands.items) l.fn.cache end;
  hasher : l.cache.hasher ≡ l.fn.cache.hasher;
  linked : l.cache.counts.accesses + summed g.K.PartialEq.eq (most_accesses g.K.PartialEq.eq)
      (map call_of (into_iter_items l.command-iterator)) l.cache.machine ≤
      l.fn.cache.counts.accesses + summed g.K.PartialEq.eq (most_accesses g.K.PartialEq.eq)
      (map call_of l.fn.commands.items) l.fn.cache.machine;
  looked : l.cache.counts.inspections + summed g.K.PartialEq.eq (inspections_of g.K.PartialEq.eq)
      (map call_of (into_iter_items l.command-iterator)) l.cache.machine ≡
      l.fn.cache.counts.inspections + summed g.K.PartialEq.eq (inspections_of g.K.PartialEq.eq)
      (map call_of l.fn.commands.items) l.fn.cache.machine;
  supplied : AreSupplied (map call_of (into_iter_items l.command-iterator));
  room : vec_len l.replies + length (into_iter_items l.command-iterator) ≤ vec_capacity l.replies;
}

-- The values so far, followed by those of the keys that are left, are the values of all keys, and there is room for
-- them. Whatever values the keys that are left get, fetching them now is the same as fetching all keys from the
-- beginning.
use Rattle.std.proofs.Common.{◌≡◌, ◌+◌, ◌≤◌, ◌++◌, List, map, length, vec_len, vec_capacity}
use Rattle.std.specs.Vec.Iter.{into_iter_items, into_iter_len}
use Rattle.std.specs.Fn.{FnReturnsAt}
use Rattle.clock2q_memo.specs.Memo.{IsCallableAtEach, Computes, HoldsValues, recalled, evaluations_of}
use Rattle.clock2q_memo.proofs.memo.recall.Given as goal

abbrev pub invariant-loop-key : goal.invariant-loop-key
invariant-loop-key g l = record {
  can : (goal.iterator-loop-key g).can_next l.key-iterator;
  ends : (goal.iterator-loop-key g).is_finite l.key-iterator;
  callable : IsCallableAtEach (g.F.Fn) l.memo.function (into_iter_items l.key-iterator);
  remembers : HoldsValues g.K.PartialEq.eq (FnReturnsAt (g.F.Fn) l.fn.memo.function) l.fn.memo.machine → HoldsValues g.K.PartialEq.eq (FnReturnsAt (g.F.Fn) l.memo.function) l.memo.machine;
  remembered : HoldsValues g.K.PartialEq.eq (FnReturnsAt (g.F.Fn) l.fn.memo.function) l.fn.memo.machine →
      (value : g.row.K.Denot → g.row.V.Denot) → Computes g.K.PartialEq.eq (FnReturnsAt (g.F.Fn) l.fn.memo.function) value →
      l.values.items ++ map value (into_iter_items l.key-iterator) ≡ map value l.fn.keys.items;
  machine : (more : List g.row.V.Denot) →
      recalled g.K.PartialEq.eq (into_iter_items l.key-iterator) more l.memo.machine ≡
      recalled g.K.PartialEq.eq l.fn.keys.items (l.values.items ++ more) l.fn.memo.machine;
  evaluations : (more : List g.row.V.Denot) →
      l.memo.evaluations + evaluations_of g.K.PartialEq.eq (into_iter_items l.key-iterator) more l.memo.machine ≡
      l.fn.memo.evaluations + evaluations_of g.K.PartialEq.eq l.fn.keys.items (l.values.items ++ more) l.fn.memo.machine;
  function : l.memo.function ≡ l.fn.memo.function;
  sized : into_iter_len l.key-iterator ≡ length (into_iter_items l.key-iterator);
  room : vec_len l.values + length (into_iter_items l.key-iterator) ≤ vec_capacity l.values;
}

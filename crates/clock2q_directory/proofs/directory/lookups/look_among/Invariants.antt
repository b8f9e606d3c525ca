use Rattle.clock2q_directory.proofs.Names.{◌≡◌, length, is_key_at}
use Rattle.clock2q_directory.proofs.Looking.{LooksOn}
use Rattle.clock2q_directory.proofs.directory.lookups.look_among.Given as goal

abbrev pub invariant-loop-handle : goal.invariant-loop-handle
invariant-loop-handle g l = record {
  looks : LooksOn (is_key_at g.K.PartialEq.eq l.fn.key l.fn.residents.entries) (is_key_at g.K.PartialEq.eq l.fn.key l.fn.remembered.entries) l.fn.handles.end l.fn.handles.left l.handles.left
      (length l.fn.residents.entries) (length l.fn.remembered.entries) l.fn.residents.comparisons l.residents.comparisons l.fn.remembered.comparisons l.remembered.comparisons;
  end : l.handles.end ≡ l.fn.handles.end;
  residents : l.residents ≡ record l.fn.residents { comparisons = l.residents.comparisons };
  remembered : l.remembered ≡ record l.fn.remembered { comparisons = l.remembered.comparisons };
}

abbrev pub decreases-loop-handle : goal.decreases-loop-handle
decreases-loop-handle g l = length l.handles.left

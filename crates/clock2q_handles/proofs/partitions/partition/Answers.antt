use Rattle.std.proofs.Common.{refl}
use Rattle.clock2q_handles.proofs.Groups.{group_of, group_from_middle}
use Rattle.clock2q_handles.proofs.partitions.partition.Goals as goal

pub returns-clause-middle : goal.returns-clause-middle
returns-clause-middle c other same =
    group_from_middle c.args.hash other c.args.partitions _ c.requires.count (group_of c.args.hash c.args.partitions _ _ c.requires.count refl refl) same

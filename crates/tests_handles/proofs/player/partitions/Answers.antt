use Rattle.std.proofs.Common.{refl, lit≤}
use Rattle.tests_handles.proofs.player.partitions.Goals as goal

pub partition-requires : goal.partition-requires
partition-requires c = record { count = record { power = (8, refl); most = lit≤ tt } }

pub partition-requires-3 : goal.partition-requires-3
partition-requires-3 c = record { count = record { power = (16, refl); most = lit≤ tt } }

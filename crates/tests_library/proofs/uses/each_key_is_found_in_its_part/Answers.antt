use Rattle.std.proofs.Common.{refl, lit≤}
use Rattle.tests_library.proofs.uses.each_key_is_found_in_its_part.Goals as goal

pub new-requires : goal.new-requires
new-requires g = record { count = record { power = (2, refl); most = lit≤ tt } }

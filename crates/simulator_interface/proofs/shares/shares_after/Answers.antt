use Rattle.std.proofs.Common.{◌≡◌, true, arith}
use Rattle.std.proofs.lemmas.Str.Pattern.{split_once_first}
use Rattle.std.proofs.lemmas.Bool.{lt-ltb}
use Rattle.simulator_interface.specs.AskedOptions.{has_byte, is_comma}
use Rattle.simulator_interface.proofs.shares.shares_after.Goals as goal

pub returns-in-Some : goal.returns-in-Some
returns-in-Some c =
    let rest = c.args.rest.now in
    let parts = rw c.in-Some.is at (split_once_first 44 rest c.split_once.result c.split_once.ensures.cases (omega arith)) in
    let has : has_byte is_comma rest ≡ true = lt-ltb _ _ parts.0 in
    record { shares = rw (has, ← parts.1, ← parts.2) c.three_named.ensures.three }

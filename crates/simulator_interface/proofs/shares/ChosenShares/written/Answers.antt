use Rattle.std.proofs.Common.{◌≡◌, true, arith}
use Rattle.std.proofs.lemmas.Str.Pattern.{split_once_first}
use Rattle.std.proofs.lemmas.Bool.{lt-ltb}
use Rattle.simulator_interface.specs.AskedOptions.{has_byte, is_comma}
use Rattle.simulator_interface.proofs.shares.ChosenShares.written.Goals as goal

pub returns : goal.returns
returns c =
    let word = c.args.word.now in
    let parts = rw c.in_ok-first.was at (split_once_first 44 word c.split_once.result c.split_once.ensures.cases (omega arith)) in
    let has : has_byte is_comma word ≡ true = lt-ltb _ _ parts.0 in
    record { shares = rw (has, ← parts.1, ← parts.2) c.shares_after.ensures.shares }

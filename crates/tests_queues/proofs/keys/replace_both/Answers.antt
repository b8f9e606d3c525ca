-- There are two keys once one is written over.
use Rattle.std.proofs.Common.{◌≡◌, length, arith}
use Rattle.tests_queues.proofs.Replacing.{replaced_length}
use Rattle.tests_queues.proofs.keys.replace_both.Goals as goal

pub held-at_last-requires : goal.held-at_last-requires
held-at_last-requires c =
    let two : length c.replace_first_value-value.new.keys.entries ≡ 2 =
    omega (arith, c.requires.two, c.held-at_first.ensures.len, c.replace_first-hash.ensures.len, c.held-then.ensures.len, c.replace_first_value-value.ensures.len) in
    record { two = omega (arith, two, replaced_length c.put.ensures.entries (omega (arith, two))) }

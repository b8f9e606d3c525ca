-- There are as many keys once one is written over.
use Rattle.std.proofs.Common.{arith}
use Rattle.tests_queues.proofs.Replacing.{replaced_length}
use Rattle.tests_queues.proofs.keys.replace_first.Goals as goal

pub returns-clause-len : goal.returns-clause-len
returns-clause-len c = replaced_length c.replace-hash.ensures.entries (omega (arith, c.requires.two))

pub hash-requires : goal.hash-requires
hash-requires c = record { used = omega (arith, c.requires.two, replaced_length c.replace-hash.ensures.entries (omega (arith, c.requires.two))) }

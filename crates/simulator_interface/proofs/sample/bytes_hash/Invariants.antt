-- The hash so far is that of the bytes so far.
use Rattle.std.proofs.Common.{◌≡◌, take}
use Rattle.std.specs.List.{fold}
use Rattle.simulator_interface.specs.Sample.{after_byte}
use Rattle.simulator_interface.proofs.sample.bytes_hash.Given as goal

abbrev pub invariant-loop-byte : goal.invariant-loop-byte
invariant-loop-byte l = l.hash ≡ fold after_byte 1 (take l.byte-index l.key)

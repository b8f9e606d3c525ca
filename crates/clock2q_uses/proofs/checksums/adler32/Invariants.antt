-- The sums so far, continued over the bytes that are left, are those of all bytes.
use Rattle.std.proofs.Common.{◌≡◌, ◌<◌, drop}
use Rattle.clock2q_uses.specs.Checksums.{sums}
use Rattle.clock2q_uses.proofs.checksums.adler32.Given as goal

abbrev pub invariant-loop-byte : goal.invariant-loop-byte
invariant-loop-byte l = record {
  low : l.low < 65521;
  high : l.high < 65521;
  same : sums (drop l.byte-index l.bytes) l.low l.high ≡ sums l.bytes 1 0;
}

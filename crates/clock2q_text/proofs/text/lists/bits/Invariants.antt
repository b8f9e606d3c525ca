use Rattle.std.proofs.Common.{drop}
use Rattle.clock2q_text.specs.Text.{bit_of}
use Rattle.clock2q_text.proofs.Listing.{IsReadUpTo}
use Rattle.clock2q_text.proofs.text.lists.bits.Given as goal

abbrev pub invariant-loop-byte : goal.invariant-loop-byte
invariant-loop-byte g l = IsReadUpTo bit_of l.words (drop l.byte-index l.words) l.refused l.bits.items

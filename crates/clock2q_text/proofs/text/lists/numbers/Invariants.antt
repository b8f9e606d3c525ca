use Rattle.std.proofs.Common.{length, Option, Some, None, ◌+◌, ℕ, List}
use Rattle.std.specs.Borrow.{Bor}
use Rattle.clock2q_text.specs.Cut.{words_after}
use Rattle.clock2q_text.specs.Text.{words_of, number_of}
use Rattle.clock2q_text.proofs.Listing.{IsReadUpTo}
use Rattle.clock2q_text.proofs.text.lists.numbers.Given as goal

abbrev pub invariant-loop-rest : goal.invariant-loop-rest
invariant-loop-rest g l = IsReadUpTo number_of (words_of l.words) (words_after l.rest) l.refused l.values.items

-- the number of bytes left plus one, if there is a rest
abbrev left : Option (Bor (List ℕ)) → ℕ
left None = 0
left (Some rest) = length rest.now + 1

abbrev pub decreases-loop-rest : goal.decreases-loop-rest
decreases-loop-rest g l = left l.rest

-- A list of puts.
use Rattle.std.proofs.Common.{ℕ, List, [], ◌∷◌, map}
use Rattle.clock2q_text.specs.Commands.{AreSupplied}
use Rattle.clock2q_uses.specs.Replay.{put_of}

-- a put makes no slots but its own
pub puts-supplied : (keys : List ℕ) → AreSupplied (map put_of keys)
puts-supplied [] = tt
puts-supplied (key ∷ keys) = (tt, puts-supplied keys)

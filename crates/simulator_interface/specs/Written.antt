-- A text that was written.
use Rattle.std.specs.Prelude.{ℕ, List, Option}
use Rattle.clock2q_ports.specs.Ports.{Traffic}
use Rattle.clock2q_ports.specs.Transfer.{IsSent}

-- a whole text was written and flushed
pub record IsWritten (took takes : Traffic) (held holds : Option (List ℕ)) : Type 0 where
  pub text : List ℕ
  pub sent : IsSent took takes held holds text

use Rattle.std.proofs.Common.{rules}
use Rattle.simulator_traces.specs.KnownKeys.{hash_of}
use Rattle.simulator_traces.proofs.key_bytes.hash_of.Goals as goal

pub returns : goal.returns
unfolding hash_of
returns c = search rules

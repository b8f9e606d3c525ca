use Rattle.std.proofs.Common.{sym, subst}
use Rattle.simulator_traces.specs.Sampled.{sampled}
use Rattle.simulator_traces.specs.Trace.{AreNumbersOf, keys_of}
use Rattle.simulator_traces.proofs.Numbering.{numbers_are}
use Rattle.simulator_traces.proofs.trace.GrowingTrace.finish.Goals as goal

pub invariant_of-result : goal.invariant_of-result
invariant_of-result g c =
    let keys = keys_of (sampled c.self.inside.sample c.self.inside.accesses.value) in
    record {
      numbered = subst (AreNumbersOf keys c.self.inside.numbers.items) (sym c.len.ensures.len) (numbers_are c.self.inside.known c.self.inside.numbers.items keys c.self.invariant.numbered);
      kept = c.self.invariant.kept;
      counted = c.self.invariant.counted;
    }

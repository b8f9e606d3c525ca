use Rattle.std.proofs.Common.{rules, sym, subst}
use Rattle.clock2q_handles.specs.TableStep.{IsHashOf}
use Rattle.tests_handles.proofs.Keyed.{hashes-made}
use Rattle.tests_handles.proofs.runs.run_counted.Goals as goal

pub run_table-requires-clause-hashes : goal.run_table-requires-clause-hashes
run_table-requires-clause-hashes g c = (
  (λ handle. handle.hash),
  record {
    one = λ handle hash called. search rules;
    hashes = subst (λ table. IsHashOf (λ handle. handle.hash) table.homes) (sym c.in_ok-table.ensures.made) (hashes-made _ c.args.entries);
  },
)

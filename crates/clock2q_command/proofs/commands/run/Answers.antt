-- The commands that are left have their values, each inspection by the hand is paid for, and a list takes linear time.
use Rattle.std.proofs.Common.{rules, arith, ◌≡◌, refl, sym, ap, ◌∙◌, subst, map}
use Rattle.std.proofs.lemmas.Grind.{common_steps}
use Rattle.clock2q_machine.proofs.Clock.{run_bounded}
use Rattle.clock2q_machine.proofs.Linear.{linear_inspections}
use Rattle.clock2q_cache.proofs.LinearAccesses.{linear_accesses}
use Rattle.std.proofs.lemmas.List.{length-map}
use Rattle.std.specs.Vec.Iter.{into_iter_items}
use Rattle.clock2q_cache.specs.Costs.{most_accesses}
use Rattle.clock2q_cache.specs.Runs.{RunsAtCost}
use Rattle.clock2q_machine.specs.Bounds.{summed}
use Rattle.clock2q_command.proofs.commands.run.Invariants.{members}
use Rattle.clock2q_text.specs.Commands.{call_of, AreSupplied}
use Rattle.clock2q_command.proofs.commands.run.Goals as goal

pub loop-command-init : goal.loop-command-init
loop-command-init g c = record {
  can = search rules;
  ends = search rules;
  replied = search rules;
  rest = search rules;
  ran = λ end ran. subst (λ items. RunsAtCost (members g) g.S.BuildHasher g.S.Hasher.Hasher (map call_of items) c.args.cache.now end) (search rules) ran;
  hasher = refl;
  linked = let e : into_iter_items c.into_iter-command-iterator.result ≡ c.args.commands.items = search rules in
      omega (
        arith,
        ap
            (λ items. summed g.K.PartialEq.eq (most_accesses g.K.PartialEq.eq) (map call_of items) c.args.cache.now.machine) e,
      );
  looked = search rules;
  supplied = subst (λ items. AreSupplied (map call_of items)) (search rules) c.requires.prefills;
  room = search rules;
}

pub execute-requires : goal.execute-requires
execute-requires g c = record { prefill = (subst (λ items. AreSupplied (map call_of items)) c.in-Some.ensures.steps.0 c.loop-command.invariant.supplied).0 }

pub loop-command-preserved : goal.loop-command-preserved
loop-command-preserved g c = record {
  can = search rules;
  ends = search rules;
  replied = grind (arith, common_steps);
  rest = grind (arith, common_steps);
  ran = λ end ran.
      c.loop-command.invariant.ran end
      (subst (λ items. RunsAtCost (members g) g.S.BuildHasher g.S.Hasher.Hasher (map call_of items) c.loop-command.cache end)
      (sym c.in-Some.ensures.steps.0) (
        c.execute.ensures.indexed,
        c.execute.ensures.spacious,
        (c.execute.new.cache, (c.execute.ensures.machine, c.execute.ensures.hasher, c.execute.ensures.costs), c.execute.ensures.known, ran),
      ));
  hasher = c.execute.ensures.hasher ∙ c.loop-command.invariant.hasher;
  linked = grind (arith, common_steps, c.execute.ensures.costs.counts.accesses.1);
  looked = grind (arith, common_steps, c.execute.ensures.costs.counts.inspections);
  supplied = (subst (λ items. AreSupplied (map call_of items)) c.in-Some.ensures.steps.0 c.loop-command.invariant.supplied).1;
  room = grind (arith, common_steps);
}

pub returns-clause-clock : goal.returns-clause-clock
returns-clause-clock g c = grind (arith, common_steps, run_bounded g.K.PartialEq.eq (map call_of c.args.commands.items) c.args.cache.now.machine)

pub returns-clause-replies : goal.returns-clause-replies
returns-clause-replies g c = grind (arith, common_steps)

pub returns-clause-machine : goal.returns-clause-machine
returns-clause-machine g c = grind (arith, common_steps)

pub returns-clause-turns : goal.returns-clause-turns
returns-clause-turns g c whole =
    grind (
      arith,
      common_steps,
      length-map c.args.commands.items call_of,
      linear_inspections g.K.PartialEq.eq g.met.K.Eq.laws (map call_of c.args.commands.items) c.args.cache.now.machine whole,
    )

pub returns-clause-linear : goal.returns-clause-linear
returns-clause-linear g c whole some =
    grind (
      arith,
      common_steps,
      length-map c.args.commands.items call_of,
      linear_accesses g.K.PartialEq.eq g.met.K.Eq.laws (map call_of c.args.commands.items) c.args.cache.now.machine whole some,
    )

pub returns-clause-memory : goal.returns-clause-memory
returns-clause-memory g c = search rules

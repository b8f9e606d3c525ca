use Rattle.std.proofs.Common.{◌≤◌, ◌+◌, ◌∙◌, take, get_or, subst, sym, arith, rules}
use Rattle.std.specs.Option.{IfSome}
use Rattle.std.specs.Prelude.{None}
use Rattle.std.proofs.lemmas.Option.{slice_get-get_or}
use Rattle.std.specs.List.{All}
use Rattle.std.specs.NonZero.{non_zero_usize_get}
use Rattle.std.proofs.lemmas.List.{take_all, take_more}
use Rattle.simulator_interface.specs.declared.amount.Unit.TheVariants.{Keys}
use Rattle.simulator_interface.specs.declared.shares.ChosenShares.{ChosenShares}
use Rattle.simulator_interface.specs.Amounts.{amount}
use Rattle.simulator_replay.specs.BestShares.{AreFirst, HasNoMore}
use Rattle.simulator_replay.proofs.TriedShares.{fewer_of_all, no_more_of_all, no_more_than}
use Rattle.simulator_interface.proofs.Zipped.{All-more}
use Rattle.simulator_replay.proofs.best_shares.best_shares_of.Goals.{then-most-hits, else-most-hits}
use Rattle.simulator_replay.proofs.best_shares.best_shares_of.Goals as goal

abbrev no_shares : ChosenShares
no_shares = record { small = amount Keys 0; window = amount Keys 0; history = None }

pub loop-shares-preserved : goal.loop-shares-preserved
loop-shares-preserved g c =
    let numbers = c.args.trace.now.numbers in
    let room = non_zero_usize_get c.args.capacity in
    let i = c.loop-shares.shares-index in
    let all = c.args.tried.now in
    let most = c.if-most-hits.most in
    let grown : c.loop-shares.most ≤ most = elim c.if-most-hits.branch [ then-most-hits w ↦ omega (arith, w.most-is, w.if-most-hits.true) | else-most-hits w ↦ omega (arith, w.most-is) ] in
    let large : c.in_ok-hits.hits ≤ most = elim c.if-most-hits.branch [ then-most-hits w ↦ omega (arith, w.most-is) | else-most-hits w ↦ omega (arith, w.most-is, w.if-most-hits.false) ] in
    record {
      no_fewer = omega (arith, grown, c.loop-shares.invariant.no_fewer);
      hits = elim c.if-most-hits.branch [
        | then-most-hits w ↦ rw w.best-is (w.most-is ∙ c.in_ok-hits.ensures.some (omega (arith, w.if-most-hits.true)))
        | else-most-hits w ↦ rw w.best-is (w.most-is ∙ c.loop-shares.invariant.hits)
      ];
      each = All-more (HasNoMore c.args.skipped numbers room most) (take i all) (get_or all i no_shares) (take (i + 1) all) (take_more all i no_shares c.loop-shares-test.true)
          (no_more_of_all c.args.skipped numbers room c.loop-shares.most most (take i all) grown c.loop-shares.invariant.each)
          (no_more_than c.args.skipped numbers room c.in_ok-hits.hits most (get_or all i no_shares) large c.in_ok-hits.ensures.most);
      first = elim c.if-most-hits.branch [
        | then-most-hits w ↦ subst (λ best. IfSome best (AreFirst c.args.skipped numbers room all c.in_ok-usual.usual most)) (sym w.best-is) (
            record {
              place = i;
              there = slice_get-get_or all i no_shares c.loop-shares-test.true;
              fewer = fewer_of_all c.args.skipped numbers room c.loop-shares.most most (take i all) (omega (arith, w.most-is, w.if-most-hits.true)) c.loop-shares.invariant.each;
              gain = omega (arith, w.most-is, w.if-most-hits.true, c.loop-shares.invariant.no_fewer);
            }
            )
        | else-most-hits w ↦ rw (w.best-is, w.most-is) c.loop-shares.invariant.first
      ];
    }

pub returns-clause-best : goal.returns-clause-best
returns-clause-best g c = record {
  capacity = search rules;
  usual = c.in_ok-usual.ensures.hits;
  hits = c.loop-shares.invariant.hits;
  no_fewer = c.loop-shares.invariant.no_fewer;
  most = subst (All (HasNoMore c.args.skipped c.args.trace.now.numbers
      (non_zero_usize_get c.args.capacity) c.loop-shares.most))
      (take_all c.loop-shares.shares-index c.args.tried.now c.loop-shares-test.false)
      c.loop-shares.invariant.each;
  first = c.loop-shares.invariant.first;
}

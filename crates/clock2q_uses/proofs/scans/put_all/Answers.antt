use Rattle.std.proofs.Common.{◌≡◌, arith, ◌≤◌, eqb, inl, inr, sym, ap, ◌∙◌, subst}
use Rattle.std.specs.Cmp.{nat_eq_equiv}
use Rattle.std.proofs.lemmas.List.{at_drop_all}
use Rattle.clock2q_machine.specs.Scans.{left_all, left_main, set_in_small}
use Rattle.clock2q_machine.specs.Steps.{after_all}
use Rattle.clock2q_machine.proofs.Scanned.{scan_left_all, scan_left, scan_left_share, scan_untouched, scan_keeps, scan_differs}
use Rattle.clock2q_uses.specs.Scanning.{LeavesOrStays, calls_of, puts_of}
use Rattle.clock2q_uses.proofs.scans.put_all.Goals as goal

pub returns-clause-all : goal.returns-clause-all
returns-clause-all c some scans =
    let after : c.loop-key.cache.machine ≡ after_all eqb (calls_of c.args.keys.now) c.args.cache.now.machine =
    sym (at_drop_all (λ keys. after_all eqb (calls_of keys) c.loop-key.cache.machine) c.args.keys.now c.loop-key.key-index (omega (arith, c.loop-key-test.false))) ∙ c.loop-key.invariant in
    subst (λ m. left_all eqb c.args.cache.now.machine m ≤ c.args.cache.now.machine.shares.small) (sym after)
    (scan_left_all eqb nat_eq_equiv c.args.cache.now.machine c.facts.ensures.whole (puts_of c.args.keys.now) scans some)

pub returns-clause-left : goal.returns-clause-left
returns-clause-left c some scans =
    let after : c.loop-key.cache.machine ≡ after_all eqb (calls_of c.args.keys.now) c.args.cache.now.machine =
    sym (at_drop_all (λ keys. after_all eqb (calls_of keys) c.loop-key.cache.machine) c.args.keys.now c.loop-key.key-index (omega (arith, c.loop-key-test.false))) ∙ c.loop-key.invariant in
    subst (λ m. left_main eqb c.args.cache.now.machine m ≤ set_in_small c.args.cache.now.machine) (sym after)
    (scan_left eqb nat_eq_equiv c.args.cache.now.machine c.facts.ensures.whole (puts_of c.args.keys.now) scans some)

pub returns-clause-share : goal.returns-clause-share
returns-clause-share c some scans =
    let after : c.loop-key.cache.machine ≡ after_all eqb (calls_of c.args.keys.now) c.args.cache.now.machine =
    sym (at_drop_all (λ keys. after_all eqb (calls_of keys) c.loop-key.cache.machine) c.args.keys.now c.loop-key.key-index (omega (arith, c.loop-key-test.false))) ∙ c.loop-key.invariant in
    subst (λ m. left_main eqb c.args.cache.now.machine m ≤ c.args.cache.now.machine.shares.small) (sym after)
    (scan_left_share eqb nat_eq_equiv c.args.cache.now.machine c.facts.ensures.whole (puts_of c.args.keys.now) scans some)

pub returns-clause-untouched : goal.returns-clause-untouched
returns-clause-untouched c full scans none =
    let after : c.loop-key.cache.machine ≡ after_all eqb (calls_of c.args.keys.now) c.args.cache.now.machine =
    sym (at_drop_all (λ keys. after_all eqb (calls_of keys) c.loop-key.cache.machine) c.args.keys.now c.loop-key.key-index (omega (arith, c.loop-key-test.false))) ∙ c.loop-key.invariant in
    ap (λ m. m.main) after ∙ scan_untouched eqb nat_eq_equiv c.args.cache.now.machine c.facts.ensures.whole (puts_of c.args.keys.now) scans full none

pub returns-clause-keeps : goal.returns-clause-keeps
returns-clause-keeps c scans =
    let m = c.args.cache.now.machine in
    let puts = puts_of c.args.keys.now in
    let after : c.loop-key.cache.machine ≡ after_all eqb (calls_of c.args.keys.now) m =
    sym (at_drop_all (λ keys. after_all eqb (calls_of keys) c.loop-key.cache.machine) c.args.keys.now c.loop-key.key-index (omega (arith, c.loop-key-test.false))) ∙ c.loop-key.invariant in
    subst (λ n. LeavesOrStays m n) (sym after) (λ key slot found.
    elim (scan_keeps eqb nat_eq_equiv puts m c.facts.ensures.whole key (scan_differs eqb nat_eq_equiv puts m key slot found scans))
    [ inl gone ↦ inl gone | inr same ↦ inr (same.0 ∙ found, same.1) ])

use Rattle.clock2q_directory.proofs.Names.{is_some, ◌≡◌, true, false, Some, None, ap, sym, ◌∙◌, arith, eqb, list_any, candidates, run, IndexState, HasSlotRoom, index_of, index_state, is_shared, slots, forgotten_if}
use Rattle.clock2q_directory.proofs.Views.{held_entry}
use Rattle.clock2q_directory.proofs.Sorted.{shared-few, spare-there, held_place, sorted-entered, sorted-remembered}
use Rattle.clock2q_directory.proofs.Succession.{IsBeside, beside-free, beside-past, still-held, succeeded, succeeded-indexed, slots-if, shared-if, few-apart}
use Rattle.clock2q_directory.proofs.index.Index.replace_remembering.Given.{Over}
use Rattle.clock2q_directory.proofs.index.Index.replace_remembering.Goals.{After-pack-handle, After-replace-in-Some, After-insert_at_gap-in-None, After-self-then-not-is_shared}
use Rattle.clock2q_directory.proofs.index.Index.replace_remembering.Goals as goal

-- In two tables

module _ (g : Over) (c : After-self-then-not-is_shared g) where
  now : index_of c.self-then-not-is_shared.inside.shared c.self-then-not-is_shared.inside.own c.self-then-not-is_shared.inside.charged.total ≡ forgotten_if c.args.retired.oldest c.args.retired.place
      c.args.self.now
  now = c.self-then-not-is_shared.view_is ∙ c.forget.ensures.forgotten

  same : slots (index_of c.self-then-not-is_shared.inside.shared c.self-then-not-is_shared.inside.own c.self-then-not-is_shared.inside.charged.total) ≡ slots c.args.self.now
  same = ap slots now ∙ slots-if c.args.retired.place c.args.self.now c.args.retired.oldest

  apart-before : is_shared c.args.self.now ≡ false
  apart-before = sym c.is_shared.ensures.shared ∙ c.if-not-is_shared.true

  apart : is_shared (index_state c.self-then-not-is_shared.inside.shared.homes c.self-then-not-is_shared.inside.own.homes) ≡ false
  apart = ap is_shared now ∙ shared-if c.args.retired.place c.args.self.now c.args.retired.oldest ∙ apart-before

pub replace-requires : goal.replace-requires
replace-requires g c =
    let v = index_of c.self-then-not-is_shared.inside.shared c.self-then-not-is_shared.inside.own c.self-then-not-is_shared.inside.charged.total in
    let at = (goal.at.replace-requires g c).After-self-then-not-is_shared in
    record {
      few = shared-few v c.self-then-not-is_shared.invariant.sorted (few-apart c.args.self.now v (same g at) (apart g at) c.requires.beside.few);
      gap = tt;
      spare = λ none. absurd (cc);
      held = held_entry v c.args.retired.hash c.args.slot (ap (λ z. list_any (eqb c.args.slot) (candidates z c.args.retired.hash)) (same g at) ∙ c.requires.may.held.there);
    }

pub invariant_of-self : goal.invariant_of-self
invariant_of-self g c =
    let i = c.self-then-not-is_shared.invariant in
    let s = c.replace.ensures in
    let o = c.insert_at_gap.ensures in
    let below = c.requires.may.held.below in
    let own = apart g (goal.at.invariant_of-self g c).After-self-then-not-is_shared in
    record {
      sorted = rw (s.replaced, o.put)
          (sorted-entered c.args.hash c.args.slot below (sorted-remembered c.args.retired.hash c.args.slot c.args.retired.place below i.sorted));
      shared_laid = s.laid.laid;
      own_laid = o.laid.laid;
      counted = omega (
        arith,
        i.counted,
        rw own at c.charge.ensures.charged,
        s.accesses.1,
        o.reads,
        o.writes.1,
        ap (λ t. run t c.args.hash) i.shared_laid,
        ap (λ t. run t c.args.retired.hash) i.shared_laid,
        ap (λ t. run t c.args.retired.hash) i.own_laid,
      );
    }

-- In one

module _ (g : Over) (c : After-pack-handle g) where
  abbrev before : IndexState
  before = index_of c.self.inside.shared c.self.inside.own c.self.inside.charged.total

  shared : is_shared before ≡ true
  shared = ap is_shared c.self.view_is ∙ sym c.is_shared.ensures.shared ∙ c.if-not-is_shared.false

  room : HasSlotRoom before
  room = rw (← c.self.view_is) at (c.requires.beside.spare (sym c.is_shared.ensures.shared ∙ c.if-not-is_shared.false))

  held : list_any (eqb c.args.slot) (candidates (slots before) c.args.retired.hash) ≡ true
  held = (rw (← c.self.view_is) at c.requires.may).held.there

past : (g : Over) (c : After-replace-in-Some g) → is_shared (index_of c.self.inside.shared c.self.inside.own c.self.inside.charged.total) ≡ true
    → IsBeside (Some c.in-Some.oldest) c.args.retired.place c.args.hash c.args.slot c.self.inside.shared c.self.inside.own c.self.inside.charged.total (is_some c.args.gap) c.replace-in-Some.new.self
past g c shared =
    let e = c.replace-in-Some.ensures in
    beside-past c.args.retired.place c.args.hash c.args.slot c.self.inside.shared c.self.inside.own c.self.inside.charged.total c.self.invariant
    c.args.gap c.in-Some.oldest shared e.accesses (rw c.pack-handle.ensures.packed at e.replaced)

free : (g : Over) (c : After-insert_at_gap-in-None g)
    → IsBeside None c.args.retired.place c.args.hash c.args.slot c.self.inside.shared c.self.inside.own c.self.inside.charged.total (is_some c.args.gap) c.insert_at_gap-in-None.new.self
free g c =
    let e = c.insert_at_gap-in-None.ensures in
    beside-free c.args.retired.place c.args.hash c.args.slot c.self.inside.shared c.self.inside.own c.self.inside.charged.total c.self.invariant c.args.gap e.writes e.reads e.put

pub replace-requires-in-Some : goal.replace-requires-in-Some
replace-requires-in-Some g c =
    let at = (goal.at.replace-requires-in-Some g c).After-pack-handle in
    let may = rw (← c.self.view_is, c.in-Some.is) at c.requires.may in
    let gap = rw (← c.self.view_is) at c.requires.gap in
    let spare = spare-there (before g at) c.self.invariant.sorted (room g at) in
    record {
      few = omega (arith, spare.few);
      gap = gap;
      spare = λ _. spare;
      held = rw c.pack-handle.ensures.packed (held_place (before g at) c.in-Some.oldest c.args.retired.place (shared g at) may.held_place);
    }

pub insert_at_gap-requires-in-None : goal.insert_at_gap-requires-in-None
insert_at_gap-requires-in-None g c =
    let at = (goal.at.insert_at_gap-requires-in-None g c).After-pack-handle in
    let gap = rw (← c.self.view_is) at c.requires.gap in
    record {
      spare = spare-there (before g at) c.self.invariant.sorted (room g at);
      gap = gap;
    }

pub replace_handle-requires : goal.replace_handle-requires
replace_handle-requires g c =
    let x = goal.at.replace_handle-requires g c in
    let at = x.After-pack-handle in
    record {
      held = still-held (Some c.in-Some.oldest) c.args.retired.place c.args.hash c.args.slot c.args.retired.hash c.self.inside.shared c.self.inside.own c.self.inside.charged.total
          c.self.invariant (shared g at) (held g at) (past g x.After-replace-in-Some (shared g at));
    }

pub invariant_of-self-in-Some : goal.invariant_of-self-in-Some
invariant_of-self-in-Some g c =
    let x = goal.at.invariant_of-self-in-Some g c in
    let at = x.After-pack-handle in
    let e = c.replace_handle.ensures in
    succeeded-indexed (Some c.in-Some.oldest) c.args.retired.place c.args.hash c.args.slot c.args.retired.hash c.self.inside.shared c.self.inside.own c.self.inside.charged.total c.self.invariant
    (shared g at) (held g at) (past g x.After-replace-in-Some (shared g at))
    c.replace_handle.new.self (rw c.pack-handle.ensures.packed at c.replace_handle.ensures.handle_replaced) (rw (c.in-Some.is, c.is_some.ensures) at c.charge-2.ensures.charged)
    e.laid.laid e.reads e.writes

pub returns-in-Some : goal.returns-in-Some
returns-in-Some g c =
    let x = goal.at.returns-in-Some g c in
    let at = x.After-pack-handle in
    record {
      replaced = rw (← c.self.view_is, c.in-Some.is) (succeeded (Some c.in-Some.oldest) c.args.retired.place c.args.hash c.args.slot c.args.retired.hash c.self.inside.shared c.self.inside.own
          c.self.inside.charged.total c.self.invariant (shared g at) (held g at) (past g x.After-replace-in-Some (shared g at))
          c.replace_handle.new.self (rw c.pack-handle.ensures.packed at c.replace_handle.ensures.handle_replaced) (rw (c.in-Some.is, c.is_some.ensures) at c.charge-2.ensures.charged));
    }

pub replace_handle-requires-in-None : goal.replace_handle-requires-in-None
replace_handle-requires-in-None g c =
    let x = goal.at.replace_handle-requires-in-None g c in
    let at = x.After-pack-handle in
    record {
      held = still-held None c.args.retired.place c.args.hash c.args.slot c.args.retired.hash c.self.inside.shared c.self.inside.own c.self.inside.charged.total c.self.invariant (shared g at)
          (held g at) (free g x.After-insert_at_gap-in-None);
    }

pub invariant_of-self-in-None : goal.invariant_of-self-in-None
invariant_of-self-in-None g c =
    let x = goal.at.invariant_of-self-in-None g c in
    let at = x.After-pack-handle in
    let e = c.replace_handle-in-None.ensures in
    succeeded-indexed None c.args.retired.place c.args.hash c.args.slot c.args.retired.hash c.self.inside.shared c.self.inside.own c.self.inside.charged.total c.self.invariant (shared g at)
    (held g at) (free g x.After-insert_at_gap-in-None)
    c.replace_handle-in-None.new.self (rw c.pack-handle.ensures.packed at c.replace_handle-in-None.ensures.handle_replaced) (rw (c.in-None.is, c.is_some.ensures) at c.charge-2.ensures.charged)
    e.laid.laid e.reads e.writes

pub returns-in-None : goal.returns-in-None
returns-in-None g c =
    let x = goal.at.returns-in-None g c in
    let at = x.After-pack-handle in
    record {
      replaced = rw (← c.self.view_is, c.in-None.is) (succeeded None c.args.retired.place c.args.hash c.args.slot c.args.retired.hash c.self.inside.shared c.self.inside.own
          c.self.inside.charged.total c.self.invariant (shared g at) (held g at) (free g x.After-insert_at_gap-in-None)
          c.replace_handle-in-None.new.self (rw c.pack-handle.ensures.packed at c.replace_handle-in-None.ensures.handle_replaced) (rw (c.in-None.is, c.is_some.ensures) at c.charge-2.ensures.charged));
    }

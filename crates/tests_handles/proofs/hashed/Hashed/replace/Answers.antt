use Rattle.std.proofs.Common.{rules, refl, sym, subst, eq-eqb}
use Rattle.std.proofs.lemmas.Map.Keys.{any_passes_from_place}
use denote.Param.Always.{mut_total}
use Rattle.clock2q_handles.specs.Homes.{top, listed, is_entry_of}
use Rattle.clock2q_handles.specs.TableStep.{IsHashOf}
use Rattle.clock2q_handles.proofs.Offering.{offered_any}
use Rattle.tests_handles.specs.contracts.handle.HandlePartialEq.TheImpl as equals
use Rattle.tests_handles.proofs.Keyed.{hashes-replaced}
use Rattle.tests_handles.proofs.hashed.Hashed.replace.Goals as goal

pub search-requires : goal.search-requires
search-requires g c = record { callable = offered_any _ _ _ (mut_total _ _ (λ f a. search rules)) }

pub replace-requires-clause-held : goal.replace-requires-clause-held
replace-requires-clause-held g c =
    let found = c.in-Ok.ensures.found in
    let x = c.args.old_hash in
    let old = c.in-Ok.old in
    any_passes_from_place (is_entry_of equals.ghosts.eq x old) (listed c.self.inside.table.homes x) found.0 (top x, old) found.1.entry
    (rw (eq-eqb (top x) (top x) refl, eq-eqb old.hash old.hash refl, eq-eqb old.number old.number refl) refl)

pub invariant_of-self : goal.invariant_of-self
invariant_of-self g c =
    subst (IsHashOf (λ handle. handle.hash)) (sym c.replace.ensures.replaced)
    (hashes-replaced (λ handle. handle.hash) equals.ghosts.eq c.self.inside.table.homes c.args.old_hash c.in-Ok.old c.args.handle c.self.invariant)

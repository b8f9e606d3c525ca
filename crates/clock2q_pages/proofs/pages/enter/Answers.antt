use Rattle.std.proofs.Common.{rules, ◌≡◌, ◌<◌, Some, eqb, eqb-true, slice_get, refl, sym, ap, ◌∙◌, subst}
use Rattle.std.specs.Cmp.{nat_eq_equiv}
use Rattle.clock2q_cache.proofs.Charged.{charged-costs}
use Rattle.clock2q_pages.proofs.Paging.{last_is_loaded, page_there, page_alone, others_keep_frames, frame_within, value_there, values_elsewhere, same_shares}
use Rattle.clock2q_machine.specs.Steps.{put}
use Rattle.clock2q_pages.specs.Pages.{last_in}
use Rattle.clock2q_pages.proofs.pages.enter.Goals as goal

pub returns-clause-resident : goal.returns-clause-resident
returns-clause-resident g c = page_there c.args.pages.now.machine c.facts.ensures.whole c.args.page (Some c.args.page) ∙ ap Some (sym c.get_or_insert_mut-frame.ensures.slot)

pub returns-clause-alone : goal.returns-clause-alone
returns-clause-alone g c =
    λ other differ found.
    page_alone c.args.pages.now.machine c.facts.ensures.whole c.args.page (Some c.args.page) other differ
    (found ∙ ap Some c.get_or_insert_mut-frame.ensures.slot)

pub returns-clause-others : goal.returns-clause-others
returns-clause-others g c = others_keep_frames c.args.pages.now.machine c.facts.ensures.whole c.args.page (Some c.args.page)

pub returns-clause-within : goal.returns-clause-within
returns-clause-within g c =
    subst (λ frame. frame < c.args.pages.now.machine.shares.capacity) (sym c.get_or_insert_mut-frame.ensures.slot)
    (frame_within c.args.pages.now.machine c.facts.ensures.whole c.args.page (Some c.args.page))

pub returns-clause-loaded : goal.returns-clause-loaded
returns-clause-loaded g c =
    let last : c.get_or_insert_mut-frame.result.1.now ≡ last_in c.args.pages.now.machine c.get_or_insert_mut-frame.result.0 = search rules in
    rw last (last_is_loaded c.args.pages.now.machine c.args.page c.get_or_insert_mut-frame.result.0)

pub returns-clause-loads : goal.returns-clause-loads
returns-clause-loads g c =
    ap (slice_get (put (eqb c.args.page) c.args.page (Some c.args.page) c.args.pages.now.machine).values)
    c.get_or_insert_mut-frame.ensures.slot
    ∙ value_there c.args.pages.now.machine c.facts.ensures.whole c.args.page (Some c.args.page)

pub returns-clause-keeps : goal.returns-clause-keeps
returns-clause-keeps g c =
    λ other at differ loaded.
    sym (values_elsewhere c.args.pages.now.machine c.facts.ensures.whole c.args.page (Some c.args.page) at
    (λ same. differ (same ∙ sym c.get_or_insert_mut-frame.ensures.slot))) ∙ loaded

pub returns-clause-costs : goal.returns-clause-costs
returns-clause-costs g c =
    charged-costs (Some c.args.page) c.args.pages.now nat_eq_equiv (λ x y same. rw (eqb-true x y same) refl) c.facts.ensures.whole c.facts.ensures.indexed.as_many c.facts.ensures.within

pub returns-clause-shares : goal.returns-clause-shares
returns-clause-shares g c = same_shares c.args.pages.now.machine c.facts.ensures.whole c.args.page (Some c.args.page)

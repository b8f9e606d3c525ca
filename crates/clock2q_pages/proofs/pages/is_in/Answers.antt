use Rattle.std.proofs.Common.{rules, ◌≡◌, ◌∙◌, ap, eqb}
use Rattle.clock2q_machine.specs.Steps.{hit_at}
use Rattle.clock2q_pages.specs.Pages.{resident_frame}
use Rattle.clock2q_pages.proofs.Paging.{asked_frames, asked_values, asked_shares, asked_there}
use Rattle.clock2q_pages.proofs.pages.is_in.Goals as goal

pub returns-clause-resident : goal.returns-clause-resident
returns-clause-resident g c = asked_there c.args.pages.now.machine c.facts.ensures.whole c.args.frame c.args.page c.get_at.result c.is_some.result c.get_at.ensures.value c.is_some.ensures

pub returns-clause-stay : goal.returns-clause-stay
returns-clause-stay g c =
    let after : c.get_at.follows.lender-at-none.machine ≡ hit_at c.args.frame (eqb c.args.page) c.args.pages.now.machine = search rules in
    λ other. ap (λ m. resident_frame m other) after ∙ asked_frames c.args.pages.now.machine c.facts.ensures.whole c.args.frame c.args.page other

pub returns-clause-values : goal.returns-clause-values
returns-clause-values g c =
    let after : c.get_at.follows.lender-at-none.machine ≡ hit_at c.args.frame (eqb c.args.page) c.args.pages.now.machine = search rules in
    ap (λ m. m.values) after ∙ asked_values c.args.pages.now.machine c.facts.ensures.whole c.args.frame c.args.page

pub returns-clause-shares : goal.returns-clause-shares
returns-clause-shares g c =
    let after : c.get_at.follows.lender-at-none.machine ≡ hit_at c.args.frame (eqb c.args.page) c.args.pages.now.machine = search rules in
    ap (λ m. m.shares) after ∙ asked_shares c.args.pages.now.machine c.facts.ensures.whole c.args.frame c.args.page

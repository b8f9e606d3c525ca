use Rattle.std.proofs.Common.{Some, arith, sym, ap, ◌∙◌, rules}
use Rattle.std.proofs.lemmas.Option.{slice_get-get_or}
use Rattle.clock2q_uses.proofs.Paging.{copied_loaded, set_there}
use Rattle.clock2q_uses.proofs.pages.load.Goals as goal

pub returns-then-ne-clause-content : goal.returns-then-ne-clause-content
returns-then-ne-clause-content g c =
    let e = c.enter-frame.ensures in
    let there = slice_get-get_or c.args.file.now c.args.page c.index-file-page.result c.requires.page ∙ ap Some (sym c.index-file-page.is) in
    λ loaded. set_there c.args.frames.now c.enter-frame.result.0 c.index-file-page.result (omega (arith, e.within, c.requires.frames)) ∙ sym there

pub returns-then-ne-clause-loaded : goal.returns-then-ne-clause-loaded
returns-then-ne-clause-loaded g c =
    let e = c.enter-frame.ensures in
    copied_loaded c.args.file.now c.args.frames.now c.args.pages.now.machine c.enter-frame.new.pages.machine c.args.page
    c.enter-frame.result.0 c.index-file-page.result
    (slice_get-get_or c.args.file.now c.args.page c.index-file-page.result c.requires.page
    ∙ ap Some (sym c.index-file-page.is)) (omega (arith, e.within, c.requires.frames)) e.loads e.keeps

pub returns-then-ne-clause-unread : goal.returns-then-ne-clause-unread
returns-then-ne-clause-unread g c = search rules

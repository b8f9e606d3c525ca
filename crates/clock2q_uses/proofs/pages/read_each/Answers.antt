use Rattle.std.proofs.Common.{rules, ◌∷◌, ◌++◌, [], map, take, slice_get, sym, ap, ◌∙◌}
use Rattle.std.proofs.lemmas.List.{map_more}
use Rattle.clock2q_uses.proofs.pages.read_each.Goals as goal

pub loop-number-preserved : goal.loop-number-preserved
loop-number-preserved g c =
    let inv = c.loop-number.invariant in
    record {
      read = c.push_reserved.ensures.items ∙ ap (λ read. read ++ c.read_page.result ∷ []) inv.read
          ∙ ap (λ page. map (slice_get c.args.file.now) (take c.loop-number.number-index c.args.numbers.now) ++ page ∷ [])
          (c.read_page.ensures.content inv.loaded)
          ∙ sym (map_more (slice_get c.args.file.now) c.args.numbers.now c.loop-number.number-index 0 c.loop-number-test.true);
      room = search (rules, inv.room);
      loaded = c.read_page.ensures.loaded inv.loaded;
      frames = search (rules, inv.frames);
    }

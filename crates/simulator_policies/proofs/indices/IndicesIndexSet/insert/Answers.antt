use Rattle.std.proofs.Common.{◌≡◌, ◌∙◌, ◌/◌, ◌*◌, ◌<◌, ◌==◌, ap, sym, refl, arith, length, length-set}
use Rattle.std.proofs.lemmas.Bool.{lt-ltb}
use Rattle.std.proofs.lemmas.List.{get_or_default}
use Rattle.simulator_policies.proofs.IndexWords.{word_at, marked_words, added, added_own, added_some, added_others}
use Rattle.simulator_policies.proofs.indices.IndicesIndexSet.insert.Goals as goal

pub returns-then-bits-eq0 : goal.returns-then-bits-eq0
returns-then-bits-eq0 g c =
    let words = c.args.self.now.words.items in
    let index = c.args.index in
    let n = c.index-bits.result.now in
    let place = c.place_of.result in
    let within : index / 64 < length words = omega (arith, c.requires.index) in
    let read : n ≡ word_at words (index / 64) = c.index-bits.ensures ∙ sym (get_or_default words (index / 64) 0 n within) in
    let at = c.place_of.ensures.place in
    let new = added words index n place within read at in
    record {
      set = record {
        few = omega (arith, length-set words (index / 64) new, c.requires.set.few);
        whole = c.insert.ensures.set;
        wide = omega (arith, length-set words (index / 64) new, c.insert.ensures.bound, c.requires.set.wide);
        each = marked_words words index new within (g.S.IndexSet.holds c.args.self.now.some) (g.S.IndexSet.holds c.insert.new.self) c.requires.set.each
            c.insert.ensures.others (c.insert.ensures.added ∙ sym (lt-ltb 0 new (added_some words index n place within read at)));
      };
      bound = ap (λ n. 64 * n) (length-set words (index / 64) new);
      added = ap (λ b. b == 1) (added_own words index n place within read at);
      others = λ other apart. ap (λ b. b == 1) (added_others words index n place within read at other apart);
    }

pub returns-else-bits-eq0 : goal.returns-else-bits-eq0
returns-else-bits-eq0 g c =
    let words = c.args.self.now.words.items in
    let index = c.args.index in
    let n = c.index-bits.result.now in
    let place = c.place_of.result in
    let within : index / 64 < length words = omega (arith, c.requires.index) in
    let read : n ≡ word_at words (index / 64) = c.index-bits.ensures ∙ sym (get_or_default words (index / 64) 0 n within) in
    let at = c.place_of.ensures.place in
    let new = added words index n place within read at in
    let some : 0 < word_at words (index / 64) = omega (arith, read, c.if-bits-eq0.false) in
    record {
      set = record {
        few = omega (arith, length-set words (index / 64) new, c.requires.set.few);
        whole = c.requires.set.whole;
        wide = omega (arith, length-set words (index / 64) new, c.requires.set.wide);
        each = marked_words words index new within (g.S.IndexSet.holds c.args.self.now.some) (g.S.IndexSet.holds c.args.self.now.some) c.requires.set.each
            (λ word apart. refl)
            (c.requires.set.each (index / 64) ∙ lt-ltb 0 (word_at words (index / 64)) some ∙ sym (lt-ltb 0 new (added_some words index n place within read at)));
      };
      bound = ap (λ n. 64 * n) (length-set words (index / 64) new);
      added = ap (λ b. b == 1) (added_own words index n place within read at);
      others = λ other apart. ap (λ b. b == 1) (added_others words index n place within read at other apart);
    }

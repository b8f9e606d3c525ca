use Rattle.std.proofs.Common.{◌≡◌, ◌∙◌, ◌/◌, ◌<◌, ◌==◌, ap, sym, arith, length}
use Rattle.std.proofs.lemmas.List.{get_or_default}
use Rattle.simulator_policies.proofs.IndexWords.{word_at, removed_own, removed_others}
use Rattle.simulator_policies.proofs.indices.IndicesIndexSet.remove.Goals as goal

pub returns-then-index-eq0-clause-others : goal.returns-then-index-eq0-clause-others
returns-then-index-eq0-clause-others g c =
    let words = c.args.self.now.words.items in
    let index = c.args.index in
    let n = c.index_mut.result.now in
    let place = c.place_of.result in
    let within : index / 64 < length words = omega (arith, c.requires.index) in
    let read : n ≡ word_at words (index / 64) = c.index_mut.ensures.value ∙ sym (get_or_default words (index / 64) 0 n within) in
    let at = c.place_of.ensures.place in
    λ other apart. ap (λ b. b == 1) (removed_others words index n place within read at other apart)

pub returns-else-index-eq0-clause-removed : goal.returns-else-index-eq0-clause-removed
returns-else-index-eq0-clause-removed g c =
    let words = c.args.self.now.words.items in
    let index = c.args.index in
    let n = c.index_mut.result.now in
    let place = c.place_of.result in
    let within : index / 64 < length words = omega (arith, c.requires.index) in
    let read : n ≡ word_at words (index / 64) = c.index_mut.ensures.value ∙ sym (get_or_default words (index / 64) 0 n within) in
    let at = c.place_of.ensures.place in
    ap (λ b. b == 1) (removed_own words index n place within read at)

pub returns-else-index-eq0-clause-others : goal.returns-else-index-eq0-clause-others
returns-else-index-eq0-clause-others g c =
    let words = c.args.self.now.words.items in
    let index = c.args.index in
    let n = c.index_mut.result.now in
    let place = c.place_of.result in
    let within : index / 64 < length words = omega (arith, c.requires.index) in
    let read : n ≡ word_at words (index / 64) = c.index_mut.ensures.value ∙ sym (get_or_default words (index / 64) 0 n within) in
    let at = c.place_of.ensures.place in
    λ other apart. ap (λ b. b == 1) (removed_others words index n place within read at other apart)

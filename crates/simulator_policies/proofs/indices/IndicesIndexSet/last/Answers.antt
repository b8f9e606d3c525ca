use Rattle.std.proofs.Common.{◌≡◌, ◌∙◌, ℕ, ◌+◌, ◌*◌, ◌-◌, ◌^◌, ◌<◌, ◌≤◌, ◌==◌, w64, ap, sym, subst, arith, length}
use Rattle.std.specs.Int.{trailing_zeros}
use Rattle.std.proofs.lemmas.Bool.{lt-ltb, ltb-true, eqb-true}
use Rattle.std.proofs.lemmas.List.{get_or_default}
use Rattle.simulator_policies.specs.IndexSets.{IsLastIn}
use Rattle.simulator_policies.specs.Indices.{contains}
use Rattle.simulator_policies.proofs.IndexWords.{word_at, within_words, last_bit, none_later}
use Rattle.simulator_policies.proofs.indices.IndicesIndexSet.last.Goals as goal

pub overflow_mul-result : goal.overflow_mul-result
overflow_mul-result g c =
    let words = c.args.self.now.words.items in
    let word = c.in_ok-word.word in
    let some : 0 < word_at words word = ltb-true 0 (word_at words word) (sym (c.requires.set.each word) ∙ c.in_ok-word.ensures.last.inside) in
    let within : word < length words = within_words words word some in
    omega (arith, within, c.requires.set.few)

pub overflow_add-result : goal.overflow_add-result
overflow_add-result g c =
    let words = c.args.self.now.words.items in
    let word = c.in_ok-word.word in
    let some : 0 < word_at words word = ltb-true 0 (word_at words word) (sym (c.requires.set.each word) ∙ c.in_ok-word.ensures.last.inside) in
    let within : word < length words = within_words words word some in
    omega (arith, within, c.requires.set.few)

pub returns : goal.returns
returns g c =
    let words = c.args.self.now.words.items in
    let word = c.in_ok-word.word in
    let n = c.index.result.now in
    let is = c.in_ok-word.ensures.last in
    let some : 0 < word_at words word = ltb-true 0 (word_at words word) (sym (c.requires.set.each word) ∙ is.inside) in
    let within : word < length words = within_words words word some in
    let read : word_at words word ≡ n = get_or_default words word 0 n within ∙ sym c.index.ensures in
    let fits : word_at words word < 2 ^ 64 = omega (arith, read) in
    let last : (other : ℕ) → 0 < word_at words other → other ≤ word =
    λ other more. is.latest other (c.requires.set.each other ∙ lt-ltb 0 (word_at words other) more) in
    record {
      last = subst (λ m. IsLastIn (contains c.args.self.now) (word * 64 + (63 - trailing_zeros w64 m))) read (record {
        inside = ap (λ b. b == 1) (last_bit words word some fits last);
        latest = λ other here. none_later words word some fits last other (eqb-true _ 1 here);
      });
    }

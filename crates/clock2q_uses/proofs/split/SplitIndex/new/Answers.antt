use Rattle.std.proofs.Common.{◌≡◌, ℕ, [], ◌∷◌, ◌++◌, List, replicate, rules, sym, ap, ◌∙◌, subst}
use Rattle.std.proofs.lemmas.List.{replicate_more}
use Rattle.clock2q_uses.specs.Split.{IsSplit}
use Rattle.clock2q_uses.proofs.Splitting.{split_none}
use Rattle.clock2q_uses.proofs.split.SplitIndex.new.Goals as goal

all : {n k : ℕ} {made : List (List ℕ)} → made ≡ replicate n [] → n ≡ k → made ≡ replicate k []
all is same = is ∙ ap (λ n. replicate n []) same

pub loop-preserved : goal.loop-preserved
loop-preserved c = record {
  made = c.push_reserved.ensures.items ∙ ap (λ parts. parts ++ c.new.result ∷ []) c.loop.invariant.made
      ∙ ap (λ keys. replicate c.loop.counter [] ++ keys ∷ []) c.new.ensures.empty ∙ replicate_more c.loop.counter [];
  room = search (rules, c.loop.invariant.room);
}

pub invariant_of-result : goal.invariant_of-result
invariant_of-result c = subst IsSplit (sym (all c.loop.invariant.made (search rules))) (split_none c.args.parts c.requires.count)

pub returns : goal.returns
returns c = record { empty = all c.loop.invariant.made (search rules) }

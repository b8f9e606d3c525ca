use Rattle.std.proofs.Common.{◌≡◌, ℕ, ◌<◌, ◌⊎◌, Some, List, [], get_or, length, slice_get, slice_set, length-set, sym, ◌∙◌, subst}
use Rattle.std.proofs.lemmas.List.{get_or_default}
use Rattle.clock2q_handles.specs.Partition.{IsGroupOf}
use Rattle.clock2q_uses.specs.Interning.{spread}
use Rattle.clock2q_uses.proofs.Splitting.{split_put, set_from}
use Rattle.clock2q_uses.proofs.split.SplitIndex.insert.Goals as goal

pub invariant_of-self : goal.invariant_of-self
invariant_of-self c =
    let parts : List (List ℕ) = c.self.inside.parts.items in
    let within : c.part_of-part.result < length parts = subst (λ ps. c.part_of-part.result < length ps) (sym c.self.view_is) c.part_of-part.ensures.within in
    let before : c.index_mut.result.now ≡ get_or parts c.part_of-part.result [] = c.index_mut.ensures.value ∙ get_or_default parts c.part_of-part.result c.index_mut.result.now [] within in
    split_put parts (slice_set parts c.part_of-part.result c.intern.new.self) c.args.key c.part_of-part.result c.self.invariant
    (length-set parts c.part_of-part.result c.intern.new.self)
    (subst (λ ps. IsGroupOf (spread c.args.key) (length ps) c.part_of-part.result) (sym c.self.view_is) c.part_of-part.ensures.group)
    (set_from parts c.part_of-part.result c.args.key c.intern.new.self within (λ number held at. subst (λ keys. (slice_get keys number ≡ Some held) ⊎ (held ≡ c.args.key)) before (c.intern.ensures.only number held at)))

use Rattle.std.proofs.Common.{◌≡◌, ◌∙◌, [], ◌∷◌, ◌++◌, true, false, cond, ap, sym}
use Rattle.std.proofs.lemmas.List.{map-append}
use Rattle.simulator_traces.specs.Formats.{access}
use Rattle.simulator_traces.specs.Sampled.{is_sampled, sampled}
use Rattle.simulator_traces.specs.Trace.{kept_sizes, keys_of}
use Rattle.simulator_traces.proofs.Numbering.{numbering_more}
use Rattle.simulator_traces.proofs.Sampling.{counted_more, kept_more, sampled_more, sampled_same}
use Rattle.simulator_traces.proofs.trace.GrowingTrace.push_sized.Goals as goal

pub invariant_of-self : goal.invariant_of-self
invariant_of-self g c =
    let sample = c.self.inside.sample in
    let old = c.self.inside.accesses.value in
    let more = access c.args.key.now c.args.size in
    let is : is_sampled sample c.args.key.now ≡ false = sym c.is_sampled.ensures.sampled ∙ c.if-not-is_sampled.true in
    let accesses : sampled sample c.set.new.self.value ≡ sampled sample old = ap (sampled sample) c.set.ensures.value ∙ sampled_same sample old more is in
    record {
      numbered = rw accesses c.self.invariant.numbered;
      kept = rw accesses c.self.invariant.kept;
      counted = counted_more old more c.set.new.self.value c.self.inside.all c.saturating_add-self-inside.result c.set.ensures.value c.self.invariant.counted c.saturating_add-self-inside.ensures;
    }

pub invariant_of-self-2 : goal.invariant_of-self-2
invariant_of-self-2 g c =
    let number = c.in_ok-number.number in
    let numbered = c.in_ok-number.ensures in
    let sample = c.self.inside.sample in
    let old = c.self.inside.accesses.value in
    let more = access c.args.key.now c.args.size in
    let is : is_sampled sample c.args.key.now ≡ true = sym c.is_sampled.ensures.sampled ∙ c.if-not-is_sampled.false in
    let numbers : c.push_reserved.new.self.items ≡ c.self.inside.numbers.items ++ number ∷ [] = c.push_reserved.ensures.items ∙ ap (λ ns. ns ++ number ∷ []) c.in_ok-reserve.ensures.items in
    let accesses : sampled sample c.set-2.new.self.value ≡ sampled sample old ++ more ∷ [] = ap (sampled sample) c.set-2.ensures.value ∙ sampled_more sample old more is in
    let keys : keys_of (sampled sample c.set-2.new.self.value) ≡ keys_of (sampled sample old)
    ++ c.args.key.now ∷ [] = ap keys_of accesses
    ∙ map-append (λ access. access.key) (sampled sample old) (more ∷ []) in
    let kept : c.keep_size.new.sizes.items ≡ cond c.self.inside.is_sized (c.self.inside.sizes.items ++ c.args.size ∷ []) c.self.inside.sizes.items =
    c.keep_size.ensures.kept ∙ ap (λ items. cond c.self.inside.is_sized (items ++ c.args.size ∷ []) items) c.in_ok-reserve-2.ensures.items in
    record {
      numbered = rw (numbers, keys)
          (numbering_more c.self.inside.known c.number_of.new.self c.self.inside.numbers.items
          (keys_of (sampled sample old)) number c.args.key.now c.self.invariant.numbered
          numbered.apart numbered.number numbered.kept numbered.only);
      kept = kept_more c.self.inside.is_sized (sampled sample old) more c.self.inside.sizes.items c.keep_size.new.sizes.items c.self.invariant.kept kept
          ∙ ap (kept_sizes c.self.inside.is_sized) (sym accesses);
      counted = counted_more old more c.set-2.new.self.value c.self.inside.all c.saturating_add-self-inside-2.result c.set-2.ensures.value c.self.invariant.counted c.saturating_add-self-inside-2.ensures;
    }

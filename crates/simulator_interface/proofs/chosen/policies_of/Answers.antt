use Rattle.std.proofs.Common.{◌≡◌, ◌∙◌, map, ap, sym, arith}
use Rattle.std.specs.List.{slice_split}
use Rattle.std.proofs.lemmas.Iterator.Consumers.{map_from_collect}
use Rattle.std.proofs.lemmas.Iterator.Splits.{YieldsList-from_str_split}
use Rattle.simulator_interface.specs.AskedOptions.{is_comma, policies_named}
use Rattle.simulator_interface.proofs.AskedOptions.{after_none}
use Rattle.simulator_interface.proofs.chosen.policies_of.Goals as goal

pub returns-in-Ok : goal.returns-in-Ok
returns-in-Ok g c =
    let parts : map (λ part. part.now) c.in_ok-parts.parts.items ≡ slice_split is_comma c.args.names.now =
    rw c.in_ok-parts.was at (map_from_collect c.collect.result c.collect.ensures.ran
    (YieldsList-from_str_split {s = c.split.result} 44 c.args.names.now (omega arith) c.split.ensures.text c.split.ensures.has_more c.split.ensures.pattern)) in
    record {
      policies = sym (ap policies_named (ap (map (λ part. part.now)) c.deref.ensures.value ∙ parts))
          ∙ sym (after_none c.new-policies.result.items _ c.new-policies.ensures.items)
          ∙ c.in-Ok.ensures.policies;
    }

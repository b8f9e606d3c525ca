use Rattle.std.proofs.Common.{◌∙◌, ◌∷◌, [], ap, map}
use Rattle.std.specs.NonZero.{non_zero_usize_get}
use Rattle.std.proofs.lemmas.List.{map-append}
use Rattle.simulator_interface.proofs.options.Asked.take_bytes.Goals as goal

pub returns-in-Ok-clause-bytes : goal.returns-in-Ok-clause-bytes
returns-in-Ok-clause-bytes g c = (
  non_zero_usize_get c.in-Some.capacity,
  c.in-Some.ensures.capacity,
  ap (map non_zero_usize_get) c.in-Ok.ensures.items ∙ map-append non_zero_usize_get c.args.self.now.byte_capacities.items (c.in-Some.capacity ∷ []),
)

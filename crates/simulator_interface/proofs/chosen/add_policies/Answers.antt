use Rattle.std.proofs.Common.{◌≡◌, ◌∙◌, ◌<◌, ◌≤◌, ◌++◌, ℕ, List, [], Some, map, get_or, length, ap, sym, append-nil, arith}
use Rattle.std.specs.Option.{option_map}
use Rattle.std.proofs.lemmas.List.{drop_all, get_or-map, length-map}
use Rattle.simulator_interface.specs.AskedOptions.{policies_named}
use Rattle.simulator_interface.specs.PolicyNames.{policy_named}
use Rattle.simulator_interface.proofs.AskedOptions.{policies_more}
use Rattle.simulator_interface.proofs.chosen.add_policies.Goals as goal

pub loop-name-preserved : goal.loop-name-preserved
loop-name-preserved g c =
    let words : List (List ℕ) = map (λ part. part.now) c.args.names.now in
    let i : ℕ = c.loop-name.name-index in
    let within : i < length words = omega (arith, c.loop-name-test.true, length-map c.args.names.now (λ part. part.now)) in
    let named : policy_named (get_or words i []) ≡ Some c.in-Some.policy =
    ap policy_named (get_or-map (λ part. part.now) c.args.names.now i _ [] c.loop-name-test.true) ∙ sym c.in-Some.ensures.named in
    policies_more c.loop-name.policies.items c.push.new.self.items c.in-Some.policy words i within named c.in-Ok.ensures.items
    ∙ c.loop-name.invariant

pub returns : goal.returns
returns g c =
    let words : List (List ℕ) = map (λ part. part.now) c.args.names.now in
    let i : ℕ = c.loop-name.name-index in
    let some = c.loop-name.policies.items in
    let past : length words ≤ i = omega (arith, c.loop-name-test.false, length-map c.args.names.now (λ part. part.now)) in
    record { policies = sym c.loop-name.invariant ∙ ap (λ ws. option_map (λ more. some ++ more) (policies_named ws)) (drop_all i words past) ∙ ap Some (append-nil some) }

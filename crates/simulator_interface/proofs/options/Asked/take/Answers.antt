use Rattle.std.proofs.Common.{◌≡◌, ◌∙◌, ◌++◌, true, false, map, sym, subst, ap, rules}
use Rattle.std.specs.List.{All}
use Rattle.std.proofs.lemmas.List.Elements.{All-append}
use Rattle.std.specs.NonZero.{non_zero_usize_get}
use Rattle.std.specs.Option.{is_some}
use Rattle.simulator_interface.specs.Amounts.{IsCapacity, asked_from, is_capacity, is_in_bytes, is_option}
use Rattle.simulator_interface.specs.ByteAmounts.{bytes_from}
use Rattle.std.proofs.lemmas.Result.{on_ok_weaker}
use Rattle.simulator_interface.proofs.Amounts.{joined_more, one_more_after}
use Rattle.simulator_interface.proofs.options.Asked.take.Goals as goal

pub returns-clause-within : goal.returns-clause-within
returns-clause-within g c =
    subst (All IsCapacity) (sym (c.in_ok-extend_from_slice.ensures.items ∙ ap (λ xs. c.args.self.now.capacities.items ++ xs) c.deref.ensures.value))
    (All-append IsCapacity c.args.self.now.capacities.items c.in_ok-more.more.items c.requires.within c.in_ok-more.ensures.within)

pub returns-clause-asked : goal.returns-clause-asked
returns-clause-asked g c rest =
    let some = c.args.self.now.capacities.items in
    let items : c.extend_from_slice.new.self.items ≡ some ++ c.in_ok-more.more.items = c.in_ok-extend_from_slice.ensures.items ∙ ap (λ xs. some ++ xs) c.deref.ensures.value in
    let none : is_some c.args.self.now.awaited ≡ false = search rules in
    let plain : is_option c.args.argument.now ≡ false = search rules in
    let bytes : is_in_bytes c.args.argument.now ≡ false = search rules in
    let capacity : is_capacity c.args.argument.now ≡ true = search rules in
    rw (none, plain, bytes, capacity, c.in_ok-more.ensures.asked, items) (joined_more some c.in_ok-more.more.items (asked_from false rest))

pub returns-then-is_in_bytes-clause-bytes : goal.returns-then-is_in_bytes-clause-bytes
returns-then-is_in_bytes-clause-bytes g c =
    let word = c.args.argument.now in
    let none : is_some c.args.self.now.awaited ≡ false = search rules in
    let plain : is_option word ≡ false = search rules in
    let bytes : is_in_bytes word ≡ true = search rules in
    on_ok_weaker c.take_bytes.result
    (λ taken rest. rw (c.take_bytes.ensures.awaited, none, plain, bytes)
    (one_more_after word (map non_zero_usize_get c.args.self.now.byte_capacities.items)
    (map non_zero_usize_get c.take_bytes.new.self.byte_capacities.items) taken.0
    (bytes_from false rest) taken.1 taken.2))
    c.take_bytes.ensures.bytes

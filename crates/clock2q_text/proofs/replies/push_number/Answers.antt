use Rattle.std.proofs.Common.{◌≡◌, ◌+◌, ◌-◌, ◌%◌, ◌<◌, ◌≤◌, ◌∷◌, ◌++◌, [], length, drop, set, length-set, refl, ◌∙◌, arith, rules}
use Rattle.std.specs.Prelude.{decimal}
use Rattle.std.proofs.lemmas.Fmt.{length-decimal-le}
use Rattle.std.proofs.lemmas.List.{take_all, length-drop}
use Rattle.clock2q_text.proofs.Decimals.{digit-less, two-digits, digits-moved, digits-ended, added}
use Rattle.clock2q_text.proofs.replies.push_number.Goals as goal

pub loop-rest-init : goal.loop-rest-init
loop-rest-init g c = record {
  written = refl;
  room = search (rules, length-decimal-le 20);
  fits = omega arith;
  size = refl;
}

pub overflow_sub-start : goal.overflow_sub-start
overflow_sub-start g c = omega (arith, two-digits c.loop-rest.rest c.loop-rest-test.true (search rules), c.loop-rest.invariant.room)

pub loop-rest-preserved : goal.loop-rest-preserved
loop-rest-preserved g c =
    let two = two-digits c.loop-rest.rest c.loop-rest-test.true (search rules) in
    let begun : 1 ≤ c.loop-rest.start = omega (arith, two, c.loop-rest.invariant.room) in
    record {
      written = digits-moved (decimal c.args.number ++ c.args.end ∷ []) c.loop-rest.bytes c.loop-rest.rest c.loop-rest.start (c.loop-rest.start - 1 + 1) c.loop-rest-test.true (search rules)
          (omega (arith, c.loop-rest.invariant.fits, c.loop-rest.invariant.size)) (omega (arith, begun)) c.loop-rest.invariant.written;
      room = omega (arith, begun, c.loop-rest.invariant.room, digit-less c.loop-rest.rest c.loop-rest-test.true (search rules));
      fits = omega (arith, c.loop-rest.invariant.fits);
      size = length-set c.loop-rest.bytes c.loop-rest.start (48 + c.loop-rest.rest % 10) ∙ c.loop-rest.invariant.size;
    }

pub returns : goal.returns
returns g c =
    let room : c.loop-rest.start < length c.loop-rest.bytes = omega (arith, c.loop-rest.invariant.fits, c.loop-rest.invariant.size) in
    let size : length (set c.loop-rest.bytes c.loop-rest.start (48 + c.loop-rest.rest)) ≡ 21 = length-set c.loop-rest.bytes c.loop-rest.start (48 + c.loop-rest.rest) ∙ c.loop-rest.invariant.size in
    added c.extend_from_slice.result c.args.text.now.items c.extend_from_slice.new.self.items _ (decimal c.args.number) (c.args.end ∷ []) c.extend_from_slice.ensures.items
    (take_all (21 - c.loop-rest.start) (drop c.loop-rest.start (set c.loop-rest.bytes c.loop-rest.start (48 + c.loop-rest.rest)))
    (omega (arith, size, length-drop c.loop-rest.start (set c.loop-rest.bytes c.loop-rest.start (48 + c.loop-rest.rest))))
    ∙ digits-ended (decimal c.args.number ++ c.args.end ∷ []) c.loop-rest.bytes c.loop-rest.rest c.loop-rest.start c.loop-rest-test.false room c.loop-rest.invariant.written)

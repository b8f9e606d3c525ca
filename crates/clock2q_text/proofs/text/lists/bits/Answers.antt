use Rattle.std.proofs.Common.{◌≡◌, suc, ◌∷◌, length, drop, drop-cons, get_or, [], sym, ◌∙◌, subst}
use Rattle.std.proofs.lemmas.Bool.{eqb-true, eqb-false}
use Rattle.std.proofs.lemmas.List.{drop_all}
use Rattle.clock2q_text.specs.Text.{bit_of}
use Rattle.clock2q_text.proofs.Listing.{IsReadUpTo, IsReadUpTo-bad, bits-none, bits-empty, bits-refused, bits-all}
use Rattle.clock2q_text.proofs.text.lists.bits.Goals as goal

pub returns-in_err-bit : goal.returns-in_err-bit
returns-in_err-bit g c =
    let so : IsReadUpTo bit_of c.args.words.now (get_or c.args.words.now c.loop-byte.byte-index 0 ∷ drop (suc c.loop-byte.byte-index) c.args.words.now)
    c.loop-byte.refused c.loop-byte.bits.items = rw (drop-cons c.args.words.now c.loop-byte.byte-index 0 c.loop-byte-test.true) at c.loop-byte.invariant in
    rw c.from_residual.ensures (bits-none c.args.words.now (IsReadUpTo-bad bit_of c.args.words.now _ _ c.loop-byte.refused c.loop-byte.bits.items so (sym c.in_err-bit.ensures)))

pub returns-then-is_empty : goal.returns-then-is_empty
returns-then-is_empty g c = bits-empty c.args.words.now (eqb-true (length c.args.words.now) 0 (sym c.is_empty.ensures ∙ c.if-is_empty.true))

pub returns-then-refused-2 : goal.returns-then-refused-2
returns-then-refused-2 g c =
    let end : drop c.loop-byte.byte-index c.args.words.now ≡ [] = drop_all c.loop-byte.byte-index c.args.words.now c.loop-byte-test.false in
    bits-refused c.args.words.now c.loop-byte.refused c.loop-byte.bits.items
    (subst (λ rest. IsReadUpTo bit_of c.args.words.now rest c.loop-byte.refused c.loop-byte.bits.items) end c.loop-byte.invariant)
    (eqb-false (length c.args.words.now) 0 (sym c.is_empty.ensures ∙ c.if-is_empty.false))

pub returns : goal.returns
returns g c =
    let end : drop c.loop-byte.byte-index c.args.words.now ≡ [] = drop_all c.loop-byte.byte-index c.args.words.now c.loop-byte-test.false in
    bits-all c.args.words.now c.loop-byte.refused c.loop-byte.bits.items (subst (λ rest. IsReadUpTo bit_of c.args.words.now rest c.loop-byte.refused c.loop-byte.bits.items) end c.loop-byte.invariant)
    (eqb-false (length c.args.words.now) 0 (sym c.is_empty.ensures ∙ c.if-is_empty.false)) c.if-refused-2.false

use Rattle.clock2q_directory.proofs.Names.{ap, sym, subst, arith, IsWholeOrder, KeyPlaces, index_for, IsHistory}
use Rattle.clock2q_directory.proofs.Histories.{IsHistory-new}
use Rattle.clock2q_directory.proofs.directory.Directory.new.Goals as goal

pub invariant_of-result : goal.invariant_of-result
invariant_of-result g c =
    let keys = c.in_ok-new-3.field-0 in
    let whole = subst (λ z. IsWholeOrder z) c.in_ok-new-2.ensures.made c.in_ok-new-2.ensures.whole in
    let room = ap (λ (z : KeyPlaces _ _). z.room) c.in_ok-new-3.ensures.made in
    let new = IsHistory-new g.K.PartialEq.eq c.args.slots c.args.limit keys c.requires.some c.requires.few c.requires.short whole
    (ap (λ (z : KeyPlaces _ _). z.entries) c.in_ok-new-3.ensures.made) (omega (arith, room)) in
    subst (λ z. IsHistory g.K.PartialEq.eq z c.in_ok-new-2.field-0 keys) (sym c.in_ok-new.ensures.made)
    (subst (λ z. IsHistory g.K.PartialEq.eq (index_for c.args.slots c.args.limit) z keys) (sym c.in_ok-new-2.ensures.made) new)

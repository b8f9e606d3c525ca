use Rattle.std.proofs.Common.{◌⊎◌, rules, arith, Err, ◌≢◌, ◌≡◌, ℕ, Some, slice_get, ◌<◌, get_or, length, List, [], ◌∷◌, ◌++◌, sym, ap, refl, ◌∙◌, subst, eqb}
use Rattle.std.proofs.lemmas.Option.{slice_get_within, get_or_from_slice_get, slice_get-get_or}
use Rattle.std.proofs.lemmas.Grind.{common_steps}
use Rattle.clock2q_handles.specs.Offers.{Settles}
use Rattle.clock2q_handles.proofs.Held.{slice_get-left, slice_get-last}
use Rattle.clock2q_uses.specs.Interning.{spread, key_at, IsInterned}
use Rattle.clock2q_uses.proofs.Numbering.{IsNumbered, last_or_old, numbered, next_number, old_number, no_number, candidate_within, hash_at}
use Rattle.clock2q_handles.proofs.HashOfHandle.{keyed_given_by}
use Rattle.clock2q_handles.proofs.Offering.{IsFound, offered_held_by, offers_find}
use Rattle.clock2q_handles.specs.Homes.{candidates}
use Rattle.clock2q_handles.specs.TableStep.{grown}
use Rattle.clock2q_handles.specs.declared.error.TableError.TheVariants.{Memory}
use Rattle.clock2q_uses.proofs.interning.Interner.intern.Goals.{After-branch-number}
use Rattle.clock2q_uses.proofs.interning.Interner.intern.Goals as goal

pub invariant_of-self : goal.invariant_of-self
invariant_of-self c = subst (λ ks. IsInterned ks c.self.inside.numbers.homes) (sym c.reserve.ensures.items) c.self.invariant

pub find_or_insert-requires-clause-rehash : goal.find_or_insert-requires-clause-rehash
find_or_insert-requires-clause-rehash c = λ _. (
  hash_at c.self.inside.keys.items,
  keyed_given_by (hash_at c.self.inside.keys.items) _ c.self.inside.numbers.homes (λ f. f.0.now.items ≡ c.self.inside.keys.items)
      (λ f h same held.
      let l : h < length f.0.now.items = subst (λ ks. h < length ks) (sym same) ((c.self.invariant.1 h).0 held) in
      search rules)
      (λ f h r next same held called.
      let l : h < length f.0.now.items = subst (λ ks. h < length ks) (sym same) ((c.self.invariant.1 h).0 held) in
      let still : next.0.now.items ≡ f.0.now.items = search rules in
      let shown : r ≡ spread (get_or f.0.now.items h 0) = grind (arith, common_steps) in
      (shown ∙ ap (λ ks. hash_at ks h) same, still ∙ same))
      _ c.reserve.ensures.items c.self.invariant.0,
)

pub find_or_insert-requires-clause-callable : goal.find_or_insert-requires-clause-callable
find_or_insert-requires-clause-callable c = λ key gives. offered_held_by _ _ _ c.self.inside.numbers.homes c.hash_of.result (λ f. (f.0.now.items ≡ c.self.inside.keys.items) × (f.1.now ≡ c.args.key))
    (λ f h same held.
    let l : h < length f.0.now.items = subst (λ ks. h < length ks) (sym same.0) ((c.self.invariant.1 h).0 held) in
    search rules)
    (λ f h next same held called.
    let keys : next.0.now.items ≡ f.0.now.items = search rules in
    let key : next.1.now ≡ f.1.now = search rules in
    (keys ∙ same.0, key ∙ same.1))
    _ (c.reserve.ensures.items, refl) key gives

-- what the lookup returned
settled : (c : After-branch-number) → c.find_or_insert.result ≢ Err Memory →
    IsNumbered c.self.inside.keys.items c.self.inside.numbers.homes c.args.key c.self.invariant c.find_or_insert.result
    c.find_or_insert.new.self.homes
settled c ran =
    let keys : List ℕ = c.self.inside.keys.items in
    let homes = c.self.inside.numbers.homes in
    let settles = c.find_or_insert.ensures.settles ran in
    let done = settles.1 (hash_at keys) (λ _. keyed_given_by (hash_at keys) _ homes (λ f. f.0.now.items ≡ keys)
    (λ f h same held.
    let l : h < length f.0.now.items = subst (λ ks. h < length ks) (sym same) ((c.self.invariant.1 h).0 held) in
    search rules)
    (λ f h r next same held called.
    let l : h < length f.0.now.items = subst (λ ks. h < length ks) (sym same) ((c.self.invariant.1 h).0 held) in
    let still : next.0.now.items ≡ f.0.now.items = search rules in
    let shown : r ≡ spread (get_or f.0.now.items h 0) = grind (arith, common_steps) in
    (shown ∙ ap (λ ks. hash_at ks h) same, still ∙ same))
    _ c.reserve.ensures.items c.self.invariant.0) in
    let offers = offers_find _ (λ f. (f.0.now.items ≡ keys) × (f.1.now ≡ c.args.key)) (λ at. at < length keys) (λ at. eqb (key_at keys at) c.args.key)
    (λ f h b next same within called.
    let l : h < length f.0.now.items = subst (λ ks. h < length ks) (sym same.0) within in
    let still : next.0.now.items ≡ f.0.now.items = search rules in
    let key : next.1.now ≡ f.1.now = search rules in
    let shown : b ≡ eqb (get_or f.0.now.items h 0) f.1.now = grind (arith, common_steps) in
    (shown ∙ ap (λ ks. eqb (get_or ks h 0) f.1.now) same.0 ∙ ap (eqb (key_at keys h)) same.1, (still ∙ same.0, key ∙ same.1)))
    (candidates (grown (hash_at keys) homes) c.hash_of.result) _ done.0 settles.0 (c.reserve.ensures.items, refl)
    (subst (λ x. (i at : ℕ) → slice_get (candidates (grown (hash_at keys) homes) x) i ≡ Some at → at < length keys)
    (sym c.hash_of.ensures.hash) (candidate_within keys homes c.args.key c.self.invariant)) done.1 in
    let long : c.len-next.result ≡ length keys = omega (arith, c.len-next.ensures, ap length c.reserve.ensures.items) in
    numbered keys homes c.args.key c.self.invariant done.0 c.find_or_insert.result c.find_or_insert.new.self.homes
    (subst (λ x. Settles (grown (hash_at keys) homes) x (length keys) done.0 c.find_or_insert.result c.find_or_insert.new.self.homes) c.hash_of.ensures.hash
    (subst (λ n. Settles (grown (hash_at keys) homes) c.hash_of.result n done.0 c.find_or_insert.result c.find_or_insert.new.self.homes) long done.2))
    (subst (λ x. IsFound (λ at. eqb (key_at keys at) c.args.key) (candidates (grown (hash_at keys) homes) x) done.0) c.hash_of.ensures.hash offers)

pub invariant_of-self-in_err-number : goal.invariant_of-self-in_err-number
invariant_of-self-in_err-number c =
    subst (λ ks. IsInterned ks c.find_or_insert.new.self.homes) (sym c.reserve.ensures.items)
    (no_number c.self.inside.keys.items c.self.inside.numbers.homes c.args.key c.self.invariant c.find_or_insert.result
    c.find_or_insert.new.self.homes (settled (goal.at.invariant_of-self-in_err-number c).After-branch-number)
    (λ e. ap (λ t. t.homes) (c.find_or_insert.ensures.memory e).1) c.in_err-number.field-0.0 c.in_err-number.was)

pub invariant_of-self-then-is_new : goal.invariant_of-self-then-is_new
invariant_of-self-then-is_new c =
    let next = next_number c.self.inside.keys.items c.self.inside.numbers.homes c.args.key c.self.invariant
    c.find_or_insert.result c.find_or_insert.new.self.homes
    (settled (goal.at.invariant_of-self-then-is_new c).After-branch-number)
    c.in_ok-number.number c.in_ok-number.is_new c.in_ok-number.was c.if-is_new.true in
    subst (λ ks. IsInterned ks c.find_or_insert.new.self.homes) (sym (c.push_reserved.ensures.items ∙ ap (λ ks. ks ++ c.args.key ∷ []) c.reserve.ensures.items)) next.0

pub invariant_of-self-else-is_new : goal.invariant_of-self-else-is_new
invariant_of-self-else-is_new c =
    let old = old_number c.self.inside.keys.items c.self.inside.numbers.homes c.args.key c.self.invariant c.find_or_insert.result
    c.find_or_insert.new.self.homes (settled (goal.at.invariant_of-self-else-is_new c).After-branch-number)
    c.in_ok-number.number c.in_ok-number.is_new c.in_ok-number.was c.if-is_new.false in
    subst (λ ks. IsInterned ks c.find_or_insert.new.self.homes) (sym c.reserve.ensures.items) old.0

pub returns-then-is_new-clause-number : goal.returns-then-is_new-clause-number
returns-then-is_new-clause-number c =
    let keys : List ℕ = c.self.inside.keys.items in
    let next = next_number keys c.self.inside.numbers.homes c.args.key c.self.invariant c.find_or_insert.result
    c.find_or_insert.new.self.homes (settled (goal.at.returns-then-is_new-clause-number c).After-branch-number)
    c.in_ok-number.number c.in_ok-number.is_new c.in_ok-number.was c.if-is_new.true in
    ap (λ ks. slice_get ks c.in_ok-number.number)
    (c.push_reserved.ensures.items ∙ ap (λ ks. ks ++ c.args.key ∷ []) c.reserve.ensures.items)
    ∙ ap (slice_get (keys ++ c.args.key ∷ [])) next.1 ∙ slice_get-last keys c.args.key

pub returns-then-is_new-clause-same : goal.returns-then-is_new-clause-same
returns-then-is_new-clause-same c other at =
    let keys : List ℕ = c.self.inside.keys.items in
    let next = next_number keys c.self.inside.numbers.homes c.args.key c.self.invariant c.find_or_insert.result
    c.find_or_insert.new.self.homes (settled (goal.at.returns-then-is_new-clause-same c).After-branch-number)
    c.in_ok-number.number c.in_ok-number.is_new c.in_ok-number.was c.if-is_new.true in
    let there : slice_get keys other ≡ Some c.args.key = ap (λ ks. slice_get ks other) c.self.view_is ∙ at in
    absurd (next.2 other (slice_get_within keys other c.args.key there) (get_or_from_slice_get keys other c.args.key 0 there))

pub returns-then-is_new-clause-kept : goal.returns-then-is_new-clause-kept
returns-then-is_new-clause-kept c number held at =
    let keys : List ℕ = c.self.inside.keys.items in
    ap (λ ks. slice_get ks number) (c.push_reserved.ensures.items ∙ ap (λ ks. ks ++ c.args.key ∷ []) c.reserve.ensures.items)
    ∙ slice_get-left keys (c.args.key ∷ []) number held (ap (λ ks. slice_get ks number) c.self.view_is ∙ at)

pub returns-else-is_new-clause-number : goal.returns-else-is_new-clause-number
returns-else-is_new-clause-number c =
    let keys : List ℕ = c.self.inside.keys.items in
    let old = old_number keys c.self.inside.numbers.homes c.args.key c.self.invariant c.find_or_insert.result
    c.find_or_insert.new.self.homes (settled (goal.at.returns-else-is_new-clause-number c).After-branch-number)
    c.in_ok-number.number c.in_ok-number.is_new c.in_ok-number.was c.if-is_new.false in
    ap (λ ks. slice_get ks c.in_ok-number.number) c.reserve.ensures.items ∙ slice_get-get_or keys c.in_ok-number.number 0 old.1 ∙ ap Some old.2

pub returns-else-is_new-clause-same : goal.returns-else-is_new-clause-same
returns-else-is_new-clause-same c other at =
    let keys : List ℕ = c.self.inside.keys.items in
    let old = old_number keys c.self.inside.numbers.homes c.args.key c.self.invariant c.find_or_insert.result
    c.find_or_insert.new.self.homes (settled (goal.at.returns-else-is_new-clause-same c).After-branch-number)
    c.in_ok-number.number c.in_ok-number.is_new c.in_ok-number.was c.if-is_new.false in
    let there : slice_get keys other ≡ Some c.args.key = ap (λ ks. slice_get ks other) c.self.view_is ∙ at in
    c.self.invariant.2 c.in_ok-number.number other old.1 (slice_get_within keys other c.args.key there) (old.2 ∙ sym (get_or_from_slice_get keys other c.args.key 0 there))

pub returns-then-is_new-clause-only : goal.returns-then-is_new-clause-only
returns-then-is_new-clause-only c number held at =
    let keys : List ℕ = c.self.inside.keys.items in
    subst (λ ks. (slice_get ks number ≡ Some held) ⊎ (held ≡ c.args.key)) c.self.view_is
    (last_or_old keys c.args.key number held (sym (ap (λ ks. slice_get ks number) (c.push_reserved.ensures.items ∙ ap (λ ks. ks ++ c.args.key ∷ []) c.reserve.ensures.items)) ∙ at))

use Rattle.std.proofs.Common.{◌≡◌, ℕ, None, Some, slice_get, ◌<◌, length, List, sym, ap, refl, ◌∙◌, subst, eqb, arith, rules, IfNone, ◌≢◌}
use Rattle.std.proofs.lemmas.Grind.{common_steps}
use Rattle.clock2q_handles.specs.Homes.{candidates}
use Rattle.clock2q_handles.specs.Offers.{handle_in}
use Rattle.clock2q_handles.proofs.Offering.{IsFound, offered_by, offers_find}
use Rattle.clock2q_uses.specs.Interning.{spread, key_at}
use Rattle.clock2q_uses.proofs.Numbering.{sought_within, number_found, no_number_found}
use Rattle.clock2q_uses.proofs.interning.Interner.number_of.Goals.{After-branch-number}
use Rattle.clock2q_uses.proofs.interning.Interner.number_of.Goals as goal

pub search-found-requires : goal.search-found-requires
search-found-requires c =
    let keys : List ℕ = c.self.inside.keys.items in
    record {
      callable = offered_by _ (λ f. f.0.now.items ≡ keys) (λ at. at < length keys)
          (λ f at same within.
          let l : at < length f.0.now.items = subst (λ ks. at < length ks) (sym same) within in
          search rules)
          (λ f at next same within called.
          let still : next.0.now.items ≡ f.0.now.items = search rules in
          still ∙ same)
          _ _ refl
          (subst (λ x. (i at : ℕ) → slice_get (candidates c.self.inside.numbers.homes x) i ≡ Some at → at < length keys) (sym c.hash_of.ensures.hash)
          (sought_within keys c.self.inside.numbers.homes c.args.key c.self.invariant));
    }

-- the search accepts a candidate if it is the key's place
searched : (c : After-branch-number) → IsFound (λ at. eqb (key_at c.self.inside.keys.items at) c.args.key) (candidates c.self.inside.numbers.homes (spread c.args.key)) (handle_in c.search-found.result)
searched c =
    let keys : List ℕ = c.self.inside.keys.items in
    let homes = c.self.inside.numbers.homes in
    subst (λ x. IsFound (λ at. eqb (key_at keys at) c.args.key) (candidates homes x) (handle_in c.search-found.result)) c.hash_of.ensures.hash
    (offers_find _ (λ f. (f.0.now.items ≡ keys) × (f.1.now ≡ c.args.key)) (λ at. at < length keys) (λ at. eqb (key_at keys at) c.args.key)
    (λ f at b next same within called.
    let l : at < length f.0.now.items = subst (λ ks. at < length ks) (sym same.0) within in
    let still : next.0.now.items ≡ f.0.now.items = search rules in
    let key : next.1.now ≡ f.1.now = search rules in
    let shown : b ≡ eqb (key_at f.0.now.items at) f.1.now = grind (arith, common_steps) in
    (shown ∙ ap (λ ks. eqb (key_at ks at) f.1.now) same.0 ∙ ap (eqb (key_at keys at)) same.1, (still ∙ same.0, key ∙ same.1)))
    (candidates homes c.hash_of.result) _ (handle_in c.search-found.result) c.search-found.ensures.offers.0 (refl, refl)
    (subst (λ x. (i at : ℕ) → slice_get (candidates homes x) i ≡ Some at → at < length keys) (sym c.hash_of.ensures.hash) (sought_within keys homes c.args.key c.self.invariant))
    c.search-found.ensures.offers.1)

pub returns-in_err-number-clause-none : goal.returns-in_err-number-clause-none
returns-in_err-number-clause-none c =
    let none : handle_in c.search-found.result ≡ None = grind (arith, c.ok.ensures.value, c.in_err-number.was) in
    let found = subst (λ f. IsFound (λ at. eqb (key_at c.self.inside.keys.items at) c.args.key) (candidates c.self.inside.numbers.homes (spread c.args.key)) f) none
    (searched (goal.at.returns-in_err-number-clause-none c).After-branch-number) in
    subst (λ r. IfNone r ((number : ℕ) → slice_get c.args.self.now number ≢ Some c.args.key)) (sym c.from_residual.ensures)
    (λ number there. no_number_found c.self.inside.keys.items c.self.inside.numbers.homes c.args.key c.self.invariant found number (ap (λ ks. slice_get ks number) c.self.view_is ∙ there))

pub returns-clause-found : goal.returns-clause-found
returns-clause-found c =
    let number = c.in_ok-number.number in
    let some : handle_in c.search-found.result ≡ Some number = grind (arith, c.ok.ensures.value, c.in_ok-number.was) in
    ap (λ ks. slice_get ks number) (sym c.self.view_is)
    ∙ number_found c.self.inside.keys.items c.self.inside.numbers.homes c.args.key c.self.invariant number
    (subst (λ f. IsFound (λ at. eqb (key_at c.self.inside.keys.items at) c.args.key) (candidates c.self.inside.numbers.homes (spread c.args.key)) f) some
    (searched (goal.at.returns-clause-found c).After-branch-number))

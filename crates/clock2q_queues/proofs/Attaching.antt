-- A slot put before another, or taken out, by one write to a record after another.
use Rattle.clock2q_queues.proofs.Names.{◌≡◌, ℕ, ◌+◌, ◌<◌, false, cond, eqb, List, length, set, inl, inr, refl, sym, ap, ◌∙◌, cases_Bool, eqb-true, length-set, Location, cells_state, Record, Attaches}
use Rattle.clock2q_queues.proofs.Names.{Detaches, next_at, previous_at, record_at, vacant, changed, eqb_self}

-- a record with a changed field
abbrev pub with_change : List Record → ℕ → (Record → Record) → List Record
with_change rs at g = set rs at (g (record_at rs at))

-- a field that the change leaves alone is the same at each slot
kept : {X : Type 0} (f : Record → X) (g : Record → Record) → ((r : Record) → f (g r) ≡ f r) → (rs : List Record) (at t : ℕ) → at < length rs
    → f (record_at (with_change rs at g) t) ≡ f (record_at rs t)
kept f g same rs at t within = changed f rs at (g (record_at rs at)) vacant t within ∙ elim (cases_Bool (eqb t at)) [
  | inl e ↦ rw e (same (record_at rs at) ∙ ap (λ z. f (record_at rs z)) (sym (eqb-true t at e)))
  | inr e ↦ rw e refl
]

abbrev pub next_is : ℕ → Record → Record
next_is next r = record r { next = next }

abbrev pub previous_is : ℕ → Record → Record
previous_is previous r = record r { previous = previous }

module _ (rs : List Record) (a b : ℕ) where
  -- the slot is written with its neighbours, then its previous slot's next one, then its next slot's previous one
  pub attaches : (slot before : ℕ) (location : Location) → slot < length rs → before < length rs → previous_at rs before < length rs → b ≡ a + 6
      → Attaches slot before location (cells_state rs a)
      (cells_state (with_change (with_change (set rs slot (record { previous = previous_at rs before; next = before; held = location })) (previous_at rs before) (next_is slot)) before (previous_is slot)) b)
  attaches slot before location slot_in before_in previous_in counted =
      let p = previous_at rs before in
      let r : Record = record { previous = p; next = before; held = location } in
      let xs = set rs slot r in
      let ys = with_change xs p (next_is slot) in
      let many_xs : length xs ≡ length rs = length-set rs slot r in
      let many_ys : length ys ≡ length rs = length-set xs p (next_is slot (record_at xs p)) ∙ many_xs in
      let in_xs : p < length xs = rw many_xs previous_in in
      let in_ys : before < length ys = rw many_ys before_in in
      record {
        nexts = λ t. kept (λ x. x.next) (previous_is slot) (λ x. refl) ys before t in_ys
            ∙ changed (λ x. x.next) xs p (next_is slot (record_at xs p)) vacant t in_xs
            ∙ ap (λ z. cond (eqb t p) slot z) (changed (λ x. x.next) rs slot r vacant t slot_in);
        previouses = λ t. changed (λ x. x.previous) ys before (previous_is slot (record_at ys before)) vacant t in_ys
            ∙ ap (λ z. cond (eqb t before) slot z)
            (kept (λ x. x.previous) (next_is slot) (λ x. refl) xs p t in_xs ∙ changed (λ x. x.previous) rs slot r vacant t slot_in);
        locations = λ t. kept (λ x. x.held) (previous_is slot) (λ x. refl) ys before t in_ys
            ∙ kept (λ x. x.held) (next_is slot) (λ x. refl) xs p t in_xs ∙ changed (λ x. x.held) rs slot r vacant t slot_in;
        as_many = length-set ys before (previous_is slot (record_at ys before)) ∙ many_ys;
        accesses = counted;
      }

  -- the slot's neighbours are linked to each other, then its own record is vacated
  pub detaches : (slot : ℕ) → slot < length rs → next_at rs slot < length rs → previous_at rs slot < length rs → b ≡ a + 6
      → Detaches slot (cells_state rs a)
      (cells_state (set (with_change (with_change rs (previous_at rs slot) (next_is (next_at rs slot))) (next_at rs slot) (previous_is (previous_at rs slot))) slot vacant) b)
  detaches slot slot_in next_in previous_in counted =
      let n = next_at rs slot in
      let p = previous_at rs slot in
      let xs = with_change rs p (next_is n) in
      let ys = with_change xs n (previous_is p) in
      let many_xs : length xs ≡ length rs = length-set rs p (next_is n (record_at rs p)) in
      let many_ys : length ys ≡ length rs = length-set xs n (previous_is p (record_at xs n)) ∙ many_xs in
      let in_xs : n < length xs = rw many_xs next_in in
      let in_ys : slot < length ys = rw many_ys slot_in in
      let elsewhere = (λ (t : ℕ) (other : eqb t slot ≡ false). changed (λ x. x) ys slot vacant vacant t in_ys ∙ rw other refl) in
      record {
        nexts = λ t other. ap (λ (x : Record). x.next) (elsewhere t other)
            ∙ kept (λ x. x.next) (previous_is p) (λ x. refl) xs n t in_xs ∙ changed (λ x. x.next) rs p (next_is n (record_at rs p)) vacant t previous_in;
        previouses = λ t other. ap (λ (x : Record). x.previous) (elsewhere t other)
            ∙ changed (λ x. x.previous) xs n (previous_is p (record_at xs n)) vacant t in_xs
            ∙ ap (λ z. cond (eqb t n) p z) (kept (λ x. x.previous) (next_is n) (λ x. refl) rs p t previous_in);
        locations = λ t other. ap (λ (x : Record). x.held) (elsewhere t other)
            ∙ kept (λ x. x.held) (previous_is p) (λ x. refl) xs n t in_xs ∙ kept (λ x. x.held) (next_is n) (λ x. refl) rs p t previous_in;
        freed = changed (λ x. x) ys slot vacant vacant slot in_ys ∙ rw (eqb_self slot) refl;
        as_many = length-set ys slot vacant ∙ many_ys;
        accesses = counted;
      }

-- A cache of records remains one: what was read is the record of its number, and no other number's value changes.
use Rattle.std.proofs.Common.{◌≡◌, ℕ, eqb, inl, inr, List, Option, Some, None, Result, Ok, Err, IfOk, IfErr, OnErr, refl, sym, ap, subst, ◌∙◌, ne_eqb}
use Rattle.std.specs.Cmp.{nat_eq_equiv}
use Rattle.std.specs.Option.{UnwrapsOrElse}
use Rattle.std.specs.Prelude.{slice_get}
use Rattle.std.proofs.lemmas.Bool.{cases_eq}
use Rattle.clock2q_machine.specs.Calls.{With}
use Rattle.clock2q_machine.specs.Machine.{Machine, value_of}
use Rattle.clock2q_machine.specs.Steps.{fetched, fetched_value}
use Rattle.clock2q_machine.specs.Whole.{IsWhole}
use Rattle.clock2q_machine.proofs.Whole.{some_is}
use Rattle.clock2q_machine.proofs.Laws.{others_had, fetched_there}
use Rattle.clock2q_uses.specs.Records.{HoldsRecords}

module _ {T : Type 0} (file : List T) (m : Machine ℕ T) (number : ℕ) where
  -- a record is missing if reading it failed
  pub record_missing : {E : Type 0} (read : Result T E) {failed : E → Type 0} → IfErr read failed → ((e : E) → failed e → slice_get file number ≡ None) → OnErr read (slice_get file number ≡ None)
  record_missing (Ok kept) failure fails = tt
  record_missing (Err e) failure fails = fails e failure

  module _ (had : HoldsRecords file m) {made : T → Type 0} where
    by_had : (kept : T) (o : Option T) → value_of (eqb number) m ≡ o → UnwrapsOrElse o made kept → ((v : T) → made v → slice_get file number ≡ Some v)
        → (slice_get file number ≡ Some kept) × (fetched_value o kept ≡ kept)
    by_had kept None absent gave gives = (gives kept gave, refl)
    by_had kept (Some held) found same gives = (had number held found ∙ ap Some (sym same), sym same)

    -- the value that was read or found is the record
    pub record_read : {E : Type 0} (read : Result T E) → IfOk read (λ kept. UnwrapsOrElse (value_of (eqb number) m) made kept) → ((v : T) → made v → slice_get file number ≡ Some v)
        → IfOk read (λ kept. slice_get file number ≡ Some kept)
    record_read (Ok kept) gave gives = (by_had kept (value_of (eqb number) m) refl gave gives).0
    record_read (Err e) gave gives = tt

    module _ (whole : IsWhole eqb m) where
      records_fetched : (kept : T) → UnwrapsOrElse (value_of (eqb number) m) made kept → ((v : T) → made v → slice_get file number ≡ Some v) → HoldsRecords file (fetched (eqb number) number kept m)
      records_fetched kept gave gives other v found = elim (cases_eq other number) [
        | inl same ↦
            let now = fetched (eqb number) number kept m in
            let h = by_had kept (value_of (eqb number) m) refl gave gives in
            let there = fetched_there eqb nat_eq_equiv m whole number kept ∙ ap Some h.1 in
            let is = some_is v kept (sym found ∙ ap (λ k. value_of (eqb k) now) same ∙ there) in
            ap (slice_get file) same ∙ h.0 ∙ ap Some (sym is)
        | inr differ ↦ had other v (others_had eqb nat_eq_equiv m whole (With number kept) other (ne_eqb other number differ) v found)
      ]

      -- and the cache has only records
      pub records_read : {E : Type 0} (n : Machine ℕ T) (read : Result T E) → IfOk read (λ kept. n ≡ fetched (eqb number) number kept m)
          → IfOk read (λ kept. UnwrapsOrElse (value_of (eqb number) m) made kept) → OnErr read (n ≡ m)
          → ((v : T) → made v → slice_get file number ≡ Some v) → HoldsRecords file n
      records_read n (Ok kept) is gave same gives = subst (HoldsRecords file) (sym is) (records_fetched kept gave gives)
      records_read n (Err e) is gave same gives = subst (HoldsRecords file) (sym same) had

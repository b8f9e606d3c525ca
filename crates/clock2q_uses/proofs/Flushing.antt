-- A flush of a write-back cache: afterwards the device has the blocks that are read, and every block is clean.
use Rattle.std.proofs.Common.{◌≡◌, ℕ, ◌<◌, Bool, true, false, ◌||◌, eqb, List, [], ◌∷◌, map, length, inl, inr, Option, Some, None, refl, sym, ap, ◌∙◌, subst, arith, eqb-true}
use Rattle.std.specs.Prelude.{slice_get, slice_set, if◌then◌else◌}
use Rattle.std.specs.Cmp.{nat_eq_equiv}
use Rattle.std.specs.List.{AllByRecursion, list_any}
use Rattle.std.proofs.lemmas.Bool.{cases_Bool}
use Rattle.std.proofs.lemmas.Option.{slice_get_within}
use Rattle.std.proofs.Math.ListN.{length-set}
use Rattle.clock2q_machine.specs.Machine.{Machine, value_of}
use Rattle.clock2q_machine.specs.Whole.{IsWhole}
use Rattle.clock2q_machine.proofs.Whole.{some_is, none_is}
use Rattle.clock2q_cache.specs.Iteration.{entries}
use Rattle.clock2q_cache.proofs.Listed.{entries-values, entries-listed}
use Rattle.clock2q_uses.specs.WriteBack.{is_dirty, blocks, written_back, flushed, number_and_block, IsInStep}
use Rattle.clock2q_uses.proofs.WritingBack.{same_list, set_there, set_elsewhere, length-blocks, resident_seen, stored_seen}

-- once each resident block that is dirty is written, the device has the blocks that are read
module _ {T : Type 0} (m : Machine ℕ T) (dirty : List Bool) where
  -- these blocks are resident
  abbrev pub AreResident : List (ℕ × T) → Type 0
  AreResident resident = AllByRecursion (λ (r : ℕ × T). value_of (eqb r.0) m ≡ Some r.1) resident

  length-one : (r : ℕ × T) (device : List T) → length (written_back dirty r device) ≡ length device
  length-one r device = by_dirty (is_dirty dirty r.0)
    where
      by_dirty : (b : Bool) → length (if b then slice_set device r.0 r.1 else device) ≡ length device
      by_dirty true = length-set device r.0 r.1
      by_dirty false = refl

  module _ (k : ℕ) where
    one_elsewhere : (r : ℕ × T) (device : List T) → eqb k r.0 ≡ false → slice_get (written_back dirty r device) k ≡ slice_get device k
    one_elsewhere r device other = by_dirty (is_dirty dirty r.0)
      where
        by_dirty : (b : Bool) → slice_get (if b then slice_set device r.0 r.1 else device) k ≡ slice_get device k
        by_dirty true = set_elsewhere device r.0 k r.1 other
        by_dirty false = refl

    -- a block that isn't resident stays as it is
    unwritten : value_of (eqb k) m ≡ None → (resident : List (ℕ × T)) → AreResident resident → (device : List T) → slice_get (flushed dirty resident device) k ≡ slice_get device k
    unwritten absent [] all device = refl
    unwritten absent (r ∷ resident) all device = unwritten absent resident all.1 (written_back dirty r device) ∙ one_elsewhere r device (elim (cases_Bool (eqb k r.0)) [
      | inl same ↦ absurd (none_is r.1 (sym absent ∙ ap (λ z. value_of (eqb z) m) (eqb-true k r.0 same) ∙ all.0))
      | inr other ↦ other
    ])

    module _ (v : T) (had : value_of (eqb k) m ≡ Some v) where
      same_value : (r : ℕ × T) → value_of (eqb r.0) m ≡ Some r.1 → eqb k r.0 ≡ true → r.1 ≡ v
      same_value r is same = some_is r.1 v (sym is ∙ ap (λ z. value_of (eqb z) m) (sym (eqb-true k r.0 same)) ∙ had)

      -- the device keeps what it has of a resident block
      one_kept : (r : ℕ × T) → value_of (eqb r.0) m ≡ Some r.1 → (device : List T) → slice_get device k ≡ Some v → slice_get (written_back dirty r device) k ≡ Some v
      one_kept r is device there = elim (cases_Bool (eqb k r.0)) [
        | inl same ↦ by_dirty same (is_dirty dirty r.0)
        | inr other ↦ one_elsewhere r device other ∙ there
      ]
        where
          by_dirty : eqb k r.0 ≡ true → (b : Bool) → slice_get (if b then slice_set device r.0 r.1 else device) k ≡ Some v
          by_dirty same true =
              let e = eqb-true k r.0 same in
              ap (λ z. slice_get (slice_set device r.0 r.1) z) e ∙ set_there device r.0 r.1 (omega (arith, e, slice_get_within device k v there)) ∙ ap Some (same_value r is same)
          by_dirty same false = there

      kept : (resident : List (ℕ × T)) → AreResident resident → (device : List T) → slice_get device k ≡ Some v → slice_get (flushed dirty resident device) k ≡ Some v
      kept [] all device there = there
      kept (r ∷ resident) all device there = kept resident all.1 (written_back dirty r device) (one_kept r all.0 device there)

      -- a dirty block gets there
      got : is_dirty dirty k ≡ true → (resident : List (ℕ × T)) → AreResident resident → list_any (λ (r : ℕ × T). eqb k r.0) resident ≡ true → (device : List T) → k < length device
          → slice_get (flushed dirty resident device) k ≡ Some v
      got d [] all listed device within = cc
      got d (r ∷ resident) all listed device within = elim (cases_Bool (eqb k r.0)) [
        | inl same ↦
            let e = eqb-true k r.0 same in
            kept resident all.1 (written_back dirty r device)
            (ap (λ b. slice_get (if b then slice_set device r.0 r.1 else device) k) (ap (λ z. is_dirty dirty z) (sym e) ∙ d)
            ∙ ap (λ z. slice_get (slice_set device r.0 r.1) z) e ∙ set_there device r.0 r.1 (omega (arith, e, within)) ∙ ap Some (same_value r all.0 same))
        | inr other ↦ got d resident all.1 (ap (λ b. b || list_any (λ (r : ℕ × T). eqb k r.0) resident) (sym other) ∙ listed) (written_back dirty r device) (omega (arith, within, length-one r device))
      ]

  length-flushed : (resident : List (ℕ × T)) (device : List T) → length (flushed dirty resident device) ≡ length device
  length-flushed [] device = refl
  length-flushed (r ∷ resident) device = length-flushed resident (written_back dirty r device) ∙ length-one r device

  module _ (device : List T) (step : IsInStep m dirty device) (resident : List (ℕ × T)) (all : AreResident resident)
      (listed : (k : ℕ) (v : T) → value_of (eqb k) m ≡ Some v → list_any (λ (r : ℕ × T). eqb k r.0) resident ≡ true) where
    pub flushed_is : flushed dirty resident device ≡ blocks m device
    flushed_is = same_list (flushed dirty resident device) (blocks m device) (λ k. by_value k (value_of (eqb k) m) refl)
      where
        by_value : (k : ℕ) (o : Option T) → value_of (eqb k) m ≡ o → slice_get (flushed dirty resident device) k ≡ slice_get (blocks m device) k
        by_value k None absent = unwritten k absent resident all device ∙ sym (stored_seen m device k absent)
        by_value k (Some v) had = (elim (cases_Bool (is_dirty dirty k)) [
          | inl d ↦ got k v had d resident all (listed k v had) device (step.within k v had)
          | inr clean ↦ kept k v had resident all device (step.clean k v had clean)
        ]) ∙ sym (resident_seen m device k v had (step.within k v had))

-- the entries that are left are written one after another
module _ {T : Type 0} (dirty : List Bool) (es rest : List (ℕ × ℕ × T)) where
  pub one_flushed : (e : ℕ × ℕ × T) → es ≡ e ∷ rest → (device now : List T) → now ≡ written_back dirty (e.0, e.2) device
      → flushed dirty (map number_and_block rest) now ≡ flushed dirty (map number_and_block es) device
  one_flushed e is device now written =
      ap (λ d. flushed dirty (map number_and_block rest) d) written ∙ sym (ap (λ (zs : List (ℕ × ℕ × T)). flushed dirty (map number_and_block zs) device) is)

  pub none_flushed : es ≡ [] → (device : List T) → flushed dirty (map number_and_block es) device ≡ device
  none_flushed is device = ap (λ (zs : List (ℕ × ℕ × T)). flushed dirty (map number_and_block zs) device) is

  pub first_within : (n : ℕ) (e : ℕ × ℕ × T) → es ≡ e ∷ rest → AllByRecursion (λ (x : ℕ × ℕ × T). x.0 < n) es → (e.0 < n) × AllByRecursion (λ (x : ℕ × ℕ × T). x.0 < n) rest
  first_within n e is all = subst (λ (zs : List (ℕ × ℕ × T)). AllByRecursion (λ (x : ℕ × ℕ × T). x.0 < n) zs) is all

-- the blocks that an iterator over the cache yields
module _ {T : Type 0} (m : Machine ℕ T) (whole : IsWhole eqb m) (dirty : List Bool) (device : List T) (step : IsInStep m dirty device) where
  abbrev HasValue : ℕ × ℕ × T → Type 0
  HasValue e = value_of (eqb e.0) m ≡ Some e.2

  values : AllByRecursion HasValue (entries m)
  values = entries-values eqb nat_eq_equiv m whole

  are_resident : (es : List (ℕ × ℕ × T)) → AllByRecursion HasValue es → AreResident m dirty (map number_and_block es)
  are_resident [] all = tt
  are_resident (e ∷ es) all = (all.0, are_resident es all.1)

  same_numbers : (k : ℕ) (es : List (ℕ × ℕ × T)) → list_any (λ (r : ℕ × T). eqb k r.0) (map number_and_block es) ≡ list_any (λ (e : ℕ × ℕ × T). eqb k e.0) es
  same_numbers k [] = refl
  same_numbers k (e ∷ es) = ap (λ b. eqb k e.0 || b) (same_numbers k es)

  are_within : (es : List (ℕ × ℕ × T)) → AllByRecursion HasValue es → AllByRecursion (λ (e : ℕ × ℕ × T). e.0 < length device) es
  are_within [] all = tt
  are_within (e ∷ es) all = (step.within e.0 e.2 all.0, are_within es all.1)

  pub entries_within : (es : List (ℕ × ℕ × T)) → es ≡ entries m → AllByRecursion (λ (e : ℕ × ℕ × T). e.0 < length device) es
  entries_within es is = subst (λ (zs : List (ℕ × ℕ × T)). AllByRecursion (λ (e : ℕ × ℕ × T). e.0 < length device) zs) (sym is) (are_within (entries m) values)

  pub all_flushed : flushed dirty (map number_and_block (entries m)) device ≡ blocks m device
  all_flushed = flushed_is m dirty device step (map number_and_block (entries m)) (are_resident (entries m) values)
      (λ k v had. same_numbers k (entries m) ∙ entries-listed eqb nat_eq_equiv m whole k v had)

-- then the device has the blocks that are read, and every block is clean
module _ {T : Type 0} (m : Machine ℕ T) (dirty dirty' : List Bool) (device : List T) (step : IsInStep m dirty device) where
  pub blocks_flushed : blocks m (blocks m device) ≡ blocks m device
  blocks_flushed = same_list (blocks m (blocks m device)) (blocks m device) (λ k. by_value k (value_of (eqb k) m) refl)
    where
      by_value : (k : ℕ) (o : Option T) → value_of (eqb k) m ≡ o → slice_get (blocks m (blocks m device)) k ≡ slice_get (blocks m device) k
      by_value k None absent = stored_seen m (blocks m device) k absent
      by_value k (Some v) had =
          resident_seen m (blocks m device) k v had (omega (arith, step.within k v had, length-blocks m 0 device)) ∙ sym (resident_seen m device k v had (step.within k v had))

  pub in_step_flushed : IsInStep m dirty' (blocks m device)
  in_step_flushed = record {
    within = λ k v had. omega (arith, step.within k v had, length-blocks m 0 device);
    clean = λ k v had clean. resident_seen m device k v had (step.within k v had);
  }

-- Lists of keys, each with the keys of one group.
use Rattle.std.proofs.Common.{◌≡◌, ℕ, zero, suc, ◌<◌, ◌⊎◌, inl, inr, refl, sym, ap, ◌∙◌, subst, List, [], Some, get_or, length, replicate, slice_get, slice_set}
use Rattle.std.proofs.lemmas.Bool.{cases_eq}
use Rattle.std.proofs.lemmas.List.{get_or-set_same, get_or-set_other}
use Rattle.clock2q_handles.specs.Partition.{IsPartitionCount, IsGroupOf}
use Rattle.clock2q_uses.specs.Interning.{spread}
use Rattle.clock2q_uses.specs.Split.{IsSplit}

abbrev no_keys : List ℕ
no_keys = []

none_there : (n part : ℕ) → get_or (replicate n no_keys) part [] ≡ []
none_there zero part = refl
none_there (suc n) zero = refl
none_there (suc n) (suc part) = none_there n part

long : (n : ℕ) → length (replicate n no_keys) ≡ n
long zero = refl
long (suc n) = ap suc (long n)

-- parts without keys
pub split_none : (n : ℕ) → IsPartitionCount n → IsSplit (replicate n [])
split_none n count = record {
  count = subst IsPartitionCount (sym (long n)) count;
  own = λ part number key at.
      let there : slice_get {X = ℕ} [] number ≡ Some key = sym (ap (λ keys. slice_get keys number) (none_there n part)) ∙ at in
      absurd (cc);
}

-- at most a key of its part was added
pub split_put : (parts new : List (List ℕ)) (key part : ℕ) → IsSplit parts → length new ≡ length parts → IsGroupOf (spread key) (length parts) part
    → ((i number held : ℕ) → slice_get (get_or new i []) number ≡ Some held → (slice_get (get_or parts i []) number ≡ Some held) ⊎ ((held ≡ key) × (i ≡ part))) → IsSplit new
split_put parts new key part s same group from = record {
  count = subst IsPartitionCount (sym same) s.count;
  own = λ i number held at. elim (from i number held at) [
    | inl old ↦ subst (λ n. IsGroupOf (spread held) n i) (sym same) (s.own i number held old)
    | inr own ↦ subst (λ n. IsGroupOf (spread held) n i) (sym same)
        (subst (λ p. IsGroupOf (spread held) (length parts) p) (sym own.1)
        (subst (λ k. IsGroupOf (spread k) (length parts) part) (sym own.0) group))
  ];
}

-- when one list is replaced, what is in a list is old or the key
pub set_from : (parts : List (List ℕ)) (part key : ℕ) (own : List ℕ) → part < length parts →
    ((number held : ℕ) → slice_get own number ≡ Some held → (slice_get (get_or parts part []) number ≡ Some held) ⊎ (held ≡ key))
    → (i number held : ℕ) → slice_get (get_or (slice_set parts part own) i []) number ≡ Some held → (slice_get (get_or parts i []) number ≡ Some held) ⊎ ((held ≡ key) × (i ≡ part))
set_from parts part key own l only i number held at = elim (cases_eq i part) [
  | inl same ↦
      let there : get_or (slice_set parts part own) i [] ≡ own = ap (λ n. get_or (slice_set parts part own) n []) same ∙ get_or-set_same parts part own [] l in
      elim (only number held (sym (ap (λ keys. slice_get keys number) there) ∙ at)) [
        | inl old ↦ inl (ap (λ n. slice_get (get_or parts n []) number) same ∙ old)
        | inr new ↦ inr (new, same)
      ]
  | inr other ↦ inl (sym (ap (λ keys. slice_get keys number) (get_or-set_other parts part i own [] other)) ∙ at)
]

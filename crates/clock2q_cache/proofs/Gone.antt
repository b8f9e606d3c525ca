-- The index while the residents are asked for, slot by slot: those that are gone have left it.
use Rattle.clock2q_cache.proofs.Names.{◌≡◌, ℕ, zero, suc, ◌+◌, ◌<◌, ◌==◌, false, not, Some, None, List, [], ◌∷◌, ◌++◌, map, refl, ap, ◌∙◌, arith, ne_eqb, fold, is_some, if◌then◌else◌, filter, find, range_with_len, append-nil, fold-append, SmallEntry, MainEntry, Machine, Places, resident_at, vacated, left_by}
use Rattle.clock2q_cache.proofs.Retained.{range-last, resident-other}

range-next : (n : ℕ) → range_with_len 0 (n + 1) ≡ range_with_len 0 n ++ n ∷ []
range-next n = grind (arith, range-last 0 n)

-- no resident is left at a slot that one left
module _ {K X : Type 0} (at : X → K × ℕ) (s : ℕ) where
  no-others : (es : List X) (rs : List (K × ℕ)) → is_some (find (λ (r : K × ℕ). r.1 == s) rs) ≡ false
      → is_some (find (λ (r : K × ℕ). r.1 == s) (map at (filter (λ e. not ((at e).1 == s)) es) ++ rs)) ≡ false
  no-others [] rs none = none
  no-others (e ∷ es) rs none = grind (arith, no-others es rs none)

  no-last : (es : List X) → is_some (find (λ (r : K × ℕ). r.1 == s) (map at (filter (λ e. not ((at e).1 == s)) es))) ≡ false
  no-last es = grind (arith, append-nil, no-others es [] refl)

vacated-none : {K V : Type 0} (m : Machine K V) (s : ℕ) → is_some (resident_at (vacated s m) s) ≡ false
vacated-none m s = no-others (λ (e : SmallEntry _). (e.key, e.slot)) s m.small _ (no-last (λ (e : MainEntry _). (e.key, e.slot)) s m.main)

module _ {K V : Type 0} (hash : K → ℕ) (old : Machine K V) (p : Places) where
  -- the residents at the slots below that this machine doesn't have are gone
  abbrev pub gone_below : Machine K V → ℕ → Places
  gone_below m n = fold (λ q slot. if is_some (resident_at m slot) then q else left_by hash (resident_at old slot) slot q) p (range_with_len 0 n)

  gone-more : (m : Machine K V) (n : ℕ) → gone_below m (n + 1) ≡ (if is_some (resident_at m n) then gone_below m n else left_by hash (resident_at old n) n (gone_below m n))
  gone-more m n = ap (λ slots. fold (λ q slot. if is_some (resident_at m slot) then q else left_by hash (resident_at old slot) slot q) p slots) (range-next n)
      ∙ fold-append (λ q slot. if is_some (resident_at m slot) then q else left_by hash (resident_at old slot) slot q) p (range_with_len 0 n) (n ∷ [])

  gone-same : (m m' : Machine K V) (n : ℕ) → ((t : ℕ) → t < n → resident_at m' t ≡ resident_at m t) → gone_below m' n ≡ gone_below m n
  gone-same m m' zero others = refl
  gone-same m m' (suc n) others = grind (arith, gone-more m n, gone-more m' n, gone-same m m' n (λ t less. others t (omega (arith, less))), others n)

  module _ (m : Machine K V) (n : ℕ) (here : resident_at m n ≡ resident_at old n) {now : Places} (is : now ≡ gone_below m n) where
    -- there is no resident at the slot, or it stays
    pub gone-none : resident_at m n ≡ None → now ≡ gone_below m (n + 1)
    gone-none none = grind (arith, gone-more m n)

    pub gone-stays : (r : K × ℕ) → resident_at m n ≡ Some r → now ≡ gone_below m (n + 1)
    gone-stays r some = grind (arith, gone-more m n)

    -- it leaves
    pub gone-left : {next : Places} → next ≡ left_by hash (resident_at m n) n now → next ≡ gone_below (vacated n m) (n + 1)
    gone-left left = grind (arith, gone-more (vacated n m) n, vacated-none m n, gone-same m (vacated n m) n (λ t less. resident-other m n t (ne_eqb n t (omega (arith, less)))))

-- How the keys by place change.
use Rattle.clock2q_directory.proofs.Names.{◌≡◌, ℕ, zero, suc, ◌+◌, ◌<◌, ◌≤◌, max, Bool, true, false, Option, Some, None, slice_get, slice_set, List, [], ◌∷◌, ◌++◌, length, take, inl, inr, refl, sym, ap, ◌∙◌, subst, eqb, arith, map, if◌then◌else◌, nat_lt, cons_option, AllByRecursion, list_any, IsDistinct, IsEquivalence, slice_get_within, both_ways, or_cases, eq-eqb, eqb-true, cases_lt, lt-ltb, le-ltb, map-append, Entry, entry, written, hash_at, hashed_at, entries_of, is_key_at, key_at, value_at, has_key, among_first, among_later, distinct_first, distinct_rest, or_left, or_right}

-- Entries written

module _ {E : Type 0} where
  pub slice_get-written : (place : ℕ) (e : E) (xs : List E) → place ≤ length xs → slice_get (written place e xs) place ≡ Some e
  slice_get-written zero e [] h = refl
  slice_get-written (suc place) e [] h = absurd (omega arith)
  slice_get-written zero e (x ∷ xs) h = refl
  slice_get-written (suc place) e (x ∷ xs) h = slice_get-written place e xs (omega arith)

  pub slice_get-written_other : (place t : ℕ) (e : E) (xs : List E) → place ≤ length xs → (t ≡ place → ⊥) → slice_get (written place e xs) t ≡ slice_get xs t
  slice_get-written_other zero zero e xs h other = absurd (other refl)
  slice_get-written_other zero (suc t) e [] h other = refl
  slice_get-written_other (suc place) t e [] h other = absurd (omega arith)
  slice_get-written_other zero (suc t) e (x ∷ xs) h other = refl
  slice_get-written_other (suc place) zero e (x ∷ xs) h other = refl
  slice_get-written_other (suc place) (suc t) e (x ∷ xs) h other = slice_get-written_other place t e xs (omega arith) (λ q. other (ap (λ n. suc n) q))

  pub length-written : (place : ℕ) (e : E) (xs : List E) → place ≤ length xs → length (written place e xs) ≡ max (length xs) (place + 1)
  length-written zero e [] h = refl
  length-written (suc place) e [] h = absurd (omega arith)
  length-written zero e (x ∷ xs) h = omega arith
  length-written (suc place) e (x ∷ xs) h = omega (arith, length-written place e xs (omega arith))

  pub written-push : (place : ℕ) (e : E) (xs : List E) → place ≡ length xs → written place e xs ≡ xs ++ e ∷ []
  written-push place e [] h = refl
  written-push zero e (x ∷ xs) h = absurd (omega arith)
  written-push (suc place) e (x ∷ xs) h = ap (λ zs. x ∷ zs) (written-push place e xs (omega arith))

  pub slice_get_some : (xs : List E) (i : ℕ) → i < length xs → (e : E) × (slice_get xs i ≡ Some e)
  slice_get_some [] i h = absurd (omega arith)
  slice_get_some (x ∷ xs) zero h = (x, refl)
  slice_get_some (x ∷ xs) (suc i) h = slice_get_some xs i (omega arith)

  -- what holds of all and of the one that is written holds of all afterwards
  pub all-written : (P : E → Type 0) (s : ℕ) (e : E) (es : List E) → AllByRecursion P es → P e → AllByRecursion P (written s e es)
  all-written P s e [] a p = (p, tt)
  all-written P zero e (x ∷ xs) a p = (p, a.1)
  all-written P (suc s) e (x ∷ xs) a p = (a.0, all-written P s e xs a.1 p)

  pub set-written : (s : ℕ) (e : E) (es : List E) → s < length es → slice_set es s e ≡ written s e es
  set-written s e [] h = absurd (omega arith)
  set-written zero e (x ∷ xs) h = refl
  set-written (suc s) e (x ∷ xs) h = ap (λ zs. x ∷ zs) (set-written s e xs (omega arith))

-- Keys in a list

module _ {K : Type 0} where
  all_tail : (P : ℕ × K → Type 0) (o : Option (ℕ × K)) (es : List (ℕ × K)) → AllByRecursion P (cons_option o es) → AllByRecursion P es
  all_tail P None es a = a
  all_tail P (Some e) es a = a.1

  any_tail : (eq : K → K → Bool) (key : K) (o : Option (ℕ × K)) (es : List (ℕ × K)) → has_key eq key es ≡ true → has_key eq key (cons_option o es) ≡ true
  any_tail eq key None es a = a
  any_tail eq key (Some e) es a = or_right (eq key e.1) (has_key eq key es) a

  distinct_tail : (eq : K → K → Bool) (o : Option (ℕ × K)) (es : List (ℕ × K)) → IsDistinct (λ d e. eq d.1 e.1) (cons_option o es) → IsDistinct (λ d e. eq d.1 e.1) es
  distinct_tail eq None es d = d
  distinct_tail eq (Some e) es d = distinct_rest (λ d e. eq d.1 e.1) e es d

  head_absent : (eq : K → K → Bool) (o : Option (ℕ × K)) (es : List (ℕ × K)) → IsDistinct (λ d e. eq d.1 e.1) (cons_option o es) → (e : ℕ × K) → o ≡ Some e → has_key eq e.1 es ≡ false
  head_absent eq None es d e q = absurd (cc)
  head_absent eq (Some f) es d e q = let r : f ≡ e = cc in subst (λ (z : ℕ × K). has_key eq z.1 es ≡ false) r (distinct_first (λ d e. eq d.1 e.1) f es d)

module _ {K V : Type 0} where
  -- an entry that is written
  module _ (s h : ℕ) (k : K) (v : V) (es : List (Entry K V)) (next : s ≤ length es) where
    pub key_at-own : key_at (written s (entry h k v) es) s ≡ Some k
    key_at-own = ap (λ z. elim z [ None ↦ None | Some e ↦ Some e.key ]) (slice_get-written s (entry h k v) es next)

    pub hash_at-own : hash_at (written s (entry h k v) es) s ≡ Some h
    hash_at-own = ap (λ z. elim z [ None ↦ None | Some e ↦ Some e.hash ]) (slice_get-written s (entry h k v) es next)

    apart_places : (t : ℕ) (places : List ℕ) → list_any (eqb s) places ≡ false → list_any (eqb t) places ≡ true → t ≡ s → ⊥
    apart_places t places absent g e = both_ways (list_any (eqb s) places) absent (subst (λ z. list_any (eqb z) places ≡ true) e g)

    pub key_at-others : (places : List ℕ) → list_any (eqb s) places ≡ false → (t : ℕ) → list_any (eqb t) places ≡ true → key_at (written s (entry h k v) es) t ≡ key_at es t
    key_at-others places absent t g = ap (λ z. elim z [ None ↦ None | Some e ↦ Some e.key ]) (slice_get-written_other s t (entry h k v) es next (apart_places t places absent g))

    pub hash_at-others : (places : List ℕ) → list_any (eqb s) places ≡ false → (t : ℕ) → list_any (eqb t) places ≡ true → hash_at (written s (entry h k v) es) t ≡ hash_at es t
    hash_at-others places absent t g = ap (λ z. elim z [ None ↦ None | Some e ↦ Some e.hash ]) (slice_get-written_other s t (entry h k v) es next (apart_places t places absent g))

  -- Values at places

  pub value-there : (es : List (Entry K V)) (slot : ℕ) → slice_get (map (λ (e : Entry K V). e.value) es) slot ≡ value_at es slot
  value-there [] slot = refl
  value-there (e ∷ es) zero = refl
  value-there (e ∷ es) (suc slot) = value-there es slot

  values-set : (s : ℕ) (e : Entry K V) (es : List (Entry K V)) → s < length es → map (λ e. e.value) (written s e es) ≡ slice_set (map (λ e. e.value) es) s e.value
  values-set s e [] h = absurd (omega arith)
  values-set zero e (x ∷ xs) h = refl
  values-set (suc s) e (x ∷ xs) h = ap (λ zs. x.value ∷ zs) (values-set s e xs (omega arith))

  pub length-values : (es : List (Entry K V)) → length (map (λ (e : Entry K V). e.value) es) ≡ length es
  length-values [] = refl
  length-values (e ∷ es) = ap suc (length-values es)

  pub values-written : (s : ℕ) (e : Entry K V) (es : List (Entry K V)) → s ≤ length es
      → map (λ e. e.value) (written s e es) ≡ (if nat_lt s (length (map (λ (e : Entry K V). e.value) es)) then slice_set (map (λ e. e.value) es) s e.value else map (λ e. e.value) es ++ e.value ∷ [])
  values-written s e es h = grind (arith, cases_lt, lt-ltb, length-values, values-set, le-ltb, written-push, map-append)

  -- Keys at places

  pub hashed_there : (keys : List (Entry K V)) (place : ℕ) → place < length keys → (e : ℕ × K) × (hashed_at keys place ≡ Some e)
  hashed_there keys place h =
      let e = slice_get_some keys place h in
      ((e.0.hash, e.0.key), ap (λ z. elim z [ None ↦ None | Some e ↦ Some (e.hash, e.key) ]) e.1)

  pub hash_of_hashed : (keys : List (Entry K V)) (place : ℕ) (e : ℕ × K) → hashed_at keys place ≡ Some e → hash_at keys place ≡ Some e.0
  hash_of_hashed keys place e h = of (slice_get keys place) h
    where
      of : (o : Option (Entry K V)) → elim o [ None ↦ None | Some e ↦ Some (e.hash, e.key) ] ≡ Some e → elim o [ None ↦ None | Some e ↦ Some e.hash ] ≡ Some e.0
      of None h = absurd (cc)
      of (Some x) h = let q : (x.hash, x.key) ≡ e = cc in ap (λ (z : ℕ × K). Some z.0) q

  pub hash_in : (keys : List (Entry K V)) (place hash : ℕ) → hash_at keys place ≡ Some hash → place < length keys
  hash_in keys place hash h = of (slice_get keys place) refl h
    where
      of : (o : Option (Entry K V)) → slice_get keys place ≡ o → elim o [ None ↦ None | Some e ↦ Some e.hash ] ≡ Some hash → place < length keys
      of None is h = absurd (cc)
      of (Some e) is h = slice_get_within keys place e is

  -- a place that has the key has an entry with it
  pub key_there : (eq : K → K → Bool) (key : K) (keys : List (Entry K V)) (place : ℕ) → is_key_at eq key keys place ≡ true → (e : ℕ × K) × (hashed_at keys place ≡ Some e) × (eq key e.1 ≡ true)
  key_there eq key keys place h = of (slice_get keys place) refl h
    where
      of : (o : Option (Entry K V)) → slice_get keys place ≡ o → elim o [ None ↦ false | Some e ↦ eq key e.key ] ≡ true → (e : ℕ × K) × (hashed_at keys place ≡ Some e) × (eq key e.1 ≡ true)
      of None is h = absurd (both_ways false refl h)
      of (Some e) is h = ((e.hash, e.key), ap (λ z. elim z [ None ↦ None | Some e ↦ Some (e.hash, e.key) ]) is, h)

  -- Keys in the order of places

  pub entries-agree : (keys keys' : List (Entry K V)) (ps : List ℕ) → ((t : ℕ) → list_any (eqb t) ps ≡ true → slice_get keys' t ≡ slice_get keys t) → entries_of keys' ps ≡ entries_of keys ps
  entries-agree keys keys' [] h = refl
  entries-agree keys keys' (p ∷ ps) h = grind (arith, entries-agree keys keys' ps, among_first, among_later)

  pub entries-cons : (keys : List (Entry K V)) (p : ℕ) (e : ℕ × K) (ps : List ℕ) → hashed_at keys p ≡ Some e → entries_of keys (p ∷ ps) ≡ e ∷ entries_of keys ps
  entries-cons keys p e ps h = ap (λ z. cons_option z (entries_of keys ps)) h

  pub length-entries : (keys : List (Entry K V)) (n : ℕ) (ps : List ℕ) → n ≤ length keys → AllByRecursion (λ s. s < n) ps → length (entries_of keys ps) ≡ length ps
  length-entries keys n [] h b = refl
  length-entries keys n (p ∷ ps) h b =
      let e = hashed_there keys p (omega (arith, b.0)) in
      ap (λ (z : List (ℕ × K)). length z) (entries-cons keys p e.0 ps e.1) ∙ ap (λ z. suc z) (length-entries keys n ps h b.1)

  pub entries-take : (keys : List (Entry K V)) (n k : ℕ) (ps : List ℕ) → n ≤ length keys → AllByRecursion (λ s. s < n) ps → entries_of keys (take k ps) ≡ take k (entries_of keys ps)
  entries-take keys n zero ps h b = refl
  entries-take keys n (suc k) [] h b = refl
  entries-take keys n (suc k) (p ∷ ps) h b =
      let e = hashed_there keys p (omega (arith, b.0)) in
      entries-cons keys p e.0 (take k ps) e.1 ∙ ap (λ zs. e.0 ∷ zs) (entries-take keys n k ps h b.1) ∙ sym (ap (λ zs. take (suc k) zs) (entries-cons keys p e.0 ps e.1))

  pub all_entry : (P : ℕ × K → Type 0) (keys : List (Entry K V)) (ps : List ℕ) (t : ℕ) (e : ℕ × K) → AllByRecursion P (entries_of keys ps) → list_any (eqb t) ps ≡ true → hashed_at keys t ≡ Some e
      → P e
  all_entry P keys [] t e a h s = absurd (both_ways false refl h)
  all_entry P keys (p ∷ ps) t e a h s = grind (arith, all_entry P keys ps t e, or_cases, eqb-true, all_tail)

  module _ (eq : K → K → Bool) where
    pub any_entry : (key : K) (keys : List (Entry K V)) (ps : List ℕ) (t : ℕ) (e : ℕ × K) → list_any (eqb t) ps ≡ true → hashed_at keys t ≡ Some e → eq key e.1 ≡ true
        → has_key eq key (entries_of keys ps) ≡ true
    any_entry key keys [] t e h s k = absurd (both_ways false refl h)
    any_entry key keys (p ∷ ps) t e h s k = elim (or_cases (eqb t p) (list_any (eqb t) ps) h) [
      | inl q ↦ subst (λ z. has_key eq key (cons_option z (entries_of keys ps)) ≡ true)
          (sym (subst (λ z. hashed_at keys z ≡ Some e) (eqb-true t p q) s)) (or_left (eq key e.1) (has_key eq key (entries_of keys ps)) k)
      | inr q ↦ any_tail eq key (hashed_at keys p) (entries_of keys ps) (any_entry key keys ps t e q s k)
    ]

    -- two places don't have the same key
    pub same_place : IsEquivalence eq → (key : K) (keys : List (Entry K V)) (ps : List ℕ) → IsDistinct (λ d e. eq d.1 e.1) (entries_of keys ps) → (t u : ℕ) → list_any (eqb t) ps ≡ true
        → list_any (eqb u) ps ≡ true
        → is_key_at eq key keys t ≡ true → is_key_at eq key keys u ≡ true → eqb t u ≡ true
    same_place laws key keys [] d t u ht hu kt ku = absurd (both_ways false refl ht)
    same_place laws key keys (p ∷ ps) d t u ht hu kt ku =
        let alone : (v : ℕ) → list_any (eqb v) ps ≡ true → is_key_at eq key keys p ≡ true → is_key_at eq key keys v ≡ true → ⊥ = λ v hv kp kv.
        let e = key_there eq key keys p kp in
        let f = key_there eq key keys v kv in
        both_ways (has_key eq e.0.1 (entries_of keys ps)) (head_absent eq (hashed_at keys p) (entries_of keys ps) d e.0 e.1)
        (any_entry e.0.1 keys ps v f.0 hv f.1 (sym (laws.congr key e.0.1 f.0.1 e.2) ∙ f.2)) in
        elim (or_cases (eqb t p) (list_any (eqb t) ps) ht) [
          | inl q ↦ elim (or_cases (eqb u p) (list_any (eqb u) ps) hu) [
            | inl r ↦ eq-eqb t u (eqb-true t p q ∙ sym (eqb-true u p r))
            | inr r ↦ absurd (alone u r (subst (λ z. is_key_at eq key keys z ≡ true) (eqb-true t p q) kt) ku)
          ]
          | inr q ↦ elim (or_cases (eqb u p) (list_any (eqb u) ps) hu) [
            | inl r ↦ absurd (alone t q (subst (λ z. is_key_at eq key keys z ≡ true) (eqb-true u p r) ku) kt)
            | inr r ↦ same_place laws key keys ps (distinct_tail eq (hashed_at keys p) (entries_of keys ps) d) t u q r kt ku
          ]
        ]

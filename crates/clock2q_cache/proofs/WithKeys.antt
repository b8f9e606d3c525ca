-- The queues' lists of slots, with the keys at the slots, change as the machine's lists do.
use Rattle.clock2q_cache.proofs.Names.{◌≡◌, ℕ, zero, suc, ◌+◌, ◌==◌, Bool, true, false, not, cond, eqb, Option, Some, None, List, [], ◌∷◌, ◌++◌, map, length, take, drop, inl, inr, refl, ap, ◌∙◌, arith, if◌then◌else◌, last_or, count_by, filter, filter_map, option_map, cases_Bool, filter_map-append, sum_by-cons, Age, grown_older, touched, admitted, small_hit_at, set_front, inspections, from_victim, main_hit_at, slots_of, without_slot, among_first, among_later, SmallEntry, MainEntry, with_keys_small, with_keys_main, list_any}
use Rattle.clock2q_machine.specs.Entries as machine

-- an entry of Small or of Main, and its key
abbrev pub small_with : {K : Type 0} → ℕ × Age → K → SmallEntry K
small_with e k = record { key = k; slot = e.0; age = e.1 }

abbrev pub main_with : {K : Type 0} → ℕ × Bool → K → MainEntry K
main_with e k = record { key = k; slot = e.0; bit = e.1 }

module _ {K : Type 0} (key : ℕ → Option K) where
  -- each of these slots has a key
  abbrev pub HaveKeys : List ℕ → Type 0
  HaveKeys slots = (t : ℕ) → list_any (eqb t) slots ≡ true → (k : K) × (key t ≡ Some k)

  pub have_later : (s : ℕ) (ss : List ℕ) → HaveKeys (s ∷ ss) → HaveKeys ss
  have_later s ss h t g = h t (among_later t s ss g)

  -- the keys at these places, each with its place
  abbrev pub paired : List ℕ → List (K × ℕ)
  paired places = filter_map (λ s. option_map (λ k. (k, s)) (key s)) places

  pub paired-cons : (s : ℕ) (ss : List ℕ) (k : K) → key s ≡ Some k → paired (s ∷ ss) ≡ (k, s) ∷ paired ss
  paired-cons s ss k h = grind arith

-- a queue's entries, and the same with the keys at their slots
pub data Keyed {K X R : Type 0} (make : ℕ × X → K → R) (key : ℕ → Option K) : List (ℕ × X) → List R → Type 0 where
  unkeyed : Keyed make key [] []
  keyed : {e : ℕ × X} {es : List (ℕ × X)} {rs : List R} (k : K) → key e.0 ≡ Some k → Keyed make key es rs → Keyed make key (e ∷ es) (make e k ∷ rs)

module _ {K X R : Type 0} (make : ℕ × X → K → R) (key : ℕ → Option K) where
  abbrev with_keys : List (ℕ × X) → List R
  with_keys es = filter_map (λ e. option_map (λ k. make e k) (key e.0)) es

  pub keys-cons : (e : ℕ × X) (es : List (ℕ × X)) (k : K) → key e.0 ≡ Some k → with_keys (e ∷ es) ≡ make e k ∷ with_keys es
  keys-cons e es k at = grind arith

  pub have-keyed : (es : List (ℕ × X)) → HaveKeys key (slots_of es) → Keyed make key es (with_keys es)
  have-keyed [] h = unkeyed
  have-keyed (e ∷ es) h = grind (arith, h e.0, among_first e.0 (slots_of es), keyed, have-keyed es (have_later key e.0 (slots_of es) h))

  pub keyed-is : {es : List (ℕ × X)} {rs : List R} → Keyed make key es rs → with_keys es ≡ rs
  keyed-is unkeyed = refl
  keyed-is (keyed k at r) = grind (arith, keyed-is r)

  -- the same keys at these slots
  pub keys-agree : (key' : ℕ → Option K) (es : List (ℕ × X)) → ((t : ℕ) → list_any (eqb t) (slots_of es) ≡ true → key' t ≡ key t)
      → filter_map (λ e. option_map (λ k. make e k) (key' e.0)) es ≡ with_keys es
  keys-agree key' [] h = refl
  keys-agree key' (e ∷ es) h = grind (arith, h e.0 (among_first e.0 (slots_of es)), keys-agree key' es (λ t g. h t (among_later t e.0 (slots_of es) g)))

module _ {K X R : Type 0} {make : ℕ × X → K → R} {key : ℕ → Option K} where
  -- there are as many as slots
  length-keyed : {es : List (ℕ × X)} {rs : List R} → Keyed make key es rs → length rs ≡ length es
  length-keyed unkeyed = refl
  length-keyed (keyed k at r) = ap suc (length-keyed r)

  -- a part of a queue, and two parts
  take-keyed : (n : ℕ) {es : List (ℕ × X)} {rs : List R} → Keyed make key es rs → Keyed make key (take n es) (take n rs)
  take-keyed zero r = unkeyed
  take-keyed (suc n) unkeyed = unkeyed
  take-keyed (suc n) (keyed k at r) = keyed k at (take-keyed n r)

  drop-keyed : (n : ℕ) {es : List (ℕ × X)} {rs : List R} → Keyed make key es rs → Keyed make key (drop n es) (drop n rs)
  drop-keyed zero r = r
  drop-keyed (suc n) unkeyed = unkeyed
  drop-keyed (suc n) (keyed k at r) = drop-keyed n r

  append-keyed : {es fs : List (ℕ × X)} {rs ss : List R} → Keyed make key es rs → Keyed make key fs ss → Keyed make key (es ++ fs) (rs ++ ss)
  append-keyed unkeyed s = s
  append-keyed (keyed k at r) s = keyed k at (append-keyed r s)

  last-keyed : (e : ℕ × X) (k : K) (o : Option (ℕ × X)) (p : Option R) {es : List (ℕ × X)} {rs : List R} → (o ≡ Some e → p ≡ Some (make e k))
      → Keyed make key es rs → last_or o es ≡ Some e → key e.0 ≡ Some k → last_or p rs ≡ Some (make e k)
  last-keyed e k o p first unkeyed last at = first last
  last-keyed e k o p first (keyed {e = x} j is r) last at = last-keyed e k (Some x) (Some (make x j)) (λ q. cc) r last at

  -- the residents of a queue
  keyed-paired : {es : List (ℕ × X)} {rs : List R} (show : R → K × ℕ) → ((e : ℕ × X) (k : K) → show (make e k) ≡ (k, e.0)) → Keyed make key es rs → map show rs ≡ paired key (slots_of es)
  keyed-paired show shown unkeyed = refl
  keyed-paired show shown (keyed k at r) = grind (arith, shown, keyed-paired show shown r)

  module _ (slot : R → ℕ) (slot-is : (e : ℕ × X) (k : K) → slot (make e k) ≡ e.0) (t : ℕ) where
    -- how often a slot occurs
    pub keyed-standing : {es : List (ℕ × X)} {rs : List R} → Keyed make key es rs → count_by (λ r. slot r == t) rs ≡ count_by (λ s. s == t) (slots_of es)
    keyed-standing unkeyed = refl
    keyed-standing (keyed {e} {es} {rs} k at r) =
        grind (arith, sum_by-cons (λ r. cond (slot r == t) 1 0) (make e k) rs, sum_by-cons (λ s. cond (s == t) 1 0) e.0 (slots_of es), slot-is e k, keyed-standing r)

    -- a queue without a slot
    keyed-without : {es : List (ℕ × X)} {rs : List R} → Keyed make key es rs → Keyed make key (without_slot t es) (filter (λ r. not (slot r == t)) rs)
    keyed-without unkeyed = unkeyed
    keyed-without (keyed {e} k at r) = elim (cases_Bool (eqb e.0 t)) [ inl q ↦ rw (slot-is e k, q) (keyed-without r) | inr q ↦ rw (slot-is e k, q) (keyed k at (keyed-without r)) ]

  -- a hit, if the key passes the test only at this slot
  keyed-hit : (of : R → K) (h : X → X) (g : R → R) → ((e : ℕ × X) (k : K) → of (make e k) ≡ k) → ((e : ℕ × X) (k : K) → g (make e k) ≡ make (e.0, h e.1) k)
      → (is : K → Bool) (slot : ℕ) {es : List (ℕ × X)} {rs : List R} → ((t : ℕ) (k : K) → list_any (eqb t) (slots_of es) ≡ true → key t ≡ Some k → is k ≡ eqb t slot) → Keyed make key es rs
      → Keyed make key (map {B = ℕ × X} (λ e. if e.0 == slot then (e.0, h e.1) else e) es) (map (λ r. if is (of r) then g r else r) rs)
  keyed-hit of h g own hits is slot agrees unkeyed = unkeyed
  keyed-hit of h g own hits is slot agrees (keyed {e} {es} k at r) =
      let here : is k ≡ eqb e.0 slot = agrees e.0 k (among_first e.0 (slots_of es)) at in
      let rest = keyed-hit of h g own hits is slot (λ t k g. agrees t k (among_later t e.0 (slots_of es) g)) r in
      elim (cases_Bool (eqb e.0 slot)) [ inl q ↦ rw (own e k, here, q, hits e k) (keyed k at rest) | inr q ↦ rw (own e k, here, q) (keyed k at rest) ]

module _ {K : Type 0} (key : ℕ → Option K) where
  pub length-small : (es : List (ℕ × Age)) → HaveKeys key (slots_of es) → length (with_keys_small key es) ≡ length es
  length-small es h = length-keyed (have-keyed small_with key es h)

  pub length-main : (es : List (ℕ × Bool)) → HaveKeys key (slots_of es) → length (with_keys_main key es) ≡ length es
  length-main es h = length-keyed (have-keyed main_with key es h)

  -- the residents of both queues
  pub residents-keyed : (small : List (ℕ × Age)) (main : List (ℕ × Bool)) → HaveKeys key (slots_of small) → HaveKeys key (slots_of main)
      → map (λ (e : SmallEntry K). (e.key, e.slot)) (with_keys_small key small) ++ map (λ (e : MainEntry K). (e.key, e.slot)) (with_keys_main key main) ≡ paired key (slots_of small ++ slots_of main)
  residents-keyed small main s m =
      let a = keyed-paired (λ (e : SmallEntry K). (e.key, e.slot)) (λ e k. refl) (have-keyed small_with key small s) in
      let b = keyed-paired (λ (e : MainEntry K). (e.key, e.slot)) (λ e k. refl) (have-keyed main_with key main m) in
      grind (arith, a, b, filter_map-append)

  -- an admission
  small-grown : (window : ℕ) (es : List (ℕ × Age))
      → map (λ (e : SmallEntry K). record e { age = grown_older window e.age }) (with_keys_small key es) ≡ with_keys_small key (map {B = ℕ × Age} (λ (e : ℕ × Age). (e.0, grown_older window e.1)) es)
  small-grown window [] = refl
  small-grown window (e ∷ es) = grind (arith, small-grown window es)

  pub small-admitted : (window slot : ℕ) (k : K) (es : List (ℕ × Age)) → key slot ≡ Some k
      → with_keys_small key (admitted window slot es) ≡ machine.small_admitted window k slot (with_keys_small key es)
  small-admitted window slot k es h = grind (arith, keys-cons, small-grown)

  -- a slot that is put at the end, behind the hand
  pub main-behind : (slot : ℕ) (k : K) (es : List (ℕ × Bool)) → key slot ≡ Some k → with_keys_main key (es ++ (slot, false) ∷ []) ≡ machine.behind_hand k slot (with_keys_main key es)
  main-behind slot k es h = grind (arith, filter_map-append, option_map, main_with, with_keys_main, keys-cons)

  -- the front of Small, and its tail
  pub small-take : (n : ℕ) (es : List (ℕ × Age)) → HaveKeys key (slots_of es) → with_keys_small key (take n es) ≡ take n (with_keys_small key es)
  small-take n es h = keyed-is small_with key (take-keyed n (have-keyed small_with key es h))

  pub small-last : (es : List (ℕ × Age)) (e : ℕ × Age) (k : K) → HaveKeys key (slots_of es) → last_or None es ≡ Some e → key e.0 ≡ Some k
      → last_or None (with_keys_small key es) ≡ Some (small_with e k)
  small-last es e k h = last-keyed e k None None (λ q. absurd (cc)) (have-keyed small_with key es h)

  -- the hand's inspections, and its choice
  main-passed : {es : List (ℕ × Bool)} {rs : List (MainEntry K)} → Keyed main_with key es rs → machine.set_front rs ≡ set_front es
  main-passed unkeyed = refl
  main-passed (keyed {e} k at r) = elim (cases_Bool e.1) [ inl t ↦ rw t (ap (λ z. 1 + z) (main-passed r)) | inr f ↦ rw f refl ]

  pub main-inspections : (es : List (ℕ × Bool)) → HaveKeys key (slots_of es) → machine.inspections (with_keys_main key es) ≡ inspections es
  main-inspections es h = ap (λ z. z + 1) (main-passed (have-keyed main_with key es h))

  main-cleared : {es : List (ℕ × Bool)} {rs : List (MainEntry K)} → Keyed main_with key es rs
      → Keyed main_with key (map {B = ℕ × Bool} (λ e. (e.0, false)) es) (map (λ (e : MainEntry K). record e { bit = false }) rs)
  main-cleared unkeyed = unkeyed
  main-cleared (keyed k at r) = keyed k at (main-cleared r)

  pub main-from_victim : (es : List (ℕ × Bool)) → HaveKeys key (slots_of es) → machine.from_victim (with_keys_main key es) ≡ with_keys_main key (from_victim es)
  main-from_victim es h =
      let r = have-keyed main_with key es h in
      grind (arith, main-passed r, keyed-is main_with key (append-keyed (drop-keyed (set_front es) r) (main-cleared (take-keyed (set_front es) r))))

  -- a hit, if the key passes the test only at this slot
  module _ (is : K → Bool) (slot : ℕ) where
    pub small-hit : (es : List (ℕ × Age)) → ((t : ℕ) (k : K) → list_any (eqb t) (slots_of es) ≡ true → key t ≡ Some k → is k ≡ eqb t slot) → HaveKeys key (slots_of es)
        → with_keys_small key (small_hit_at slot es) ≡ machine.small_hit is (with_keys_small key es)
    small-hit es agrees h =
        keyed-is small_with key (keyed-hit (λ (e : SmallEntry K). e.key) touched (λ e. record e { age = touched e.age }) (λ e k. refl) (λ e k. refl) is slot agrees (have-keyed small_with key es h))

    pub main-hit : (es : List (ℕ × Bool)) → ((t : ℕ) (k : K) → list_any (eqb t) (slots_of es) ≡ true → key t ≡ Some k → is k ≡ eqb t slot) → HaveKeys key (slots_of es)
        → with_keys_main key (main_hit_at slot es) ≡ machine.main_hit is (with_keys_main key es)
    main-hit es agrees h =
        keyed-is main_with key (keyed-hit (λ (e : MainEntry K). e.key) (λ b. true) (λ e. record e { bit = true }) (λ e k. refl) (λ e k. refl) is slot agrees (have-keyed main_with key es h))

  -- how often a slot occurs in both queues
  pub standing-keyed : (t : ℕ) (small : List (ℕ × Age)) (main : List (ℕ × Bool)) → HaveKeys key (slots_of small) → HaveKeys key (slots_of main)
      → count_by (λ (e : SmallEntry K). e.slot == t) (with_keys_small key small) + count_by (λ (e : MainEntry K). e.slot == t) (with_keys_main key main)
      ≡ count_by (λ s. s == t) (slots_of small) + count_by (λ s. s == t) (slots_of main)
  standing-keyed t small main s m =
      let a = keyed-standing (λ (e : SmallEntry K). e.slot) (λ e k. refl) t (have-keyed small_with key small s) in
      let b = keyed-standing (λ (e : MainEntry K). e.slot) (λ e k. refl) t (have-keyed main_with key main m) in
      omega (arith, a, b)

  -- the queues without a slot
  pub small-without : (t : ℕ) (es : List (ℕ × Age)) → HaveKeys key (slots_of es) → with_keys_small key (without_slot t es) ≡ filter (λ e. not (e.slot == t)) (with_keys_small key es)
  small-without t es h = keyed-is small_with key (keyed-without (λ (e : SmallEntry K). e.slot) (λ e k. refl) t (have-keyed small_with key es h))

  pub main-without : (t : ℕ) (es : List (ℕ × Bool)) → HaveKeys key (slots_of es) → with_keys_main key (without_slot t es) ≡ filter (λ e. not (e.slot == t)) (with_keys_main key es)
  main-without t es h = keyed-is main_with key (keyed-without (λ (e : MainEntry K). e.slot) (λ e k. refl) t (have-keyed main_with key es h))

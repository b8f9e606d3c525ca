-- The closure was called for the residents of the first slots, and those that it refused left: one slot at a time, up
-- to the last.
use Rattle.clock2q_cache.proofs.Names.{◌≡◌, ℕ, zero, suc, ◌+◌, ◌-◌, ◌<◌, ◌≤◌, ◌==◌, Bool, true, false, not, cond, eqb, Option, Some, None, List, [], ◌∷◌, ◌++◌, map, length, refl, sym, ap, ◌∙◌, subst, arith, eqb-true, ne_eqb, length-append, slice_get, Mut, Called, always_mut, mut_next, filter, filter_map, cons_option, find, range_with_len, append-nil, map-append, length-map, filter_map-append, fold-append, AsksResident, MayBeAsked, Retains, TakesResidents, SmallEntry, MainEntry, Machine, by_slot, resident_at, vacated, vacated_all, refused_slots, retained, Bor, Takes, ReturnsInTurn}

pub range-last : (a n : ℕ) → range_with_len a (suc n) ≡ range_with_len a n ++ (a + n) ∷ []
range-last a zero = grind arith
range-last a (suc n) = grind (arith, range-last (a + 1) n)

returns-more : {X P : Type 0} (R : P → X → Bool → P → Type 0) (p : P) (bs : List Bool) (xs : List X) (q : P) (b : Bool) (x : X) (last : P)
    → length bs ≡ length xs → ReturnsInTurn R p bs xs q → R q x b last → ReturnsInTurn R p (bs ++ b ∷ []) (xs ++ x ∷ []) last
returns-more R p [] [] q b x last many h r = grind arith
returns-more R p [] (y ∷ xs) q b x last many h r = absurd (omega (arith, many))
returns-more R p (c ∷ bs) [] q b x last many h r = absurd (omega (arith, many))
returns-more R p (c ∷ bs) (y ∷ xs) q b x last many h r = (h.0, h.1, returns-more R h.0 bs xs q b x last (omega (arith, many)) h.2 r)

refused-more : (bits : List Bool) (slots : List ℕ) (b : Bool) (s : ℕ) → length bits ≡ length slots → refused_slots (bits ++ b ∷ []) (slots ++ s ∷ []) ≡ refused_slots bits slots ++ cond b [] (s ∷ [])
refused-more [] [] b s many = grind arith
refused-more [] (t ∷ slots) b s many = absurd (omega (arith, many))
refused-more (c ∷ bits) [] b s many = absurd (omega (arith, many))
refused-more (c ∷ bits) (t ∷ slots) b s many = grind (arith, refused-more bits slots b s)

-- when a resident leaves, the others stay as they are
module _ {K X : Type 0} (at : X → K × ℕ) (s t : ℕ) (differ : eqb s t ≡ false) where
  others : (es : List X) (rs rs' : List (K × ℕ)) → find (λ (r : K × ℕ). r.1 == t) rs' ≡ find (λ (r : K × ℕ). r.1 == t) rs
      → find (λ (r : K × ℕ). r.1 == t) (map at (filter (λ e. not ((at e).1 == s)) es) ++ rs') ≡ find (λ (r : K × ℕ). r.1 == t) (map at es ++ rs)
  others [] rs rs' h = h
  others (e ∷ es) rs rs' h = grind (arith, eqb-true, others es rs rs' h)

  last-others : (es : List X) → find (λ (r : K × ℕ). r.1 == t) (map at (filter (λ e. not ((at e).1 == s)) es)) ≡ find (λ (r : K × ℕ). r.1 == t) (map at es)
  last-others es = grind (arith, append-nil, others es [] [])

pub resident-other : {K V : Type 0} (m : Machine K V) (s t : ℕ) → eqb s t ≡ false → resident_at (vacated s m) t ≡ resident_at m t
resident-other {K} m s t differ = others (λ (e : SmallEntry K). (e.key, e.slot)) s t differ m.small _ _ (last-others (λ (e : MainEntry K). (e.key, e.slot)) s t differ m.main)

module _ {F K V : Type 0} (g : Mut F (Bor K × (Bor V × Unit {0})) Bool) where
  module _ (I : F → Type 0) (values : List V)
      (takes : (f : F) (key : Bor K) (value : Bor V) (slot : ℕ) → I f → slice_get values slot ≡ Some value.now → Takes g f (key, (value, tt)))
      (keeps : (f : F) (key : Bor K) (value : Bor V) (slot : ℕ) (b : Bool) (next : F) → I f → slice_get values slot ≡ Some value.now → Called g f (key, (value, tt)) b next → I next) where
    in_turn_by : (rs : List (K × ℕ)) (f : F) → I f → TakesResidents g values f rs
    in_turn_by [] f i = tt
    in_turn_by (r ∷ rs) f i = λ key value shows there. (takes f key value r.1 i there, λ b next called. in_turn_by rs next (keeps f key value r.1 b next i there called))

  -- if what a closure needs lasts through its calls, it may be called for each resident
  pub asked_by : (I : F → Type 0) (m : Machine K V) (takes : (f : F) (key : Bor K) (value : Bor V) (slot : ℕ) → I f → slice_get m.values slot ≡ Some value.now → Takes g f (key, (value, tt)))
      (keeps : (f : F) (key : Bor K) (value : Bor V) (slot : ℕ) (b : Bool) (next : F) → I f → slice_get m.values slot ≡ Some value.now → Called g f (key, (value, tt)) b next → I next)
      (f : F) → I f → MayBeAsked g f m
  asked_by I m takes keeps f i = record { in_turn = in_turn_by I m.values takes keeps _ f i }

  -- and so may a closure that may always be called
  pub asked_always : (m : Machine K V) (f : F) → always_mut g f → MayBeAsked g f m
  asked_always m f always = asked_by (always_mut g) m (λ f key value slot may there. (may.at ((key, (value, tt)) ∷ [])).0)
      (λ f key value slot b next may there called. mut_next g f (key, (value, tt)) b next next called refl may) f always

  -- a closure that returns what a test does, as long as what it needs lasts, keeps the residents that pass the test
  module _ (I : F → Type 0) (m : Machine K V) (test : K × ℕ → Bool)
      (says : (f : F) (key : Bor K) (value : Bor V) (r : K × ℕ) (b : Bool) (next : F) → I f → key.now ≡ r.0
      → slice_get m.values r.1 ≡ Some value.now → Called g f (key, (value, tt)) b next → (b ≡ test r) × I next) where
    bits_of : (bits : List Bool) (rs : List (K × ℕ)) (f last : F) → length bits ≡ length rs → I f → ReturnsInTurn (AsksResident g m.values) f bits rs last → bits ≡ map test rs
    bits_of [] [] f last many i asked = refl
    bits_of [] (r ∷ rs) f last many i asked = absurd (omega (arith, many))
    bits_of (b ∷ bits) [] f last many i asked = absurd (omega (arith, many))
    bits_of (b ∷ bits) (r ∷ rs) f last many i asked =
        grind (arith, says f asked.1.key asked.1.value r b asked.0 i asked.1.shows.0 asked.1.shows.1 asked.1.called, bits_of bits rs asked.0 last)

    pub retained_by : (f : F) (new : Machine K V) → I f → Retains g f m new → new ≡ retained (map test (by_slot m)) m
    retained_by f new i r = r.becomes ∙ ap (λ bits. retained bits m) (bits_of r.bits (by_slot m) f r.last r.as_many i r.asked)

module _ {K V : Type 0} (old : Machine K V) where
  -- the residents at the slots below
  abbrev pub below : ℕ → List (K × ℕ)
  below n = filter_map (resident_at old) (range_with_len 0 n)

  pub below-more : (n : ℕ) (o : Option (K × ℕ)) → resident_at old n ≡ o → below (n + 1) ≡ below n ++ cons_option o []
  below-more n o at = grind (arith, range-last 0 n, filter_map-append)

module _ {F K V : Type 0} (g : Mut F (Bor K × (Bor V × Unit {0})) Bool) (f : F) (old : Machine K V) where
  -- the residents at this slot and above
  abbrev pub above : ℕ → List (K × ℕ)
  above n = filter_map (resident_at old) (range_with_len n (length old.values - n))

  above-more : (n : ℕ) (o : Option (K × ℕ)) → n < length old.values → resident_at old n ≡ o → above n ≡ cons_option o (above (n + 1))
  above-more n o made at = grind arith

  -- the closure was called for these, and those that it refused left
  pub record RetainsOver (rs : List (K × ℕ)) (f' : F) (now : Machine K V) : Type 0 where
    pub bits : List Bool
    pub as_many : length bits ≡ length rs
    pub asked : ReturnsInTurn (AsksResident g old.values) f bits rs f'
    pub becomes : now ≡ vacated_all (refused_slots bits (map (λ r. r.1) rs)) old

  over-more : (rs : List (K × ℕ)) (f' : F) (now : Machine K V) (r : K × ℕ) (b : Bool) (last : F) → RetainsOver rs f' now
      → AsksResident g old.values f' r b last → RetainsOver (rs ++ r ∷ []) last (cond b now (vacated r.1 now))
  over-more rs f' now r b last h asks =
      let slots = map (λ (r : K × ℕ). r.1) rs in
      let more = refused-more h.bits slots b r.1 (h.as_many ∙ sym (length-map rs (λ (r : K × ℕ). r.1))) in
      record {
        bits = h.bits ++ b ∷ [];
        as_many = omega (arith, h.as_many, length-append h.bits (b ∷ []), length-append rs (r ∷ []));
        asked = returns-more (AsksResident g old.values) f h.bits rs f' b r last h.as_many h.asked asks;
        becomes = grind (arith, h.becomes, map-append (λ (r : K × ℕ). r.1) rs (r ∷ []), more, fold-append (λ state slot. vacated slot state) old (refused_slots h.bits slots));
      }

  -- the closure was called for the residents below, and nothing else changed
  pub record RetainsBelow (n : ℕ) (f' : F) (now : Machine K V) : Type 0 where
    pub over : RetainsOver (below old n) f' now
    pub later : (t : ℕ) → n ≤ t → resident_at now t ≡ resident_at old t
    pub values : now.values ≡ old.values
    pub callable : TakesResidents g old.values f' (above n)

  pub retains-none : MayBeAsked g f old → RetainsBelow 0 f old
  retains-none may = grind (arith, may.in_turn)

  module _ (n : ℕ) (f' : F) (now : Machine K V) (h : RetainsBelow n f' now) (made : n < length old.values) where
    -- there is no resident
    pub retains-past : resident_at now n ≡ None → RetainsBelow (n + 1) f' now
    retains-past none =
        let here : resident_at old n ≡ None = grind (arith, h.later) in
        record {
          callable = rw (← above-more n None made here) h.callable;
          over = rw (below-more old n None here, append-nil (below old n)) h.over;
          later = λ t le. h.later t (omega (arith, le));
          values = h.values;
        }

    module _ (key : Bor K) (value : Bor V) (here : resident_at now n ≡ Some (key.now, n)) (shown : slice_get now.values n ≡ Some value.now) where
      turn : TakesResidents g old.values f' ((key.now, n) ∷ above (n + 1))
      turn = subst (λ rs. TakesResidents g old.values f' rs) (above-more n (Some (key.now, n)) made (sym (h.later n (omega arith)) ∙ here)) h.callable

      there : slice_get old.values n ≡ Some value.now
      there = subst (λ z. slice_get z n ≡ Some value.now) h.values shown

      -- the closure may be called for this one
      pub retains-asks : Takes g f' (key, (value, tt))
      retains-asks = (turn key value refl there).0

      module _ (last : F) where
        asks : (b : Bool) → Called g f' (key, (value, tt)) b last → AsksResident g old.values f' (key.now, n) b last
        asks b called = record { key = key; value = value; shows = (refl, there); called = called }

        among : below old (n + 1) ≡ below old n ++ (key.now, n) ∷ []
        among = below-more old n (Some (key.now, n)) (sym (h.later n (omega arith)) ∙ here)

        -- the resident stays
        pub retains-kept : Called g f' (key, (value, tt)) true last → RetainsBelow (n + 1) last now
        retains-kept called =
            grind (arith, (turn key value refl there).1 true last called, h, among, over-more (below old n) f' now (key.now, n) true last h.over (asks true called))

        -- the resident leaves
        pub retains-refused : Called g f' (key, (value, tt)) false last → RetainsBelow (n + 1) last (vacated n now)
        retains-refused called =
            grind (arith, (turn key value refl there).1 false last called, h, among, over-more (below old n) f' now (key.now, n) false last h.over (asks false called), resident-other now n, ne_eqb)

  -- the closure was called for all
  pub retains-all : (n : ℕ) (f' : F) (now : Machine K V) → n ≡ length old.values → RetainsBelow n f' now → Retains g f old now
  retains-all n f' now all h = grind (arith, h)

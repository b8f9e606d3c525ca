-- Lists of entries by slot: their slots, and how they change when a slot leaves or is hit.
use Rattle.clock2q_queues.proofs.Names.{◌≡◌, ℕ, suc, ◌-◌, Bool, true, false, not, cond, eqb, Some, None, slice_get, List, [], ◌∷◌, ◌++◌, length, map, take, drop, inl, inr, refl, sym, ap, ◌∙◌, subst}
use Rattle.clock2q_queues.proofs.Names.{arith, filter, last_or, list_any, IsDistinct, eq-eqb, cases_Bool, map-append, take-append-drop, list_any-append, set_front, from_victim}
use Rattle.clock2q_queues.proofs.Names.{slots_of, without_slot, without, eqb_self, eqb_swap, among_first, among_later, differs, distinct_first, distinct_rest, or_left, or_neither}
use Rattle.clock2q_queues.proofs.Names.{or_parts}
use Rattle.clock2q_machine.proofs.Whole.{last_some}

-- Slots of entries

-- the slots of a queue's entries are its slots
pub slots_of-entries : {X : Type 0} (f : ℕ → X) (ss : List ℕ) → slots_of (map {B = ℕ × X} (λ s. (s, f s)) ss) ≡ ss
slots_of-entries f [] = refl
slots_of-entries f (s ∷ ss) = ap (λ zs. s ∷ zs) (slots_of-entries f ss)

pub slots_of-mapped : {X : Type 0} (h : X → X) (es : List (ℕ × X)) → slots_of (map {B = ℕ × X} (λ (e : ℕ × X). (e.0, h e.1)) es) ≡ slots_of es
slots_of-mapped h [] = refl
slots_of-mapped h (e ∷ es) = ap (λ zs. e.0 ∷ zs) (slots_of-mapped h es)

pub slots_of-append : {X : Type 0} (es fs : List (ℕ × X)) → slots_of (es ++ fs) ≡ slots_of es ++ slots_of fs
slots_of-append es fs = map-append (λ e. e.0) es fs

pub slots_of-filter : {X : Type 0} (slot : ℕ) (es : List (ℕ × X)) → slots_of (filter (λ (e : ℕ × X). not (eqb e.0 slot)) es) ≡ without slot (slots_of es)
slots_of-filter slot [] = refl
slots_of-filter slot (e ∷ es) = elim (cases_Bool (eqb e.0 slot)) [
  | inl q ↦ rw q (slots_of-filter slot es)
  | inr q ↦ rw q (ap (λ zs. e.0 ∷ zs) (slots_of-filter slot es))
]

pub slots_of-hit : {X : Type 0} (h : X → X) (slot : ℕ) (es : List (ℕ × X)) → slots_of (map {B = ℕ × X} (λ (e : ℕ × X). cond (eqb e.0 slot) (e.0, h e.1) e) es) ≡ slots_of es
slots_of-hit h slot [] = refl
slots_of-hit h slot (e ∷ es) = elim (cases_Bool (eqb e.0 slot)) [
  | inl q ↦ rw q (ap (λ zs. e.0 ∷ zs) (slots_of-hit h slot es))
  | inr q ↦ rw q (ap (λ zs. e.0 ∷ zs) (slots_of-hit h slot es))
]

-- the hand's choice keeps Main's slots
pub members-chosen : (es : List (ℕ × Bool)) (t : ℕ) → list_any (eqb t) (slots_of (from_victim es)) ≡ false → list_any (eqb t) (slots_of es) ≡ false
members-chosen es t h =
    let front = take (set_front es) es in
    let rest = drop (set_front es) es in
    let p = or_parts (list_any (eqb t) (slots_of rest)) (list_any (eqb t) (slots_of front))
    (sym (ap (λ z. list_any (eqb t) z) (slots_of-append rest (map (λ e. (e.0, false)) front))
    ∙ ap (λ z. list_any (eqb t) (slots_of rest ++ z)) (slots_of-mapped (λ b. false) front) ∙ list_any-append (eqb t) (slots_of rest) (slots_of front)) ∙ h) in
    sym (ap (λ z. list_any (eqb t) (slots_of z)) (take-append-drop (set_front es) es)) ∙ ap (λ z. list_any (eqb t) z) (slots_of-append front rest)
    ∙ list_any-append (eqb t) (slots_of front) (slots_of rest) ∙ or_neither (list_any (eqb t) (slots_of front)) (list_any (eqb t) (slots_of rest)) p.1 p.0

-- A slot that isn't there

pub without_slot-absent : {X : Type 0} (slot : ℕ) (es : List (ℕ × X)) → list_any (eqb slot) (slots_of es) ≡ false → es ≡ without_slot slot es
without_slot-absent slot [] h = refl
without_slot-absent slot (e ∷ es) h =
    let d : eqb e.0 slot ≡ false = eqb_swap slot e.0 (or_parts (eqb slot e.0) (list_any (eqb slot) (slots_of es)) h).0 in
    rw d (ap (λ zs. e ∷ zs) (without_slot-absent slot es (or_parts (eqb slot e.0) (list_any (eqb slot) (slots_of es)) h).1))

-- The last entry

last_in : (ss : List ℕ) (s x : ℕ) → last_or None (s ∷ ss) ≡ Some x → list_any (eqb x) (s ∷ ss) ≡ true
last_in [] s x e = let q : x ≡ s = cc in or_left (eqb x s) false (eq-eqb x s q)
last_in (t ∷ ss) s x e = among_later x s (t ∷ ss) (last_in ss t x e)

pub tail_among : (ss : List ℕ) (x : ℕ) → last_or None ss ≡ Some x → list_any (eqb x) ss ≡ true
tail_among [] x e = absurd (cc)
tail_among (s ∷ ss) x e = last_in ss s x e

last-entry : {X : Type 0} (f : ℕ → X) (ss : List ℕ) (s x : ℕ) → last_or None (s ∷ ss) ≡ Some x → last_or None (map {B = ℕ × X} (λ t. (t, f t)) (s ∷ ss)) ≡ Some (x, f x)
last-entry f [] s x e = let q : s ≡ x = cc in ap (λ z. Some (z, f z)) q
last-entry f (t ∷ ss) s x e = last-entry f ss t x e

pub tail_entry : {X : Type 0} (f : ℕ → X) (ss : List ℕ) (x : ℕ) → last_or None ss ≡ Some x → last_or None (map {B = ℕ × X} (λ t. (t, f t)) ss) ≡ Some (x, f x)
tail_entry f [] x e = absurd (cc)
tail_entry f (s ∷ ss) x e = last-entry f ss s x e

-- The first entry leaves, or the last

module _ {X : Type 0} where
  -- the first entry leaves
  pub first_out : (s : ℕ) (x : X) (es : List (ℕ × X)) → slice_get es 0 ≡ Some (s, x) → IsDistinct eqb (slots_of es) → (list_any (eqb s) (slots_of es) ≡ true) × (without_slot s es ≡ drop 1 es)
  first_out s x [] h a = absurd (cc)
  first_out s x (e ∷ es) h a =
      let q : s ≡ e.0 = named e h in (
        subst (λ z. list_any (eqb z) (e.0 ∷ slots_of es) ≡ true) (sym q) (among_first e.0 (slots_of es)),
        subst (λ z. without_slot z (e ∷ es) ≡ es) (sym q) (rw (eqb_self e.0) (sym (without_slot-absent e.0 es (distinct_first eqb e.0 (slots_of es) a)))),
      )
    where
      named : (e : ℕ × X) → Some e ≡ Some (s, x) → s ≡ e.0
      named e h = let k : e ≡ (s, x) = cc in sym (ap (λ (z : ℕ × X). z.0) k)

  -- the last entry leaves
  pub last_out : (s : ℕ) (es : List (ℕ × X)) → last_or None (slots_of es) ≡ Some s → IsDistinct eqb (slots_of es) → (list_any (eqb s) (slots_of es) ≡ true) × (without_slot s es ≡ take (length es - 1) es)
  last_out s [] h a = absurd (cc)
  last_out s (e ∷ []) h a =
      let q : s ≡ e.0 = same e.0 h in (
        subst (λ z. list_any (eqb z) (e.0 ∷ []) ≡ true) (sym q) (among_first e.0 []),
        subst (λ z. without_slot z (e ∷ []) ≡ []) (sym q) (rw (eqb_self e.0) refl),
      )
    where
      same : (t : ℕ) → Some t ≡ Some s → s ≡ t
      same t h = cc
  last_out s (e ∷ f ∷ es) h a =
      let r = last_out s (f ∷ es) h (distinct_rest eqb e.0 (slots_of (f ∷ es)) a) in
      let d : eqb e.0 s ≡ false = eqb_swap s e.0 (differs s e.0 (slots_of (f ∷ es)) r.0 (distinct_first eqb e.0 (slots_of (f ∷ es)) a)) in
      let n : length (e ∷ f ∷ es) - 1 ≡ suc (length (f ∷ es) - 1) = omega arith in
      (among_later s e.0 (slots_of (f ∷ es)) r.0, rw (d, n) (ap (λ zs. e ∷ zs) r.1))

  -- there is no last entry
  pub none_last : (es : List (ℕ × X)) → last_or None (slots_of es) ≡ None → es ≡ take (length es - 1) es
  none_last [] h = refl
  none_last (e ∷ es) h = let l = last_some (slots_of es) e.0 in absurd (none_some l.0 (sym h ∙ l.1))
    where
      none_some : (x : ℕ) → None ≡ Some x → ⊥
      none_some x e = cc

-- What a lookup among residents and remembered keys finds, and how many comparisons it makes.
use Rattle.clock2q_directory.proofs.Names.{◌≡◌, ℕ, ◌+◌, ◌-◌, ◌<◌, ◌≤◌, Bool, true, false, ltb, Option, Some, None, slice_get, List, [], ◌∷◌, drop, length, map, inl, inr, refl, sym, ap, ◌∙◌, subst, arith, IfSome, find, AllByRecursion, IsEquivalence, cases_Bool, lt-ltb, le-ltb, ltb-true, ltb-false, Handle, Found, candidates, GapValue, IndexState, IsGapFor, first_remembered, unpacked, is_shared, slots_among, places_among, Rises, PlaceOrder, KeyPlaces, entries_of, is_key_at, comparisons_of, HasHash, IsHistory, place_of, found_slot, found_place, found_gap, first_known}
use Rattle.clock2q_directory.specs.Index as known
use Rattle.clock2q_directory.proofs.Indexes.{candidates_there}
use Rattle.clock2q_directory.proofs.Lookups.{Compared, begins_with, comparisons-within}
use Rattle.clock2q_directory.proofs.Views.{candidates-slots, candidates-places, candidates-own}
use Rattle.clock2q_directory.proofs.Forgetting.{placed}

module _ (h : ℕ) (hs : List ℕ) where
  pub slots-first : h < first_remembered → slots_among (h ∷ hs) ≡ h ∷ slots_among hs
  slots-first l = rw (lt-ltb h first_remembered l) refl

  slots-passed : first_remembered ≤ h → slots_among (h ∷ hs) ≡ slots_among hs
  slots-passed l = rw (le-ltb h first_remembered l) refl

  places-first : first_remembered ≤ h → places_among (h ∷ hs) ≡ (h - first_remembered) ∷ places_among hs
  places-first l = rw (le-ltb h first_remembered l) refl

  places-passed : h < first_remembered → places_among (h ∷ hs) ≡ places_among hs
  places-passed l = rw (lt-ltb h first_remembered l) refl

-- what a stored number says is below every place's number, or from the first on
pub says-slot : {h s : ℕ} → Handle.Resident s ≡ unpacked h → (h ≡ s) × (h < first_remembered)
says-slot {h} {s} e = grind (arith, ltb-true)

pub says-place : {h p : ℕ} → Handle.Remembered p ≡ unpacked h → (h - first_remembered ≡ p) × (first_remembered ≤ h)
says-place {h} {p} e = grind (arith, ltb-false)

-- if the next handle is a slot's, that slot is the next among the slots
pub next-slot : {h s : ℕ} (handles : List ℕ) → Some h ≡ slice_get handles 0 → Handle.Resident s ≡ unpacked h → slots_among handles ≡ s ∷ slots_among (drop 1 handles)
next-slot {h} {s} handles is says = grind (arith, says-slot, begins_with, slots-first)

-- it is the next to be compared
pub compared-slot : {test : ℕ → Bool} {n bound : ℕ} {all : List ℕ} {compared : ℕ} (handles : List ℕ) {h s : ℕ} → Compared test n bound all compared (slots_among handles)
    → Some h ≡ slice_get handles 0 → Handle.Resident s ≡ unpacked h → Compared test n bound all compared (s ∷ slots_among (drop 1 handles))
compared-slot {test} {n} {bound} {all} {compared} handles a is says = subst (λ z. Compared test n bound all compared z) (next-slot handles is says) a

-- if all are slots, none is skipped
pub slots-all : (hs : List ℕ) → AllByRecursion (λ h. h < first_remembered) hs → slots_among hs ≡ hs
slots-all [] a = refl
slots-all (h ∷ hs) a = slots-first h hs a.0 ∙ ap (λ zs. h ∷ zs) (slots-all hs a.1)

-- the first that is found, of each kind, or the gap where the handles end
pub record IsFirst (resident remembered_key : ℕ → Bool) (end : Option GapValue) (hs : List ℕ) (r : Found) : Type 0 where
  pub slot : IfSome (found_slot r) (λ s. find resident (slots_among hs) ≡ Some s)
  pub place : found_slot r ≡ None → found_place r ≡ find remembered_key (places_among hs)
  pub absent : found_slot r ≡ None → found_place r ≡ None → find resident (slots_among hs) ≡ None
  pub ended : found_slot r ≡ None → found_place r ≡ None → found_gap r ≡ end

pub some-not : {X : Type 0} {x : X} → Some x ≡ None → ⊥
some-not e = absurd (cc)

-- a gap that is found is the end
pub end-found : (r : Found) {end : Option GapValue} {gap : GapValue} → end ≡ Some gap → (found_slot r ≡ None → found_place r ≡ None → found_gap r ≡ end)
    → IfSome (found_gap r) (λ g. g ≡ gap)
end-found (Found.Resident slot) is ended = tt
end-found (Found.Remembered place) is ended = tt
end-found (Found.Absent None) is ended = tt
end-found (Found.Absent (Some g)) is ended = let same = ended refl refl in cc

-- the gap of a lookup that found nothing is also that of one that looked further
pub further-gap : (hash : ℕ) (v : IndexState) (o : Option GapValue) (r : Found) → IsGapFor o hash v → (found_place r ≡ None → found_gap r ≡ o) → IsGapFor (found_gap r) hash v
further-gap hash v o (Found.Resident slot) gap same = tt
further-gap hash v o (Found.Remembered place) gap same = tt
further-gap hash v o (Found.Absent gap') gap same = subst (λ z. IsGapFor z hash v) (sym (same refl)) gap

-- what is found among no places is a slot, or nothing
pub no-place-found : {resident remembered_key : ℕ → Bool} {end : Option GapValue} {hs : List ℕ} (r : Found) → IsFirst resident remembered_key end hs r → places_among hs ≡ []
    → ((o : Option GapValue) → r ≡ Found.Absent o → ⊥) → found_slot r ≡ None → ⊥
no-place-found (Found.Resident slot) f none found n = some-not n
no-place-found {remembered_key = b} (Found.Remembered place) f none found n = some-not (f.place n ∙ ap (λ z. find b z) none)
no-place-found (Found.Absent o) f none found n = found o refl

module _ (a b : ℕ → Bool) (end : Option GapValue) where
  pub first-known : (hs : List ℕ) → IsFirst a b end hs (first_known a b end hs)
  first-known [] = record { slot = tt; place = λ _. refl; absent = λ _ _. refl; ended = λ _ _. refl }
  first-known (h ∷ hs) =
      let r = first-known hs in
      elim (cases_Bool (ltb h first_remembered)) [
        | inl l ↦
            let below = ltb-true h first_remembered l in
            let slots_are = slots-first h hs below in
            let places_are = places-passed h hs below in
            elim (cases_Bool (a h)) [
              | inl q ↦
                  let is : first_known a b end (h ∷ hs) ≡ Found.Resident h = rw (l, q) refl in
                  rw is (record { slot = ap (λ z. find a z) slots_are ∙ rw q refl; place = λ n. absurd (cc); absent = λ n. absurd (cc); ended = λ n. absurd (cc) })
              | inr q ↦
                  let is : first_known a b end (h ∷ hs) ≡ first_known a b end hs = rw (l, q) refl in
                  let same : find a (slots_among (h ∷ hs)) ≡ find a (slots_among hs) = ap (λ z. find a z) slots_are ∙ rw q refl in
                  rw is (record { slot = rw same r.slot; place = λ n. r.place n ∙ ap (λ z. find b z) (sym places_are); absent = λ n m. same ∙ r.absent n m; ended = r.ended })
            ]
        | inr l ↦
            let past = ltb-false h first_remembered l in
            let slots_are = slots-passed h hs past in
            let places_are = places-first h hs past in
            elim (cases_Bool (b (h - first_remembered))) [
              | inl q ↦
                  let is : first_known a b end (h ∷ hs) ≡ Found.Remembered (h - first_remembered) = rw (l, q) refl in
                  rw is (record { slot = tt; place = λ n. sym (ap (λ z. find b z) places_are ∙ rw q refl); absent = λ n m. absurd (cc); ended = λ n m. absurd (cc) })
              | inr q ↦
                  let is : first_known a b end (h ∷ hs) ≡ first_known a b end hs = rw (l, q) refl in
                  let same : find b (places_among (h ∷ hs)) ≡ find b (places_among hs) = ap (λ z. find b z) places_are ∙ rw q refl in
                  rw is (record { slot = rw (ap (λ z. find a z) slots_are) r.slot; place = λ n. r.place n ∙ sym same; absent = λ n m. ap (λ z. find a z) slots_are ∙ r.absent n m; ended = r.ended })
            ]
      ]

  -- none of the handles so far has the key, and no more were compared than there are
  pub record LooksOn (all left : List ℕ) (slot_bound place_bound compared compared_now comparisons comparisons_now : ℕ) : Type 0 where
    pub first : first_known a b end all ≡ first_known a b end left
    pub slots : AllByRecursion (λ s. s < slot_bound) (slots_among left)
    pub places : AllByRecursion (λ p. p < place_bound) (places_among left)
    pub compared_from : compared ≤ compared_now
    pub compared_most : compared_now + length (slots_among left) ≤ compared + length (slots_among all)
    pub comparisons_from : comparisons ≤ comparisons_now
    pub comparisons_most : comparisons_now + length (places_among left) ≤ comparisons + length (places_among all)

  -- the next handle and the others
  pub looks-next : {all left : List ℕ} {h n m p p' q q' : ℕ} → LooksOn all left n m p p' q q' → Some h ≡ slice_get left 0 → LooksOn all (h ∷ drop 1 left) n m p p' q q'
  looks-next {all} {left} {h} {n} {m} {p} {p'} {q} {q'} on is = subst (λ z. LooksOn all z n m p p' q q') (begins_with is) on

  module _ {all left : List ℕ} {h n m p p' q q' : ℕ} (on : LooksOn all (h ∷ left) n m p p' q q') where
    module _ {s : ℕ} (says : Handle.Resident s ≡ unpacked h) where
      slots_are : slots_among (h ∷ left) ≡ s ∷ slots_among left
      slots_are = next-slot (h ∷ left) refl says

      pub resident-there : s < n
      resident-there = (subst (λ z. AllByRecursion (λ s. s < n) z) slots_are on.slots).0

      pub resident-found : true ≡ a s → (Found.Resident s ≡ first_known a b end all) × (p' + 1 ≤ p + length (slots_among all)) × (q' ≤ q + length (places_among all))
      resident-found it = grind (arith, says-slot, lt-ltb, slots_are)

    module _ {t : ℕ} (says : Handle.Remembered t ≡ unpacked h) where
      places_still : places_among (h ∷ left) ≡ t ∷ places_among left
      places_still = let q = says-place says in places-first h left q.1 ∙ ap (λ z. z ∷ places_among left) q.0

      pub place-there : t < m
      place-there = (subst (λ z. AllByRecursion (λ s. s < m) z) places_still on.places).0

      pub place-found : true ≡ b t → (Found.Remembered t ≡ first_known a b end all) × (p' ≤ p + length (slots_among all)) × (q' + 1 ≤ q + length (places_among all))
      place-found it = grind (arith, says-place, le-ltb, places_still)

-- the slots that a lookup in the table of the slots finds
pub slots-read : (index : IndexState) (x : ℕ) {handles : List ℕ} → handles ≡ candidates index.shared x → slots_among handles ≡ candidates (known.slots index) x
slots-read index x at = ap slots_among at ∙ sym (candidates-slots index x)

-- a key that was searched for among the places under its hash
pub searched : {K V : Type 0} {eq : K → K → Bool} (laws : IsEquivalence eq) (hash : ℕ) (key : K) {index : IndexState} {order : PlaceOrder} {keys : KeyPlaces K V} → IsHistory eq index order keys
    → HasHash eq hash key (entries_of keys.entries order.places) → {among : List ℕ} {found : Option ℕ} {comparisons : ℕ} → among ≡ candidates (known.places index) hash
    → found ≡ find (is_key_at eq key keys.entries) among → comparisons ≡ keys.comparisons + comparisons_of (is_key_at eq key keys.entries) among
    → (found ≡ place_of (eq key) (map (λ (e : ℕ × K). e.1) (entries_of keys.entries order.places)) order.places) × Rises 0 (length (candidates (known.places index) hash)) keys.comparisons comparisons
searched {eq = eq} laws hash key {keys = keys} h hashed among is counted =
    let most = comparisons-within (is_key_at eq key keys.entries) _ among refl in
    (is ∙ ap (λ z. find (is_key_at eq key keys.entries) z) among ∙ sym (placed laws hash key h hashed), (omega (arith, counted), omega (arith, counted, most)))

-- what a history's index has under a hash
module _ {K V : Type 0} {eq : K → K → Bool} {index : IndexState} {order : PlaceOrder} {keys : KeyPlaces K V} (h : IsHistory eq index order keys) (x : ℕ) where
  places_there : AllByRecursion (λ p. p < length keys.entries) (candidates (known.places index) x)
  places_there = candidates_there (known.places index) keys.entries order.places x h.indexed

  pub shared-places : is_shared index ≡ true → AllByRecursion (λ p. p < length keys.entries) (places_among (candidates index.shared x))
  shared-places shared = subst (λ z. AllByRecursion (λ p. p < length keys.entries) z) (candidates-places index x shared) places_there

  -- places in a table of their own are all below the first handle of a remembered key
  pub own-places : is_shared index ≡ false → slots_among (candidates index.own x) ≡ candidates (known.places index) x
  own-places own =
      let bound : length keys.entries ≤ first_remembered = omega (arith, h.as_many, h.whole.within, h.short) in
      ap slots_among (sym (candidates-own index x own)) ∙ slots-all (candidates (known.places index) x) (all_below (candidates (known.places index) x) (length keys.entries) bound places_there)
    where
      all_below : (ps : List ℕ) (n : ℕ) → n ≤ first_remembered → AllByRecursion (λ p. p < n) ps → AllByRecursion (λ p. p < first_remembered) ps
      all_below [] n l a = tt
      all_below (p ∷ ps) n l a = (omega (arith, a.0, l), all_below ps n l a.1)

  pub own-there : is_shared index ≡ false → AllByRecursion (λ p. p < length keys.entries) (slots_among (candidates index.own x))
  own-there own = subst (λ z. AllByRecursion (λ p. p < length keys.entries) z) (sym (own-places own)) places_there

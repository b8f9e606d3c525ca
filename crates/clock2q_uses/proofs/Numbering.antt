-- Keys in a list, whose places are in a table: each under its key, once.
use Rattle.std.proofs.Common.{◌≡◌, ◌≢◌, ◌⊎◌, ℕ, zero, suc, ◌<◌, inl, inr, refl, ap, sym, ◌∙◌, subst, arith, Bool, true, false, eqb, List, [], ◌∷◌, ◌++◌, length, length-append, Option, Some, None, Result, Ok, Err, slice_get}
use Rattle.std.proofs.lemmas.Option.{slice_get_within, get_or_from_slice_get, slice_get-get_or}
use Rattle.std.proofs.lemmas.Bool.{cases_lt, eqb-true, eqb-false}
use Rattle.std.proofs.lemmas.List.{get_or_append_left}
use Rattle.std.proofs.Math.Seq.{get_or-append_seam}
use Rattle.clock2q_handles.specs.declared.error.TableError.{TableError}
use Rattle.clock2q_handles.specs.declared.error.TableError.TheVariants.{Memory, Size, RunTooLong}
use Rattle.clock2q_handles.specs.Homes.{top, home, candidates, with_handle}
use Rattle.clock2q_handles.specs.TableStep.{IsHashOf, grown}
use Rattle.clock2q_handles.specs.Rehash.{IsHeld}
use Rattle.clock2q_handles.specs.Offers.{Settles}
use Rattle.clock2q_handles.proofs.Hashes.{hashes-put_last}
use Rattle.clock2q_handles.proofs.HashOfHandle.{keyed_grown}
use Rattle.clock2q_handles.proofs.Held.{entry_held, held_entry, entry_kept, entry_new, entry_from, grown_kept, grown_from, candidate_held, held_candidate}
use Rattle.clock2q_handles.proofs.Offering.{IsFound}
use Rattle.clock2q_uses.specs.Interning.{spread, key_at, IsInterned}

-- the hash of the key at a place
abbrev pub hash_at : List ℕ → ℕ → ℕ
hash_at keys at = spread (key_at keys at)

interned_grown : (keys : List ℕ) (homes : List (List (ℕ × ℕ))) → IsInterned keys homes → IsInterned keys (grown (hash_at keys) homes)
interned_grown keys homes is = (
  (keyed_grown (hash_at keys) homes is.0).1,
  λ at. ((λ held. (is.1 at).0 (grown_from (hash_at keys) homes at held)), (λ l. grown_kept (hash_at keys) homes at ((is.1 at).1 l))),
  is.2,
)

module _ (keys : List ℕ) (homes : List (List (ℕ × ℕ))) (key : ℕ) (some : 0 < length homes) (is : IsInterned keys homes) (new : (at : ℕ) → at < length keys → key_at keys at ≢ key) where
  abbrev more : List ℕ
  more = keys ++ key ∷ []

  more_long : length more ≡ suc (length keys)
  more_long = omega (arith, length-append keys (key ∷ []))

  more_old : (at : ℕ) → at < length keys → key_at more at ≡ key_at keys at
  more_old at l = get_or_append_left keys (key ∷ []) 0 at l

  more_new : key_at more (length keys) ≡ key
  more_new = get_or-append_seam keys key [] 0

  hashes_still : IsHashOf (hash_at more) homes
  hashes_still h i e l at =
      let same : key_at more e.1 ≡ key_at keys e.1 = more_old e.1 ((is.1 e.1).0 (h, i, e, at, refl)) in
      subst (λ x. (home homes (spread x) ≡ h) × (top (spread x) ≡ e.0)) (sym same) (is.0 h i e l at)

  abbrev now : List (List (ℕ × ℕ))
  now = with_handle homes (spread key) (length keys)

  held_now : (at : ℕ) → IsHeld now at → at < length more
  held_now at held =
      let e = held_entry now at held in
      elim (entry_from homes (spread key) (top (spread key), length keys) e.0 some e.1) [
        | inl old ↦ omega (arith, more_long, (is.1 at).0 (entry_held homes e.0 at e.2 old))
        | inr one ↦ omega (arith, more_long, e.2, ap (λ (f : ℕ × ℕ). f.1) one)
      ]

  now_held : (at : ℕ) → at < length more → IsHeld now at
  now_held at l = elim (cases_lt at (length keys)) [
    | inl old ↦
        let e = held_entry homes at ((is.1 at).1 old) in
        entry_held now e.0 at e.2 (entry_kept homes (spread key) (top (spread key), length keys) e.0 some e.1)
    | inr from ↦
        let last : length keys ≡ at = omega (arith, l, from, more_long) in
        entry_held now (top (spread key), length keys) at last (entry_new homes (spread key) (top (spread key), length keys) (top (spread key), length keys) some)
  ]

  apart : (at other : ℕ) → at < length more → other < length more → key_at more at ≡ key_at more other → at ≡ other
  apart at other l m same = elim (cases_lt at (length keys)) [
    | inl old ↦ elim (cases_lt other (length keys)) [
      | inl older ↦ is.2 at other old older (sym (more_old at old) ∙ same ∙ more_old other older)
      | inr from ↦
          let last : other ≡ length keys = omega (arith, m, from, more_long) in
          absurd (new at old (sym (more_old at old) ∙ same ∙ ap (key_at more) last ∙ more_new))
    ]
    | inr from ↦ elim (cases_lt other (length keys)) [
      | inl older ↦
          let last : at ≡ length keys = omega (arith, l, from, more_long) in
          absurd (new other older (sym (more_old other older) ∙ sym same ∙ ap (key_at more) last ∙ more_new))
      | inr past ↦ omega (arith, l, m, from, past, more_long)
    ]
  ]

  interned_more : IsInterned more now
  interned_more = (
    hashes-put_last (hash_at more) homes (spread key) (top (spread key), length keys) some hashes_still (ap (λ k. home homes (spread k)) more_new) (ap (λ k. top (spread k)) more_new),
    λ at. (held_now at, now_held at),
    apart,
  )

-- what a lookup that inserts a missing key leaves
module _ (keys : List ℕ) (homes : List (List (ℕ × ℕ))) (key : ℕ) (is : IsInterned keys homes) where
  abbrev grew : List (List (ℕ × ℕ))
  grew = grown (hash_at keys) homes

  -- if no candidate has the key, no place has it
  none_equal : ((i at : ℕ) → slice_get (candidates grew (spread key)) i ≡ Some at → eqb (key_at keys at) key ≡ false) → (at : ℕ) → at < length keys → key_at keys at ≢ key
  none_equal none at l same =
      let now = interned_grown keys homes is in
      let r = held_candidate (hash_at keys) grew at now.0 ((now.1 at).1 l) in
      let there : slice_get (candidates grew (spread key)) r.0 ≡ Some at = subst (λ x. slice_get (candidates grew (spread x)) r.0 ≡ Some at) same r.1 in
      eqb-false (key_at keys at) key (none r.0 at there) same

  -- the candidates are places of keys
  pub candidate_within : (i at : ℕ) → slice_get (candidates grew (spread key)) i ≡ Some at → at < length keys
  candidate_within i at there = (is.1 at).0 (grown_from (hash_at keys) homes at (candidate_held grew (spread key) i at there))

  pub record IsNumbered (result : Result (ℕ × Bool) TableError) (new : List (List (ℕ × ℕ))) : Type 0 where
    pub old : (number : ℕ) → result ≡ Ok (number, false) → IsInterned keys new × (number < length keys) × (key_at keys number ≡ key)
    pub next : (number : ℕ) → result ≡ Ok (number, true) → IsInterned (keys ++ key ∷ []) new × (number ≡ length keys) × ((at : ℕ) → at < length keys → key_at keys at ≢ key)
    pub refused : (e : TableError) → result ≡ Err e → IsInterned keys new

  pub numbered : (found : Option ℕ) (result : Result (ℕ × Bool) TableError) (new : List (List (ℕ × ℕ))) →
      Settles grew (spread key) (length keys) found result new →
      IsFound (λ at. eqb (key_at keys at) key) (candidates grew (spread key)) found → IsNumbered result new
  numbered (Some c) result new s f = record {
    old = λ number q.
        let pair : (c, false) ≡ (number, false) = cc in
        let one : c ≡ number = ap (λ (p : ℕ × Bool). p.0) pair in
        let held = candidate_held grew (spread key) f.1 c f.2 in (
          subst (IsInterned keys) (sym s.1) (interned_grown keys homes is),
          subst (λ n. n < length keys) one ((is.1 c).0 (grown_from (hash_at keys) homes c held)),
          subst (λ n. key_at keys n ≡ key) one (eqb-true (key_at keys c) key f.0),
        );
    next = λ number q.
        let pair : (c, false) ≡ (number, true) = cc in
        let no_more : false ≡ true = ap (λ (p : ℕ × Bool). p.1) pair in
        absurd (cc);
    refused = λ e q.
        let pair = sym s.0 ∙ q in
        absurd (cc);
  }
  numbered None (Ok r) new s f = record {
    old = λ number q.
        let pair : r ≡ (number, false) = cc in
        let no_more : true ≡ false = ap (λ (p : ℕ × Bool). p.1) (sym s.0 ∙ pair) in
        absurd (cc);
    next = λ number q.
        let pair : r ≡ (number, true) = cc in
        let one : number ≡ length keys = ap (λ (p : ℕ × Bool). p.0) (sym pair ∙ s.0) in
        let none = none_equal f in
        (subst (IsInterned (keys ++ key ∷ [])) (sym s.1) (interned_more keys grew key (keyed_grown (hash_at keys) homes is.0).0 (interned_grown keys homes is) none), one, none);
    refused = λ e q. absurd (cc);
  }
  numbered None (Err e) new s f = record {
    old = λ number q. absurd (cc);
    next = λ number q. absurd (cc);
    refused = λ d q. subst (IsInterned keys) (sym s.1) (interned_grown keys homes is);
  }

  module _ (result : Result (ℕ × Bool) TableError) (new : List (List (ℕ × ℕ))) (granted : result ≢ Err Memory → IsNumbered result new) where
    done : (r : ℕ × Bool) → result ≡ Ok r → IsNumbered result new
    done r q = granted (λ e. let both = sym q ∙ e in absurd (cc))

    -- if the key had a number
    pub old_number : (number : ℕ) (b : Bool) → result ≡ Ok (number, b) → b ≡ false → IsInterned keys new × (number < length keys) × (key_at keys number ≡ key)
    old_number number b q is_old = (done (number, b) q).old number (q ∙ ap (λ x. Ok (number, x)) is_old)

    -- if it got the next one
    pub next_number : (number : ℕ) (b : Bool) → result ≡ Ok (number, b) → b ≡ true → IsInterned (keys ++ key ∷ []) new × (number ≡ length keys) × ((at : ℕ) → at < length keys → key_at keys at ≢ key)
    next_number number b q is_new = (done (number, b) q).next number (q ∙ ap (λ x. Ok (number, x)) is_new)

    -- if it was refused one
    pub no_number : (result ≡ Err Memory → new ≡ homes) → (e : TableError) → result ≡ Err e → IsInterned keys new
    no_number memory Memory q = subst (IsInterned keys) (sym (memory q)) is
    no_number memory Size q = (granted (λ m. let both = sym q ∙ m in absurd (cc))).refused Size q
    no_number memory RunTooLong q = (granted (λ m. let both = sym q ∙ m in absurd (cc))).refused RunTooLong q

-- what is in a list with one more key is an old key or that one
pub last_or_old : (keys : List ℕ) (key number held : ℕ) → slice_get (keys ++ key ∷ []) number ≡ Some held → (slice_get keys number ≡ Some held) ⊎ (held ≡ key)
last_or_old [] key zero held at = inr (cc)
last_or_old [] key (suc number) held at = absurd (cc)
last_or_old (k ∷ keys) key zero held at = inl at
last_or_old (k ∷ keys) key (suc number) held at = last_or_old keys key number held at

-- what a lookup of a key finds
module _ (keys : List ℕ) (homes : List (List (ℕ × ℕ))) (key : ℕ) (is : IsInterned keys homes) where
  abbrev sought : List ℕ
  sought = candidates homes (spread key)

  -- the candidates are places of keys
  pub sought_within : (i at : ℕ) → slice_get sought i ≡ Some at → at < length keys
  sought_within i at there = (is.1 at).0 (candidate_held homes (spread key) i at there)

  -- what it accepts is the key's number
  pub number_found : (number : ℕ) → IsFound (λ at. eqb (key_at keys at) key) sought (Some number) → slice_get keys number ≡ Some key
  number_found number f = slice_get-get_or keys number 0 (sought_within f.1 number f.2) ∙ ap (λ k. Some k) (eqb-true (key_at keys number) key f.0)

  -- if it accepts none, the key has no number
  pub no_number_found : IsFound (λ at. eqb (key_at keys at) key) sought None → (number : ℕ) → slice_get keys number ≢ Some key
  no_number_found f number there =
      let same : key_at keys number ≡ key = get_or_from_slice_get keys number key 0 there in
      let r = held_candidate (hash_at keys) homes number is.0 ((is.1 number).1 (slice_get_within keys number key there)) in
      let yields : slice_get sought r.0 ≡ Some number = subst (λ x. slice_get (candidates homes (spread x)) r.0 ≡ Some number) same r.1 in
      eqb-false (key_at keys number) key (f r.0 number yields) same

-- Different keys, and a table of their numbers that one more is added to.
use Rattle.std.proofs.Common.{◌≡◌, ◌≢◌, ◌⊎◌, ℕ, zero, suc, ◌<◌, ◌^◌, inl, inr, refl, ap, sym, ◌∙◌, subst, arith, Bool, false, nat_eq, List, [], ◌∷◌, ◌++◌, length, length-append}
use Rattle.std.proofs.Common.{get_or, Option, Some, None, Result, Ok, Err, slice_get}
use Rattle.std.specs.Cmp.Lexicographic.{pointwise}
use Rattle.std.specs.Prelude.{IfOk, OnErr}
use Rattle.std.proofs.lemmas.Bool.{cases_lt}
use Rattle.std.proofs.lemmas.List.{get_or_append_left}
use Rattle.std.proofs.lemmas.Option.{slice_get_within, get_or_from_slice_get, slice_get-get_or}
use Rattle.std.proofs.lemmas.Slice.Eq.{bytes_eq-Decides}
use Rattle.std.proofs.Math.Seq.{get_or-append_seam}
use Rattle.clock2q_handles.specs.declared.error.TableError.{TableError}
use Rattle.clock2q_handles.specs.declared.error.TableError.TheVariants.{Memory, Size, RunTooLong}
use Rattle.clock2q_handles.specs.Homes.{top, home, candidates, with_handle}
use Rattle.clock2q_handles.specs.Offers.{Settles}
use Rattle.clock2q_handles.specs.Rehash.{IsHeld}
use Rattle.clock2q_handles.specs.TableStep.{IsHashOf, grown}
use Rattle.clock2q_handles.proofs.Hashes.{hashes-put_last}
use Rattle.clock2q_handles.proofs.HashOfHandle.{keyed_grown}
use Rattle.clock2q_handles.proofs.Held.{entry_held, held_entry, entry_kept, entry_new, entry_from, grown_kept, grown_from, candidate_held, held_candidate}
use Rattle.clock2q_handles.proofs.Offering.{IsFound}
use Rattle.simulator_traces.specs.KnownKeys.{AreApart, HasNumbers, IsNumbered}

-- the key of a number
abbrev pub key_of : List (List ℕ) → ℕ → List ℕ
key_of known number = get_or known number []

-- and its hash
abbrev pub hash_at : (List ℕ → ℕ) → List (List ℕ) → ℕ → ℕ
hash_at hash known number = hash (key_of known number)

-- whether that key is this one
abbrev pub is_key : List (List ℕ) → List ℕ → ℕ → Bool
is_key known key number = pointwise nat_eq (key_of known number) key

-- an element of a list with one more appended is an old one or that one
pub last_or_old : {X : Type 0} (xs : List X) (x held : X) (number : ℕ) → slice_get (xs ++ x ∷ []) number ≡ Some held → (slice_get xs number ≡ Some held) ⊎ ((number ≡ length xs) × (held ≡ x))
last_or_old [] x held zero at = inr (refl, cc)
last_or_old [] x held (suc number) at = absurd (cc)
last_or_old (y ∷ xs) x held zero at = inl at
last_or_old (y ∷ xs) x held (suc number) at = elim (last_or_old xs x held number at) [
  | inl old ↦ inl old
  | inr new ↦ inr (ap suc new.0, new.1)
]

-- a growth of the table
grown_index : (hash : List ℕ → ℕ) (known : List (List ℕ)) (homes : List (List (ℕ × ℕ))) → HasNumbers hash known homes → HasNumbers hash known (grown (hash_at hash known) homes)
grown_index hash known homes is = record {
  hashes = (keyed_grown (hash_at hash known) homes is.hashes).1;
  held = λ at. ((λ held. (is.held at).0 (grown_from (hash_at hash known) homes at held)), (λ l. grown_kept (hash_at hash known) homes at ((is.held at).1 l)));
  apart = is.apart;
}

-- one more key, which equals none of the others
module _ (hash : List ℕ → ℕ) (known : List (List ℕ)) (key : List ℕ) where
  abbrev more : List (List ℕ)
  more = known ++ key ∷ []

  more_long : length more ≡ suc (length known)
  more_long = omega (arith, length-append known (key ∷ []))

  more_old : (at : ℕ) → at < length known → key_of more at ≡ key_of known at
  more_old at l = get_or_append_left known (key ∷ []) [] at l

  more_new : key_of more (length known) ≡ key
  more_new = get_or-append_seam known key [] []

  abbrev IsNew : Type 0
  IsNew = (at : ℕ) → at < length known → key_of known at ≢ key

  not_there : IsNew → (number : ℕ) → slice_get known number ≡ Some key → ⊥
  not_there new number at = new number (slice_get_within known number key at) (get_or_from_slice_get known number key [] at)

  apart_more : AreApart known → length known < 2 ^ 32 → IsNew → AreApart more
  apart_more apart few new = record {
    few = omega (arith, more_long, few);
    apart = λ number other held at there. elim (last_or_old known key held number at) [
      | inl old ↦ elim (last_or_old known key held other there) [
        | inl older ↦ apart.apart number other held old older
        | inr last ↦ absurd (not_there new number (subst (λ k. slice_get known number ≡ Some k) last.1 old))
      ]
      | inr last ↦ elim (last_or_old known key held other there) [
        | inl older ↦ absurd (not_there new other (subst (λ k. slice_get known other ≡ Some k) last.1 older))
        | inr both ↦ last.0 ∙ sym both.0
      ]
    ];
  }

  module _ (homes : List (List (ℕ × ℕ))) (some : 0 < length homes) (is : HasNumbers hash known homes) where
    hashes_still : IsHashOf (hash_at hash more) homes
    hashes_still h i e l at =
        let same : key_of more e.1 ≡ key_of known e.1 = more_old e.1 ((is.held e.1).0 (h, i, e, at, refl)) in
        subst (λ k. (home homes (hash k) ≡ h) × (top (hash k) ≡ e.0)) (sym same) (is.hashes h i e l at)

    abbrev now : List (List (ℕ × ℕ))
    now = with_handle homes (hash key) (length known)

    held_now : (at : ℕ) → IsHeld now at → at < length more
    held_now at held =
        let e = held_entry now at held in
        elim (entry_from homes (hash key) (top (hash key), length known) e.0 some e.1) [
          | inl old ↦ omega (arith, more_long, (is.held at).0 (entry_held homes e.0 at e.2 old))
          | inr one ↦ omega (arith, more_long, e.2, ap (λ (f : ℕ × ℕ). f.1) one)
        ]

    now_held : (at : ℕ) → at < length more → IsHeld now at
    now_held at l = elim (cases_lt at (length known)) [
      | inl old ↦
          let e = held_entry homes at ((is.held at).1 old) in
          entry_held now e.0 at e.2 (entry_kept homes (hash key) (top (hash key), length known) e.0 some e.1)
      | inr from ↦
          let last : length known ≡ at = omega (arith, l, from, more_long) in
          entry_held now (top (hash key), length known) at last (entry_new homes (hash key) (top (hash key), length known) (top (hash key), length known) some)
    ]

    index_more : length known < 2 ^ 32 → IsNew → HasNumbers hash more now
    index_more few new = record {
      hashes =
          hashes-put_last (hash_at hash more) homes (hash key) (top (hash key), length known) some hashes_still
          (ap (λ k. home homes (hash k)) more_new) (ap (λ k. top (hash k)) more_new);
      held = λ at. (held_now at, now_held at);
      apart = apart_more is.apart few new;
    }

-- what a lookup leaves if it inserts a key's number when it finds none
module _ (hash : List ℕ → ℕ) (known : List (List ℕ)) (homes : List (List (ℕ × ℕ))) (key : List ℕ) (is : HasNumbers hash known homes) where
  abbrev grew : List (List (ℕ × ℕ))
  grew = grown (hash_at hash known) homes

  -- the numbers offered are those of keys
  pub offered_within : (i at : ℕ) → slice_get (candidates grew (hash key)) i ≡ Some at → at < length known
  offered_within i at there = (is.held at).0 (grown_from (hash_at hash known) homes at (candidate_held grew (hash key) i at there))

  -- if no candidate has the key, no known key equals it
  none_equal : ((i at : ℕ) → slice_get (candidates grew (hash key)) i ≡ Some at → is_key known key at ≡ false) → (at : ℕ) → at < length known → key_of known at ≢ key
  none_equal none at l same =
      let now = grown_index hash known homes is in
      let r = held_candidate (hash_at hash known) grew at now.hashes ((now.held at).1 l) in
      let there : slice_get (candidates grew (hash key)) r.0 ≡ Some at = subst (λ k. slice_get (candidates grew (hash k)) r.0 ≡ Some at) same r.1 in
      let no = none r.0 at there in
      let yes = (bytes_eq-Decides (key_of known at) key).1 same in
      absurd (cc)

  abbrev pub IsDone : Result (ℕ × Bool) TableError → List (List (ℕ × ℕ)) → Type 0
  IsDone (Ok r) new = IsNumbered hash known key r.0 r.1 new
  IsDone (Err e) new = HasNumbers hash known new

  pub numbered : (found : Option ℕ) (result : Result (ℕ × Bool) TableError) (new : List (List (ℕ × ℕ))) → length known < 2 ^ 32
      → Settles grew (hash key) (length known) found result new → IsFound (is_key known key) (candidates grew (hash key)) found → IsDone result new
  numbered (Some c) result new few s f =
      let held = candidate_held grew (hash key) f.1 c f.2 in
      let within : c < length known = (is.held c).0 (grown_from (hash_at hash known) homes c held) in
      let same : key_of known c ≡ key = (bytes_eq-Decides (key_of known c) key).0 f.0 in
      subst (λ r. IsDone r new) (sym s.0) (slice_get-get_or known c [] within ∙ ap Some same, subst (HasNumbers hash known) (sym s.1) (grown_index hash known homes is))
  numbered None (Ok r) new few s f =
      subst (λ r. IsDone (Ok r) new) (sym s.0) (
        refl,
        subst (HasNumbers hash (known ++ key ∷ [])) (sym s.1)
            (index_more hash known key grew (keyed_grown (hash_at hash known) homes is.hashes).0
            (grown_index hash known homes is) few (none_equal f)),
      )
  numbered None (Err e) new few s f = subst (HasNumbers hash known) (sym s.1) (grown_index hash known homes is)

  -- however the lookup ends
  pub settled : (result : Result (ℕ × Bool) TableError) (new : List (List (ℕ × ℕ))) → (result ≢ Err Memory → IsDone result new) → (result ≡ Err Memory → new ≡ homes)
      → IfOk result (λ found. IsNumbered hash known key found.0 found.1 new) × OnErr result (HasNumbers hash known new)
  settled (Ok r) new known_as memory = (known_as (λ e. absurd (cc)), tt)
  settled (Err Memory) new known_as memory = (tt, subst (HasNumbers hash known) (sym (memory refl)) is)
  settled (Err Size) new known_as memory = (tt, known_as (λ e. absurd (cc)))
  settled (Err RunTooLong) new known_as memory = (tt, known_as (λ e. absurd (cc)))

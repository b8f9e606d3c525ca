-- The results of a table's calls, as replies to commands.
use Rattle.std.proofs.Common.{◌≡◌, ◌≢◌, ℕ, Bool, true, false, cond, List, [], ◌∷◌, Option, Some, None, Result, Ok, Err, refl, sym, ap, ◌∙◌, subst}
use Rattle.std.specs.Prelude.{MatchBool, OnOk, OnErr}
use Rattle.std.specs.Fn.{Called, Mut}
use Rattle.std.specs.List.{find}
use Rattle.std.specs.Iterator.{DrainsIf}
use Rattle.clock2q_handles.specs.Candidates.{CandidatesValue, YieldsCandidate}
use Rattle.clock2q_handles.specs.Homes.{candidates}
use Rattle.clock2q_handles.specs.Layout.{IsTooLong}
use Rattle.clock2q_handles.specs.Changes.{PutIn}
use Rattle.clock2q_handles.specs.Offers.{Offers, Settles}
use Rattle.clock2q_handles.specs.Rehash.{GivesHashes}
use Rattle.clock2q_handles.specs.TableStep.{TableValue, grown, reserved, IsFull, IsShortOf, IsPastSize}
use Rattle.clock2q_handles.specs.declared.error.TableError.{TableError}
use Rattle.clock2q_handles.specs.declared.error.TableError.TheVariants.{Memory, Size, RunTooLong}
use Rattle.clock2q_table_commands.specs.TableCommands.{reply_of, reply_of_found, first_accepted, RepliesToInsert, RepliesToFind, RepliesToReserve}

-- handles offered up to the first that is accepted
module _ {M H : Type 0} (m : Mut M (H × Unit {0}) Bool) (test : H → Bool) (f : M) (asks : (h : H) (b : Bool) (next : M) → Called m f (h, tt) b next → (next ≡ f) × (b ≡ test h)) where
  accepted_by : (h : H) (hs : List H) (found : Option H) (b : Bool) (next last : M) → test h ≡ b →
      (b ≡ false → Offers m next hs found last → found ≡ find test hs) →
      MatchBool b ((found ≡ Some h) × (last ≡ next)) (Offers m next hs found last) → found ≡ cond (test h) (Some h) (find test hs)
  accepted_by h hs found true next last e rest w = rw e w.0
  accepted_by h hs found false next last e rest w = rw e (rest refl w)

  pub offered : (hs : List H) (found : Option H) {q : M} (last : M) → q ≡ f → Offers m q hs found last → found ≡ find test hs
  offered [] found last same o = o.0
  offered (h ∷ hs) found last same o =
      let a = asks h o.0 o.1 (subst (λ p. Called m p (h, tt) o.0 o.1) same o.2) in
      accepted_by h hs found o.0 o.1 last (sym a.1) (λ _ w. offered hs found last a.0 w) o.3

module _ {H : Type 0} (A : Type 0) (eq : H → H → Bool) (key : H → ℕ) where
  -- an insertion under the hash of a handle
  pub Inserts-put : (old new : List (List (ℕ × H))) (x : ℕ) (v : H) (result : Result (Unit {0}) TableError) → x ≡ key v →
      (result ≢ Err Memory → PutIn (grown key old) x v result new) → (result ≡ Err Memory → IsFull old × (new ≡ old)) →
      RepliesToInsert {A = A} eq key v old (reply_of result) new
  Inserts-put old new x v (Ok done) is put memory =
      let p = subst (λ h. PutIn (grown key old) h v (Ok done) new) is (put (λ e. absurd (cc))) in
      (p.0, λ long. p.1 (subst IsTooLong p.0 long))
  Inserts-put old new x v (Err Memory) is put memory = let m = memory refl in (m.1, m.0)
  Inserts-put old new x v (Err Size) is put memory = let p = put (λ e. absurd (cc)) in absurd (cc)
  Inserts-put old new x v (Err RunTooLong) is put memory =
      let p = subst (λ h. PutIn (grown key old) h v (Err RunTooLong) new) is (put (λ e. absurd (cc))) in
      (p.1, p.2)

  -- a lookup with insertion under the hash of a handle
  Finds-settled : (old new : List (List (ℕ × H))) (v : H) (accepted : List H) (found : Option H)
      (result : Result (H × Bool) TableError) → found ≡ first_accepted eq accepted (candidates (grown key old) (key v)) →
      Settles (grown key old) (key v) v found result new → RepliesToFind {A = A} eq key v accepted old (reply_of_found result) new
  Finds-settled old new v accepted (Some c) result is s = subst (λ r. RepliesToFind {A = A} eq key v accepted old (reply_of_found r) new) (sym s.0) (sym is, s.1)
  Finds-settled old new v accepted None (Ok r) is s =
      subst (λ r. RepliesToFind {A = A} eq key v accepted old (reply_of_found (Ok r)) new) (sym s.0)
      (sym is, refl, (s.1, λ long. s.2 (subst IsTooLong s.1 long)))
  Finds-settled old new v accepted None (Err RunTooLong) is s = (sym is, (s.1, s.2))
  Finds-settled old new v accepted None (Err Memory) is s = let e = s.0 in absurd (cc)
  Finds-settled old new v accepted None (Err Size) is s = let e = s.0 in absurd (cc)

  -- if memory is refused, too
  pub Finds-replied : (old new : List (List (ℕ × H))) (x : ℕ) (v : H) (accepted : List H) (result : Result (H × Bool) TableError) → x ≡ key v
      → (result ≢ Err Memory → (found : Option H) × (found ≡ first_accepted eq accepted (candidates (grown key old) x)) × Settles (grown key old) x v found result new)
      → (result ≡ Err Memory → IsFull old × (new ≡ old)) → RepliesToFind {A = A} eq key v accepted old (reply_of_found result) new
  Finds-replied old new x v accepted (Err Memory) is settles memory = let m = memory refl in (m.1, m.0)
  Finds-replied old new x v accepted (Err Size) is settles memory =
      let s = subst (λ y. (found : Option H) × (found ≡ first_accepted eq accepted (candidates (grown key old) y)) ×
      Settles (grown key old) y v found (Err Size) new) is (settles (λ e. absurd (cc))) in
      Finds-settled old new v accepted s.0 (Err Size) s.1 s.2
  Finds-replied old new x v accepted (Err RunTooLong) is settles memory =
      let s = subst (λ y. (found : Option H) × (found ≡ first_accepted eq accepted (candidates (grown key old) y)) ×
      Settles (grown key old) y v found (Err RunTooLong) new) is (settles (λ e. absurd (cc))) in
      Finds-settled old new v accepted s.0 (Err RunTooLong) s.1 s.2
  Finds-replied old new x v accepted (Ok r) is settles memory =
      let s = subst (λ y. (found : Option H) × (found ≡ first_accepted eq accepted (candidates (grown key old) y)) × Settles (grown key old) y v found (Ok r) new) is (settles (λ e. absurd (cc))) in
      Finds-settled old new v accepted s.0 (Ok r) s.1 s.2

  -- a reservation
  pub Reserves-reserved : {F : Type 0} (g : Mut F (H × Unit {0}) ℕ) (f : F) (old new : TableValue H) (n : ℕ) (result : Result (Unit {0}) TableError)
      → OnOk result ((k : H → ℕ) → (IsShortOf old.homes n → GivesHashes g k old.homes f) → new.homes ≡ reserved k old.homes n) → OnErr result (new ≡ old)
      → (IsPastSize old.homes n → result ≡ Err Size) → (result ≡ Err Size → IsPastSize old.homes n) → (result ≡ Err Memory → IsShortOf old.homes n) → (result ≢ Err RunTooLong)
      → GivesHashes g key old.homes f → RepliesToReserve {A = A} eq key n old.homes (reply_of result) new.homes
  Reserves-reserved g f old new n (Ok done) ok err past size memory only gives = (ok key (λ _. gives), λ p. let e = past p in absurd (cc))
  Reserves-reserved g f old new n (Err Size) ok err past size memory only gives = (ap (λ t. t.homes) err, size refl)
  Reserves-reserved g f old new n (Err Memory) ok err past size memory only gives = (ap (λ t. t.homes) err, memory refl)
  Reserves-reserved g f old new n (Err RunTooLong) ok err past size memory only gives = absurd (only refl)

-- the handles that a lookup yields up to its end are those that it had left
pub left-drained : {H : Type 0} (handles : List H) (lookup : CandidatesValue H) → DrainsIf YieldsCandidate (Unit {0}) lookup handles → handles ≡ lookup.left
left-drained [] lookup d = sym (ap (λ (l : CandidatesValue _). l.left) d.1 ∙ (d.2 tt).1.0.0)
left-drained (h ∷ hs) lookup d = ap (λ hs. h ∷ hs) (left-drained hs d.1.0 (d.0, d.1.2, d.2)) ∙ sym d.1.1.0

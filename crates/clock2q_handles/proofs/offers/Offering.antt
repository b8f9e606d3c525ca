-- Closures that may be offered the candidates of a hash, and what a stateless one finds among them.
use Rattle.std.proofs.Common.{◌≡◌, ℕ, zero, suc, refl, sym, subst, Bool, true, false, List, [], ◌∷◌, slice_get, Option, Some, None}
use Rattle.std.specs.Fn.{Called, Takes, Mut}
use denote.Param.Always.{always_mut, mut_next}
use Rattle.clock2q_handles.specs.Homes.{candidates}
use Rattle.clock2q_handles.specs.Offers.{Offers, TakesInTurn, MayBeOffered}
use Rattle.clock2q_handles.specs.Rehash.{IsHeld, AfterGrowth}
use Rattle.clock2q_handles.proofs.rebuild.Held.{candidate_held, grown_from}

-- what was found passes the test, or nothing offered does
abbrev pub IsFound : {H : Type 0} → (H → Bool) → List H → Option H → Type 0
IsFound {H} test hs None = (i : ℕ) (h : H) → slice_get hs i ≡ Some h → test h ≡ false
IsFound test hs (Some c) = (test c ≡ true) × (i : ℕ) × (slice_get hs i ≡ Some c)

module _ {M H : Type 0} (m : Mut M (H × Unit {0}) Bool) where
  module _ (I : M → Type 0) (allowed : H → Type 0) (takes : (f : M) (h : H) → I f → allowed h → Takes m f (h, tt))
      (keeps : (f : M) (h : H) (next : M) → I f → allowed h → Called m f (h, tt) false next → I next) where
    in_turn_by : (hs : List H) (f : M) → I f → ((i : ℕ) (h : H) → slice_get hs i ≡ Some h → allowed h) → TakesInTurn m f hs
    in_turn_by [] f i all = tt
    in_turn_by (h ∷ hs) f i all = (takes f h i (all 0 h refl), λ next called. in_turn_by hs next (keeps f h next i (all 0 h refl) called) (λ k v is. all (suc k) v is))

    -- if what a closure needs survives its rejections, it may be offered handles that it takes
    pub offered_by : (hs : List H) (f : M) → I f → ((i : ℕ) (h : H) → slice_get hs i ≡ Some h → allowed h) → MayBeOffered m f hs
    offered_by hs f i all = record { in_turn = in_turn_by hs f i all }

  -- a closure that may always be called may be offered any handles, as those of a search
  pub offered_any : (hs : List H) (f : M) → always_mut m f → MayBeOffered m f hs
  offered_any hs f always = offered_by (always_mut m) (λ _. Unit {0}) (λ f h a _. (a.at ((h, tt) ∷ [])).0) (λ f h next a _ called. mut_next m f (h, tt) false next next called refl a) hs f always (λ _ _ _. tt)

  -- one that may be called on held handles, and keeps what it needs when it rejects one, may be offered the candidates
  module _ {F : Type 0} (g : Mut F (H × Unit {0}) ℕ) (rehash : F) (homes : List (List (ℕ × H))) (x : ℕ) (I : M → Type 0) (takes : (f : M) (h : H) → I f → IsHeld homes h → Takes m f (h, tt))
      (keeps : (f : M) (h : H) (next : M) → I f → IsHeld homes h → Called m f (h, tt) false next → I next) where
    pub offered_held_by : (f : M) → I f → AfterGrowth g rehash homes (λ hs. MayBeOffered m f (candidates hs x))
    offered_held_by f i key gives = offered_by I (IsHeld homes) takes keeps (candidates _ x) f i (λ k h is. grown_from key homes h (candidate_held _ x k h is))

  -- a closure that agrees with a test on what it is offered finds what the test does
  module _ (I : M → Type 0) (allowed : H → Type 0) (test : H → Bool) (says : (f : M) (h : H) (b : Bool) (next : M) → I f → allowed h → Called m f (h, tt) b next → (b ≡ test h) × I next) where
    pub offers_find : (hs : List H) (f : M) (found : Option H) (last : M) → I f → ((i : ℕ) (h : H) → slice_get hs i ≡ Some h → allowed h) → Offers m f hs found last → IsFound test hs found
    offers_find [] f found last i all o = subst (IsFound test []) (sym o.0) (λ k h is. absurd (cc))
    offers_find (h ∷ hs) f found last i all (true, next, called, rest) = subst (IsFound test (h ∷ hs)) (sym rest.0) (sym (says f h true next i (all 0 h refl) called).0, 0, refl)
    offers_find (h ∷ hs) f found last i all (false, next, called, rest) =
        let s = says f h false next i (all 0 h refl) called in
        later found (sym s.0) (offers_find hs next found last s.1 (λ k v is. all (suc k) v is) rest)
      where
        later : (found : Option H) → test h ≡ false → IsFound test hs found → IsFound test (h ∷ hs) found
        later None fails r = λ k v. elim k as (λ k. slice_get (h ∷ hs) k ≡ Some v → test v ≡ false) [ zero ↦ λ is. subst (λ u. test u ≡ false) (cc) fails | suc i ↦ r i v ]
        later (Some c) fails r = (r.0, suc r.1, r.2)

module _ {M H F : Type 0} {m : Mut M (H × Unit {0}) Bool} {g : Mut F (H × Unit {0}) ℕ} {rehash : F} {homes : List (List (ℕ × H))} {f : M} where
  -- a closure that may always be called may be offered the candidates of a hash
  pub offered_always : (x : ℕ) → always_mut m f → AfterGrowth g rehash homes (λ hs. MayBeOffered m f (candidates hs x))
  offered_always x always key gives = offered_any m (candidates _ x) f always

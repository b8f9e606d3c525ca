-- What a search for the keys of one hash has still to find.
use Rattle.clock2q_directory.proofs.Names.{◌≡◌, ℕ, zero, ◌<◌, ◌==◌, Bool, true, false, Option, Some, None, slice_get, List, ◌∷◌, drop, refl, sym, ◌∙◌, subst, filter, AllByRecursion, eq-eqb, Entry, has_hash, Handle, slots_among, unpacked, hash_at}
use Rattle.clock2q_directory.proofs.Looking.{next-slot}

-- past `left` the number `more` is what number `nth` was
pub record Sought (test : ℕ → Bool) (all : List ℕ) (nth bound : ℕ) (left : List ℕ) (more : ℕ) : Type 0 where
  pub found : slice_get (filter test all) nth ≡ slice_get (filter test left) more
  pub there : AllByRecursion (λ place. place < bound) left

module _ {test : ℕ → Bool} {all : List ℕ} {nth bound : ℕ} (place : ℕ) (left : List ℕ) where
  pub sought-found : {more : ℕ} → Sought test all nth bound (place ∷ left) more → true ≡ test place → more ≡ zero → Some place ≡ slice_get (filter test all) nth
  sought-found s it is = sym (s.found ∙ rw (sym it, is) refl)

-- if the next handle is a slot's, that slot is the next to be looked at
pub sought-slot : {test : ℕ → Bool} {all : List ℕ} {nth bound more : ℕ} (handles : List ℕ) {h slot : ℕ} → Sought test all nth bound (slots_among handles) more
    → Some h ≡ slice_get handles 0 → Handle.Resident slot ≡ unpacked h → Sought test all nth bound (slot ∷ slots_among (drop 1 handles)) more
sought-slot {test} {all} {nth} {bound} {more} handles s is says = subst (λ z. Sought test all nth bound z more) (next-slot handles is says) s

-- what is read there says whether the key has the hash
pub hash-compared : {K V : Type 0} (entries : List (Entry K V)) (hash place : ℕ) {h : ℕ} → hash_at entries place ≡ Some h → h ≡ hash → true ≡ has_hash entries hash place
hash-compared {K} {V} entries hash place {h} at is = of (slice_get entries place) at
  where
    of : (o : Option (Entry K V)) → elim o [ None ↦ None | Some e ↦ Some e.hash ] ≡ Some h → true ≡ elim o [ None ↦ false | Some e ↦ e.hash == hash ]
    of None at = absurd (cc)
    of (Some e) at = let q : e.hash ≡ h = cc in sym (eq-eqb e.hash hash (q ∙ is))

-- The slots whose keys have one hash are those of the residents whose keys have it, each once.
use Rattle.clock2q_cache.proofs.Names.{◌≡◌, ℕ, ◌<◌, Bool, true, ◌&&◌, eqb-true, Option, Some, None, slice_get, List, [], ◌∷◌, length, inl, inr, refl, sym, ◌∙◌, arith, ◌-◌, eqb, and_false, IfNone, IfSome, length-values, IsEquivalence, AllByRecursion, eqb_self, find, is_key_at, slot_of, filter, cases_Bool, candidates, Entry, KeyPlaces, among_first, below_of, candidate_there, slice_get_some, QueueState, Remembered, Shares, Machine, machine_of, queued_slots, IsCache, distinct_none, distinct_first, distinct_rest, distinct_more, list_any, IsDistinct, among_later, has_hash, has_hash_at}
use Rattle.std.proofs.lemmas.Bool.{eq-eqb}
use Rattle.clock2q_cache.proofs.Stored.{all-at}
use Rattle.clock2q_cache.proofs.Places.{resident-there, resident-none}
use Rattle.clock2q_cache.proofs.Finding.{found, candidates-there}

-- two tests that agree on a list keep the same of it
filter-like : (p q : ℕ → Bool) (cs : List ℕ) → ((t : ℕ) → list_any (eqb t) cs ≡ true → p t ≡ q t) → filter p cs ≡ filter q cs
filter-like p q [] same = refl
filter-like p q (c ∷ cs) same = grind (arith, among_first, among_later, filter-like p q cs)

-- if a filter keeps nothing, a search for what it would keep finds nothing
none-kept : (p q : ℕ → Bool) (cs : List ℕ) → None ≡ slice_get (filter p cs) 0 → ((t : ℕ) → list_any (eqb t) cs ≡ true → q t ≡ true → p t ≡ true) → find q cs ≡ None
none-kept p q [] none kept = refl
none-kept p q (c ∷ cs) none kept = grind (arith, among_first c cs, among_later, none-kept p q cs)

-- what is in a list and passes is what is kept of it
among-kept : (p : ℕ → Bool) (cs : List ℕ) (t : ℕ) → list_any (eqb t) (filter p cs) ≡ (list_any (eqb t) cs && p t)
among-kept p [] t = refl
among-kept p (c ∷ cs) t = grind (arith, among-kept p cs t, and_false (list_any (eqb t) cs))

-- no slot is kept twice
apart-kept : (p : ℕ → Bool) (cs : List ℕ) → IsDistinct eqb cs → IsDistinct eqb (filter p cs)
apart-kept p [] apart = distinct_none eqb
apart-kept p (c ∷ cs) apart = let rest = distinct_rest eqb c cs apart in grind (arith, among-kept p cs c, distinct_first eqb c cs apart, apart-kept p cs rest, distinct_more eqb c (filter p cs))

-- what is kept of a list is below what all of it is
kept-below : (p : ℕ → Bool) (bound : ℕ) (cs : List ℕ) (n : ℕ) (o : Option ℕ) → AllByRecursion (λ t. t < bound) cs → o ≡ slice_get (filter p cs) n → IfSome o (λ t. t < bound)
kept-below p bound cs n None all is = tt
kept-below p bound [] n (Some t) all is = absurd (cc)
kept-below p bound (c ∷ cs) n (Some t) all is = grind (arith, kept-below p bound cs n (Some t) all.1, kept-below p bound cs (n - 1) (Some t) all.1)

-- a result that isn't a slot is none
pub none-of : (o : Option ℕ) → ((x : ℕ) → o ≡ Some x → ⊥) → o ≡ None
none-of o other = grind arith

pub none-unless : (o : Option ℕ) → ((x : ℕ) → o ≡ Some x → ⊥) → {P : Type 0} → IfNone o P → P
none-unless o other it = grind arith

module _ {K V : Type 0} {eq : K → K → Bool} {hash : K → ℕ} {shares : Shares} {q : QueueState} {h : Remembered K} {index : List (List (ℕ × ℕ))} {keys : KeyPlaces K V} {free : List ℕ} {room : ℕ}
    (laws : IsEquivalence eq) (kept : IsCache eq hash shares q h index keys free room) where
  abbrev m : Machine K V
  m = machine_of shares q keys.entries h.entries free

  hash-there : (t : ℕ) (e : Entry K V) → slice_get keys.entries t ≡ Some e → e.hash ≡ hash e.key
  hash-there t e at = all-at (λ (e : Entry K V). e.hash ≡ hash e.key) keys.entries t e kept.stored.hashed at

  same-hash : (x t : ℕ) → list_any (eqb t) (candidates index x) ≡ true → has_hash keys.entries x t ≡ has_hash_at hash x m t
  same-hash x t there =
      let in-use = (candidate_there index keys.entries (queued_slots q) x t kept.stored.indexed there).0 in
      let e = slice_get_some keys.entries t (below_of (length keys.entries) (queued_slots q) kept.stored.made t in-use) in
      grind (arith, e.1, resident-there laws kept t e.0.key in-use, hash-there t e.0 e.1)

  pub with-hash : (x : ℕ) → filter (has_hash keys.entries x) (candidates index x) ≡ filter (has_hash_at hash x m) (candidates index x)
  with-hash x = grind (arith, filter-like, same-hash x)

  -- where no resident has a key's hash, the key has no slot
  pub none-with-hash : (key : K) → ((x y : K) → eq x y ≡ true → hash x ≡ hash y) → (x : ℕ) → x ≡ hash key →
      None ≡ slice_get (filter (has_hash keys.entries x) (candidates index x)) 0 → slot_of (eq key) m ≡ None
  none-with-hash key respects x is none =
      sym (found laws kept key respects x is)
      ∙ none-kept (has_hash keys.entries x) (is_key_at eq key keys.entries) (candidates index x) none alike
    where
      alike : (t : ℕ) → list_any (eqb t) (candidates index x) ≡ true → is_key_at eq key keys.entries t ≡ true → has_hash keys.entries x t ≡ true
      alike t there it = grind (arith, candidate_there, kept.stored.indexed, slice_get_some, below_of, kept.stored.made, eq-eqb, hash-there)

  -- of what the walk finds
  pub absent-unless : ((x y : K) → eq x y ≡ true → hash x ≡ hash y) → (x nth : ℕ) (o : Option ℕ) → o ≡ slice_get (filter (has_hash keys.entries x) (candidates index x)) nth
      → IfNone o (nth ≡ 0 → (key : K) → x ≡ hash key → slot_of (eq key) m ≡ None)
  absent-unless respects x nth o found = grind (arith, none-with-hash)

  -- a resident with the hash is among the candidates
  is-candidate : (x t : ℕ) → has_hash_at hash x m t ≡ true → list_any (eqb t) (candidates index x) ≡ true
  is-candidate x t it = elim (cases_Bool (list_any (eqb t) (queued_slots q))) [
    | inl in-use ↦
        let e = slice_get_some keys.entries t (below_of (length keys.entries) (queued_slots q) kept.stored.made t in-use) in
        grind (arith, e.1, resident-there laws kept t e.0.key in-use, hash-there t e.0 e.1, eqb-true, eqb_self, kept.stored.indexed.listed x t)
    | inr gone ↦ absurd (grind (arith, resident-none laws kept t gone))
  ]

  -- each resident with the hash is listed, and nothing else
  pub lists-each : (x t : ℕ) → list_any (eqb t) (filter (has_hash_at hash x m) (candidates index x)) ≡ has_hash_at hash x m t
  lists-each x t = grind (arith, among-kept, is-candidate, and_false)

  -- and none twice
  pub lists-once : (x : ℕ) → IsDistinct eqb (filter (has_hash_at hash x m) (candidates index x))
  lists-once x = apart-kept (has_hash_at hash x m) (candidates index x) (kept.stored.indexed.once x)

  -- the slot that is found is below the capacity
  pub found-within : (x n : ℕ) (o : Option ℕ) → o ≡ slice_get (filter (has_hash keys.entries x) (candidates index x)) n → IfSome o (λ slot. slot < shares.capacity)
  found-within x n o is =
      grind (arith, kept-below (has_hash keys.entries x) (length keys.entries) (candidates index x) n o (candidates-there laws kept x) is, length-values keys.entries, kept.whole.made_within)

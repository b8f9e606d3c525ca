-- The number of accesses with each stack distance: what one more access adds to it, and to the hits at each capacity.
use Rattle.std.proofs.Common.{◌≡◌, ◌≢◌, ℕ, zero, suc, ◌+◌, ◌<◌, ◌≤◌, refl, sym, ap, ◌∙◌, subst, arith, inl, inr, true, false, Bool, cond, ltb, List, [], ◌∷◌, ◌++◌, length, map, take, drop}
use Rattle.std.proofs.Common.{eqb, set, get_or, get_or-set_same, get_or-set_other}
use Rattle.std.specs.Prelude.{Option, None, Some}
use Rattle.std.specs.List.{IsDistinct}
use Rattle.std.proofs.lemmas.Bool.{cases_eq, cases_lt, eq-eqb, ne_eqb, lt-ltb, le-ltb}
use Rattle.std.proofs.lemmas.List.{take_all, take_more, map-append, get_or_default}
use Rattle.std.proofs.lemmas.Map.Keys.{IsDistinct-tail}
use Rattle.clock2q_machine.specs.Hits.{hits, is_in, without}
use Rattle.clock2q_machine.proofs.Sharing.{without-absent, distinct_first}
use Rattle.simulator_policies.specs.declared.plain.PlainPolicy.TheVariants.{LeastRecentlyUsed}
use Rattle.simulator_policies.specs.Policies.{plain_after, plain_hits}
use Rattle.simulator_policies.specs.CountTree.{sum_in}
use Rattle.simulator_policies.specs.StackDistances.{recent_after, stack_distance, is_below}
use Rattle.simulator_policies.proofs.Counting.{counted}
use Rattle.simulator_policies.proofs.Sums.{sum_same, sum_none, sum_more}
use Rattle.simulator_policies.proofs.StackDistances.{near, none-taken, distance-within, lru_holds_recent}

abbrev pub sum_to : List ℕ → ℕ → ℕ
sum_to counts n = sum_in (λ n. get_or counts n 0) 0 n

-- one more of a distance
pub sum-counted : (counts : List ℕ) (distance n : ℕ) → distance < length counts → sum_to (set counts distance (get_or counts distance 0 + 1)) n ≡ sum_to counts n + cond (ltb distance n) 1 0
sum-counted counts distance n within =
    let more = set counts distance (get_or counts distance 0 + 1) in
    let others : (i : ℕ) → i ≢ distance → get_or more i 0 ≡ get_or counts i 0 = λ i other. get_or-set_other counts distance i (get_or counts distance 0 + 1) 0 other in
    elim (cases_lt distance n) [
      | inl below ↦
          let one : ◌≡◌ {A = ℕ} (cond (ltb distance n) 1 0) 1 = rw (lt-ltb distance n below) refl in
          omega (
            arith,
            one,
            sum_more (λ n. get_or counts n 0) (λ n. get_or more n 0) distance 0 n (omega arith) (omega (arith, below))
                (get_or-set_same counts distance (get_or counts distance 0 + 1) 0 within) others,
          )
      | inr above ↦
          let none : ◌≡◌ {A = ℕ} (cond (ltb distance n) 1 0) 0 = rw (le-ltb distance n above) refl in
          omega (arith, none, sum_same (λ n. get_or more n 0) (λ n. get_or counts n 0) 0 n (λ i from to. others i (λ is. omega (arith, is, to, above))))
    ]

pub sum-counted-read : (counts : List ℕ) (distance n count : ℕ) → distance < length counts →
    count ≡ get_or counts distance count →
    sum_to (set counts distance (count + 1)) n ≡ sum_to counts n + cond (ltb distance n) 1 0
sum-counted-read counts distance n count within read =
    let same : get_or counts distance 0 ≡ count = get_or_default counts distance 0 count within ∙ sym read in
    subst (λ m. sum_to (set counts distance (m + 1)) n ≡ sum_to counts n + cond (ltb distance n) 1 0) same (sum-counted counts distance n within)

pub at-most-one : (b : Bool) → cond b 1 0 ≤ 1
at-most-one true = omega arith
at-most-one false = omega arith

-- a distance that no access has
pushed-none : (counts : List ℕ) (i : ℕ) → get_or (counts ++ 0 ∷ []) i 0 ≡ get_or counts i 0
pushed-none [] zero = refl
pushed-none [] (suc i) = refl
pushed-none (count ∷ counts) zero = refl
pushed-none (count ∷ counts) (suc i) = pushed-none counts i

pub sum-pushed : (counts : List ℕ) (n : ℕ) → sum_to (counts ++ 0 ∷ []) n ≡ sum_to counts n
sum-pushed counts n = sum_same (λ n. get_or (counts ++ 0 ∷ []) n 0) (λ n. get_or counts n 0) 0 n (λ i from to. pushed-none counts i)

-- a key was accessed if and only if it has a distance
came : (key : ℕ) (recent : List ℕ) → is_in key recent ≡ is_below (length recent) (stack_distance key recent)
came key recent = sym (ap (is_in key) (take_all (length recent) recent (omega arith))) ∙ near (length recent) key recent

once-apart : (key : ℕ) (recent : List ℕ) → IsDistinct eqb recent → is_in key recent ≡ true → suc (length (without key recent)) ≡ length recent
once-apart key [] apart there = absurd (cc)
once-apart key (first ∷ recent) apart there = elim (cases_eq first key) [
  | inl same ↦
      let absent : is_in key recent ≡ false = sym (ap (λ k. is_in k recent) same) ∙ distinct_first first recent apart in
      rw (eq-eqb first key same) (ap (λ rest. suc (length rest)) (without-absent key recent absent))
  | inr other ↦ rw (ne_eqb first key other) (ap suc (once-apart key recent (IsDistinct-tail eqb first recent apart) (rw (ne_eqb first key other) at there)))
]

pub long-again : (key n : ℕ) (recent : List ℕ) → IsDistinct eqb recent → stack_distance key recent ≡ Some n → length (recent_after key recent) ≡ length recent
long-again key n recent apart is =
    once-apart key recent apart (came key recent ∙ ap (is_below (length recent)) is ∙ lt-ltb n (length recent) (distance-within key n recent is))

pub long-new : (key : ℕ) (recent : List ℕ) → stack_distance key recent ≡ None → length (recent_after key recent) ≡ length recent + 1
long-new key recent is =
    let same : without key recent ≡ recent = without-absent key recent (came key recent ∙ ap (is_below (length recent)) is) in
    omega (arith, ap (length {A = ℕ}) same)

-- the hits at a capacity, one key further
pub hits-further : (trace recent after : List ℕ) (at capacity before now total : ℕ) (distance : Option ℕ) → at < length trace → 0 < capacity → IsDistinct eqb recent
    → distance ≡ stack_distance (get_or trace at 0) recent → after ≡ recent_after (get_or trace at 0) recent
    → before + hits is_in (plain_after LeastRecentlyUsed capacity) (drop at trace) (take capacity recent) ≡ total
    → now ≡ before + cond (is_below capacity distance) 1 0
    → now + hits is_in (plain_after LeastRecentlyUsed capacity) (drop (at + 1) trace) (take capacity after) ≡ total
hits-further trace recent after at capacity before now total distance within some apart is came_in_front so_far more =
    let hit : is_below capacity distance ≡ is_in (get_or trace at 0) (take capacity recent) = ap (is_below capacity) is ∙ sym (near capacity (get_or trace at 0) recent) in
    let count : now ≡ before + cond (is_in (get_or trace at 0) (take capacity recent)) 1 0 = more ∙ ap (λ b. before + cond b 1 0) hit in
    let held : plain_after LeastRecentlyUsed capacity (get_or trace at 0) (take capacity recent) ≡ take capacity after =
    lru_holds_recent capacity (get_or trace at 0) recent some apart ∙ sym (ap (take capacity) came_in_front) in
    subst (λ held. now + hits is_in (plain_after LeastRecentlyUsed capacity) (drop (at + 1) trace) held ≡ total) held
    (counted is_in (plain_after LeastRecentlyUsed capacity) trace at before now total
    (take capacity recent) within so_far count)

-- before the trace no access is counted
pub nothing-counted : (counts : List ℕ) → counts ≡ [] → (n : ℕ) → sum_to counts n ≡ 0
nothing-counted counts none n = sum_none (λ n. get_or counts n 0) 0 n (λ i from to. ap (λ l. get_or l i 0) none)

pub hits-at-first : (trace counts : List ℕ) → counts ≡ [] → (capacity : ℕ) →
    sum_to counts capacity + hits is_in (plain_after LeastRecentlyUsed capacity) trace (take capacity []) ≡
    plain_hits LeastRecentlyUsed capacity trace
hits-at-first trace counts none capacity = omega (arith, nothing-counted counts none capacity, ap (hits is_in (plain_after LeastRecentlyUsed capacity) trace) (none-taken capacity))

-- one more of a list's values, in order
pub map-further : {X : Type 0} (f : X → ℕ) (xs : List X) (values more : List ℕ) (i : ℕ) (x : X) → i < length xs →
    x ≡ get_or xs i x → values ≡ map f (take i xs) → more ≡ values ++ f x ∷ [] → more ≡ map f (take (i + 1) xs)
map-further f xs values more i x within read are pushed =
    pushed ∙ ap (λ values. values ++ f x ∷ []) are ∙ ap (λ y. map f (take i xs) ++ f y ∷ []) read ∙ sym (map-append f (take i xs) (get_or xs i x ∷ [])) ∙ sym (ap (map f) (take_more xs i x within))

-- Hits after the first accesses, from the outcomes of all.
use Rattle.std.proofs.Common.{◌≡◌, ℕ, zero, suc, ◌+◌, ◌-◌, ◌<◌, ◌≤◌, Bool, List, [], ◌∷◌, ◌++◌, Option, length, take, get_or, map, min, refl, sym, ap, ◌∙◌, subst, arith}
use Rattle.std.specs.List.{All}
use Rattle.std.specs.NonZero.{non_zero_usize_get}
use Rattle.std.proofs.lemmas.List.{take_all, take_min, take_more, take-take, length-take-le, map-append}
use Rattle.clock2q_machine.specs.Machine.{empty}
use Rattle.clock2q_machine.specs.Hits.{hit_count, is_in}
use Rattle.clock2q_machine.specs.SecondChance.{is_on, clock_after}
use Rattle.simulator_policies.specs.declared.plain.PlainPolicy.TheVariants as plain
use Rattle.simulator_policies.specs.Policies.{plain_after}
use Rattle.simulator_policies.proofs.DemandPolicies.{first_optimal_hits}
use Rattle.simulator_policies.proofs.Outcomes.{first_hits, one_each, one_optimal_each}
use Rattle.simulator_interface.specs.declared.policy.Policy.{Policy}
use Rattle.simulator_interface.specs.declared.policy.Policy.TheVariants.{Clock2Q, Sieve, S3Fifo, LeastRecentlyUsed, Optimal, FirstInFirstOut, Clock, Arc, TwoQ, Lirs, Lru2, WTinyLfu}
use Rattle.simulator_interface.specs.declared.row.Hits.{Hits}
use Rattle.simulator_replay.specs.declared.row.Replayed.{Replayed}
use Rattle.simulator_interface.specs.declared.row.Row.{Row}
use Rattle.simulator_interface.specs.declared.shares.ChosenShares.{ChosenShares}
use Rattle.simulator_traces.specs.Bytes.{asked_between, hit_between}
use Rattle.simulator_replay.specs.RowBytes.{AreBytes, HasBytes}
use Rattle.simulator_interface.specs.ChosenShares.{shares_for}
use Rattle.clock2q_machine.specs.MachineHits.{machine_holds, machine_after}
use Rattle.simulator_replay.specs.Rows.{AreHits, AreOutcomes, AreHitsAfter, IsReplay, IsRow}
use Rattle.simulator_replay.specs.Windows.{counted, AreReplays}

module _ (shares : Option ChosenShares) (numbers : List ℕ) (room : ℕ) (some : 0 < room) where
  -- as many of the first accesses hit as if the trace ended after them
  first_are : (policy : Policy) (outcomes : List Bool) (n : ℕ) → AreOutcomes shares numbers room policy outcomes → AreHits shares (take n numbers) room policy (hit_count (take n outcomes))
  first_are Clock2Q outcomes n are = ap (λ all. hit_count (take n all)) are ∙ first_hits machine_holds machine_after n numbers (empty (shares_for shares room))
  first_are LeastRecentlyUsed outcomes n are = ap (λ all. hit_count (take n all)) are ∙ first_hits is_in (plain_after plain.LeastRecentlyUsed room) n numbers []
  first_are FirstInFirstOut outcomes n are = ap (λ all. hit_count (take n all)) are ∙ first_hits is_in (plain_after plain.FirstInFirstOut room) n numbers []
  first_are Sieve outcomes n are = tt
  first_are S3Fifo outcomes n are = tt
  first_are Optimal outcomes n are = ap (λ all. hit_count (take n all)) are ∙ first_optimal_hits room some n numbers
  first_are Clock outcomes n are = ap (λ all. hit_count (take n all)) are ∙ first_hits is_on (clock_after room) n numbers []
  first_are Arc outcomes n are = tt
  first_are TwoQ outcomes n are = tt
  first_are Lirs outcomes n are = tt
  first_are Lru2 outcomes n are = tt
  first_are WTinyLfu outcomes n are = tt

  module _ (policy : Policy) (outcomes : List Bool) (replay : IsReplay shares numbers room policy outcomes) where
    -- the hits from one access up to another
    pub between_are : (first last : ℕ) → first ≤ last → AreHitsAfter first shares (take last numbers) room policy (hit_count (take last outcomes) - hit_count (take first outcomes))
    between_are first last order = record {
      all = hit_count (take last outcomes);
      before = hit_count (take first outcomes);
      all_are = first_are policy outcomes last replay.are;
      before_are = subst (λ ns. AreHits shares ns room policy (hit_count (take first outcomes))) (sym (take-take first last numbers order)) (first_are policy outcomes first replay.are);
      rest = refl;
    }

    -- and all hits after the skipped accesses
    pub after_are : (skipped first last : ℕ) (seen : List Bool) (hits : ℕ) → seen ≡ outcomes → last ≡ length outcomes → first ≡ min skipped last
        → hits ≡ hit_count (take last seen) - hit_count (take first seen) → AreHitsAfter skipped shares numbers room policy hits
    after_are skipped first last seen hits same long begins are =
        let whole : take last outcomes ≡ outcomes = take_all last outcomes (omega (arith, long)) in
        record {
          all = hit_count outcomes;
          before = hit_count (take skipped outcomes);
          all_are = subst (λ ns. AreHits shares ns room policy (hit_count outcomes)) (take_all last numbers (omega (arith, long, replay.long)))
              (subst (λ xs. AreHits shares (take last numbers) room policy (hit_count xs)) whole (first_are policy outcomes last replay.are));
          before_are = first_are policy outcomes skipped replay.are;
          rest = are ∙ ap (λ xs. hit_count (take last xs) - hit_count (take first xs)) same ∙ ap (λ xs. hit_count xs - hit_count (take first outcomes)) whole
              ∙ ap (λ xs. hit_count outcomes - hit_count xs) (ap (λ n. take n outcomes) (begins ∙ ap (min skipped) long) ∙ take_min skipped outcomes);
        }

-- The outcomes of a trace with a policy are its replay.
module _ (shares : Option ChosenShares) (numbers : List ℕ) (room : ℕ) (policy : Policy) (outcomes : List Bool) where
  -- of a policy without a definition the length alone is known
  pub replay_is : (named : Policy) → policy ≡ named → length outcomes ≡ length numbers → AreOutcomes shares numbers room named outcomes → IsReplay shares numbers room policy outcomes
  replay_is named is long are = subst (λ p. IsReplay shares numbers room p outcomes) (sym is) (record { long = long; are = are })

  pub clock2q_is : policy ≡ Clock2Q → AreOutcomes shares numbers room Clock2Q outcomes → IsReplay shares numbers room policy outcomes
  clock2q_is is are = replay_is Clock2Q is (ap length are ∙ one_each machine_holds machine_after numbers (empty (shares_for shares room))) are

  pub least_recent_is : policy ≡ LeastRecentlyUsed → AreOutcomes shares numbers room LeastRecentlyUsed outcomes → IsReplay shares numbers room policy outcomes
  least_recent_is is are = replay_is LeastRecentlyUsed is (ap length are ∙ one_each is_in (plain_after plain.LeastRecentlyUsed room) numbers []) are

  pub first_in_is : policy ≡ FirstInFirstOut → AreOutcomes shares numbers room FirstInFirstOut outcomes → IsReplay shares numbers room policy outcomes
  first_in_is is are = replay_is FirstInFirstOut is (ap length are ∙ one_each is_in (plain_after plain.FirstInFirstOut room) numbers []) are

  pub optimal_is : policy ≡ Optimal → AreOutcomes shares numbers room Optimal outcomes → IsReplay shares numbers room policy outcomes
  optimal_is is are = replay_is Optimal is (ap length are ∙ one_optimal_each room numbers []) are

  pub clock_is : policy ≡ Clock → AreOutcomes shares numbers room Clock outcomes → IsReplay shares numbers room policy outcomes
  clock_is is are = replay_is Clock is (ap length are ∙ one_each is_on (clock_after room) numbers []) are

-- Lists, element by element.

abbrev pub hits_of : Policy → ℕ → ℕ → Hits
hits_of policy hits bytes = record { policy = policy; hits = hits; bytes = bytes }

pub mapped-more : {X Y : Type 0} (f : X → Y) (xs : List X) (i : ℕ) (x : X) (old new : List Y) → i < length xs → x ≡ get_or xs i x → old ≡ map f (take i xs)
    → new ≡ old ++ f x ∷ [] → new ≡ map f (take (i + 1) xs)
mapped-more f xs i x old new within read are pushed =
    pushed ∙ ap (λ ys. ys ++ f x ∷ []) are ∙ ap (λ y. map f (take i xs) ++ f y ∷ []) read ∙ sym (map-append f (take i xs) (get_or xs i x ∷ [])) ∙ sym (ap (map f) (take_more xs i x within))

pub kept-more : {X Y : Type 0} (f : X → Y) (xs : List X) (x : X) (new : List X) (ys : List Y) (i : ℕ) (d : Y) → i < length ys → new ≡ xs ++ x ∷ []
    → map f xs ≡ take i ys → f x ≡ get_or ys i d → map f new ≡ take (i + 1) ys
kept-more f xs x new ys i d within pushed are is = ap (map f) pushed ∙ map-append f xs (x ∷ []) ∙ ap (λ zs. zs ++ f x ∷ []) are ∙ ap (λ z. take i ys ++ z ∷ []) is ∙ sym (take_more ys i d within)

all_mapped : {X Y : Type 0} (P : Y → Type 0) (f : X → Y) (xs : List X) → All (λ x. P (f x)) xs → All P (map f xs)
all_mapped P f [] each k d l = absurd (omega (arith, l))
all_mapped P f (x ∷ xs) each zero d l = each zero x (omega arith)
all_mapped P f (x ∷ xs) each (suc k) d l = all_mapped P f xs (λ j e m. each (suc j) e (omega (arith, m))) k d (omega (arith, l))

module _ {A : Type 0} (compared : List Policy) (shares : Option ChosenShares) (numbers : List ℕ) (room : ℕ) where
  pub all_within : (replays seen : List (Replayed A)) (last : ℕ) → seen ≡ replays → AreReplays compared shares numbers room replays → last ≤ length numbers
      → All (λ replay. last ≤ length replay.outcomes.items) seen
  all_within replays seen last same are within = subst (λ rs. All (λ replay. last ≤ length replay.outcomes.items) rs) (sym same) (λ k d l. omega (arith, within, (are.each k d l).long))

  policies_same : (first last : ℕ) (sizes : List ℕ) (replays : List (Replayed A)) → map (λ h. h.policy) (map (counted first last sizes) replays) ≡ map (λ replay. replay.policy) replays
  policies_same first last sizes [] = refl
  policies_same first last sizes (replay ∷ replays) = ap (λ policies. replay.policy ∷ policies) (policies_same first last sizes replays)

  -- the hits of replays from one access up to another are a row
  pub row_is : 0 < room → (replays seen : List (Replayed A)) (first last : ℕ) (sizes : List ℕ)
      (row : Row A) → seen ≡ replays → AreReplays compared shares numbers room replays
      → first ≤ last → last ≤ length numbers
      → row.hits.items ≡ map (counted first last sizes) seen → non_zero_usize_get row.capacity ≡ room → row.accesses ≡ last - first → IsRow compared shares first (take last numbers) room row
  row_is some replays seen first last sizes row same are order within hits capacity accesses =
      let items : row.hits.items ≡ map (counted first last sizes) replays = hits ∙ ap (map (counted first last sizes)) same in
      record {
        capacity = capacity;
        accesses = accesses ∙ ap (λ n. n - first) (sym (length-take-le last numbers within));
        policies = ap (map (λ h. h.policy)) items ∙ policies_same first last sizes replays ∙ are.policies;
        hits = subst (All (λ h. AreHitsAfter first shares (take last numbers) room h.policy h.hits)) (sym items)
            (all_mapped (λ h. AreHitsAfter first shares (take last numbers) room h.policy h.hits) (counted first last sizes) replays
            (λ k d l. between_are shares numbers room some (get_or replays k d).policy (get_or replays k d).outcomes.items (are.each k d l) first last order));
      }

  -- and the row has their bytes
  pub bytes_are : (replays seen : List (Replayed A)) (first last : ℕ) (found sizes : List ℕ)
      (row : Row A) → seen ≡ replays → AreReplays compared shares numbers room replays
      → found ≡ sizes → first + row.accesses ≡ last
      → row.bytes ≡ asked_between first last found → row.hits.items ≡ map (counted first last found) seen → HasBytes shares numbers sizes room first (first + row.accesses) row
  bytes_are replays seen first last found sizes row same are whole ends asked hits = record {
    asked = asked ∙ ap (asked_between first last) whole ∙ ap (λ n. asked_between first n sizes) (sym ends);
    hits = subst (All (λ h. AreBytes shares numbers sizes room first (first + row.accesses) h.policy h.bytes)) (sym (hits ∙ ap (map (counted first last found)) same))
        (all_mapped (λ h. AreBytes shares numbers sizes room first (first + row.accesses) h.policy h.bytes) (counted first last found) replays
        (λ k d l. record {
          outcomes = (get_or replays k d).outcomes.items;
          replay = are.each k d l;
          are = ap (hit_between first last (get_or replays k d).outcomes.items) whole ∙ ap (λ n. hit_between first n (get_or replays k d).outcomes.items sizes) (sym ends);
        }));
  }

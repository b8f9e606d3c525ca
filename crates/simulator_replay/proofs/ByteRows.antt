-- The hits of a replay in a cache for a number of bytes.
use Rattle.std.proofs.Common.{◌≡◌, ℕ, ◌+◌, ◌-◌, ◌<◌, Bool, true, cond, List, [], ◌∷◌, ◌++◌, Option, Some, length, map, get_or, take, min, refl, ap, ◌∙◌, sym, subst, arith}
use Rattle.std.specs.List.{filter}
use Rattle.std.specs.Option.{is_some}
use Rattle.std.specs.Prelude.{IfSome}
use Rattle.std.proofs.lemmas.List.{map-append, take_all, take_min}
use Rattle.std.proofs.lemmas.List.Elements.{filter_more}
use Rattle.clock2q_machine.specs.Hits.{hit_count}
use Rattle.simulator_policies.specs.declared.plain.PlainPolicy.{PlainPolicy}
use Rattle.simulator_policies.specs.declared.plain.PlainPolicy.TheVariants as plain
use Rattle.simulator_policies.specs.ByteCaches.{Entry, byte_after, byte_outcomes, byte_outcomes_from}
use Rattle.simulator_interface.specs.declared.policy.Policy.{Policy}
use Rattle.simulator_interface.specs.declared.policy.Policy.TheVariants.{LeastRecentlyUsed, FirstInFirstOut}
use Rattle.simulator_interface.specs.declared.row.Hits.{Hits}
use Rattle.simulator_traces.specs.Bytes.{hit_between}
use Rattle.simulator_interface.specs.PolicyNames.{has_bytes}
use Rattle.simulator_replay.specs.ByteRows.{AreByteHits, AreByteOutcomes, IsByteReplay}

-- there is an outcome for each access
one_each : (policy : PlainPolicy) (capacity : ℕ) (trace sizes : List ℕ) (held : List Entry) → length sizes ≡ length trace → length (byte_outcomes_from policy capacity trace sizes held) ≡ length trace
one_each policy capacity [] sizes held e = refl
one_each policy capacity (key ∷ trace) [] held e = absurd (omega (arith, e))
one_each policy capacity (key ∷ trace) (size ∷ sizes) held e =
    omega (arith, one_each policy capacity trace sizes (byte_after policy capacity key size held) (omega (arith, e)))

module _ (plain : PlainPolicy) (capacity : ℕ) (numbers sizes : List ℕ) (sized : length sizes ≡ length numbers) where
  outcomes_long : length (byte_outcomes plain capacity numbers sizes) ≡ length numbers
  outcomes_long = one_each plain capacity numbers sizes [] sized

-- The outcomes of a trace in a cache with a policy are its replay.
module _ (numbers sizes : List ℕ) (capacity : ℕ) (policy : Policy) (outcomes : List Bool) where
  -- of a policy without a definition the length alone is known
  pub byte_replay_is : (named : Policy) → policy ≡ named → length outcomes ≡ length numbers → AreByteOutcomes numbers sizes capacity named outcomes → IsByteReplay numbers sizes capacity policy outcomes
  byte_replay_is named is long are = subst (λ p. IsByteReplay numbers sizes capacity p outcomes) (sym is) (record { long = long; are = are })

  pub least_recent_is : policy ≡ LeastRecentlyUsed → length sizes ≡ length numbers → outcomes ≡ byte_outcomes plain.LeastRecentlyUsed capacity numbers sizes → IsByteReplay numbers sizes capacity policy outcomes
  least_recent_is is sized are = byte_replay_is LeastRecentlyUsed is (ap length are ∙ outcomes_long plain.LeastRecentlyUsed capacity numbers sizes sized) are

  pub first_in_is : policy ≡ FirstInFirstOut → length sizes ≡ length numbers → outcomes ≡ byte_outcomes plain.FirstInFirstOut capacity numbers sizes → IsByteReplay numbers sizes capacity policy outcomes
  first_in_is is sized are = byte_replay_is FirstInFirstOut is (ap length are ∙ outcomes_long plain.FirstInFirstOut capacity numbers sizes sized) are

  -- the hits after the skipped accesses, from the outcomes of all
  pub hits_are : (skipped first last hits bytes : ℕ) (seen : List Bool) → IsByteReplay numbers sizes capacity policy outcomes → seen ≡ outcomes → last ≡ length numbers → first ≡ min skipped last
      → hits ≡ hit_count (take last seen) - hit_count (take first seen) → bytes ≡ hit_between skipped last seen sizes → AreByteHits skipped numbers sizes capacity policy hits bytes
  hits_are skipped first last hits bytes seen replay same long begins counted summed =
      let many : last ≡ length outcomes = omega (arith, long, replay.long) in
      record {
        outcomes = outcomes;
        replay = replay;
        hits = counted ∙ ap (λ xs. hit_count (take last xs) - hit_count (take first xs)) same
            ∙ ap (λ xs. hit_count xs - hit_count (take first outcomes)) (take_all last outcomes (omega (arith, many)))
            ∙ ap (λ xs. hit_count outcomes - hit_count xs) (ap (λ n. take n outcomes) (begins ∙ ap (min skipped) many) ∙ take_min skipped outcomes);
        bytes = summed ∙ ap (λ n. hit_between skipped n seen sizes) long ∙ ap (λ xs. hit_between skipped (length numbers) xs sizes) same;
      }

-- one more policy that is defined
pub defined-more : (hits new : List Hits) (counted : Option Hits) (hit : Hits) (compared : List Policy) (i : ℕ) (d : Policy) → i < length compared → new ≡ hits ++ hit ∷ []
    → map (λ h. h.policy) hits ≡ filter has_bytes (take i compared) → counted ≡ Some hit → IfSome counted (λ h. h.policy ≡ get_or compared i d)
    → is_some counted ≡ has_bytes (get_or compared i d) → map (λ h. h.policy) new ≡ filter has_bytes (take (i + 1) compared)
defined-more hits new counted hit compared i d within pushed are given is defined =
    let has : has_bytes (get_or compared i d) ≡ true = sym defined ∙ ap is_some given in
    let same : hit.policy ≡ get_or compared i d = subst (λ one. IfSome one (λ h. h.policy ≡ get_or compared i d)) given is in
    ap (map (λ h. h.policy)) pushed ∙ map-append (λ h. h.policy) hits (hit ∷ []) ∙ ap (λ ps. ps ++ hit.policy ∷ []) are ∙ ap (λ p. filter has_bytes (take i compared) ++ p ∷ []) same
    ∙ sym (filter_more has_bytes compared i d within ∙ ap (λ b. filter has_bytes (take i compared) ++ cond b (get_or compared i d ∷ []) []) has)

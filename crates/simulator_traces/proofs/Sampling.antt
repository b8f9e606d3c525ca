-- The accesses whose keys are in a sample, with one more.
use Rattle.std.proofs.Common.{◌≡◌, ℕ, ◌+◌, ◌-◌, ◌^◌, min, Bool, true, false, cond, List, [], ◌∷◌, ◌++◌, length, length-append, append-nil, refl, sym, ap, ◌∙◌, arith}
use Rattle.std.proofs.lemmas.List.{map-append}
use Rattle.std.specs.Prelude.{Option, Some, None}
use Rattle.std.specs.List.{filter}
use Rattle.std.proofs.lemmas.List.Elements.{filter-append}
use Rattle.simulator_interface.specs.declared.sample.Sample.{Sample}
use Rattle.simulator_traces.specs.Bytes.{capped}
use Rattle.simulator_traces.specs.Formats.{Access}
use Rattle.simulator_interface.specs.Sample.{is_in_sample}
use Rattle.simulator_traces.specs.Sampled.{is_sampled, sampled}
use Rattle.simulator_traces.specs.Trace.{kept_sizes}

-- one element, if the test gives true
one_kept : (test : Access → Bool) (key : Access) → test key ≡ true → filter test (key ∷ []) ≡ key ∷ []
one_kept test key is = rw is refl

-- and if it gives false
one_dropped : (test : Access → Bool) (key : Access) → test key ≡ false → filter test (key ∷ []) ≡ []
one_dropped test key is = rw is refl

-- a key in the sample comes last
pub sampled_more : (sample : Option Sample) (keys : List Access) (key : Access) → is_sampled sample key.key ≡ true → sampled sample (keys ++ key ∷ []) ≡ sampled sample keys ++ key ∷ []
sampled_more None keys key is = refl
sampled_more (Some sample) keys key is =
    let test = λ (access : Access). is_in_sample sample access.key in
    filter-append test keys (key ∷ []) ∙ ap (λ more. filter test keys ++ more) (one_kept test key is)

-- its size comes last of those that are kept
pub kept_more : (is_sized : Bool) (accesses : List Access) (more : Access) (sizes new : List ℕ)
    → sizes ≡ kept_sizes is_sized accesses → new ≡ cond is_sized (sizes ++ more.size ∷ []) sizes
    → new ≡ kept_sizes is_sized (accesses ++ more ∷ [])
kept_more true accesses more sizes new old n = n ∙ ap (λ s. s ++ more.size ∷ []) old ∙ sym (map-append (λ access. access.size) accesses (more ∷ []))
kept_more false accesses more sizes new old n = n ∙ old

-- another key is left out
pub sampled_same : (sample : Option Sample) (keys : List Access) (key : Access) → is_sampled sample key.key ≡ false → sampled sample (keys ++ key ∷ []) ≡ sampled sample keys
sampled_same None keys key is = absurd (cc)
sampled_same (Some sample) keys key is =
    let test = λ (access : Access). is_in_sample sample access.key in
    filter-append test keys (key ∷ []) ∙ ap (λ more. filter test keys ++ more) (one_dropped test key is) ∙ append-nil (filter test keys)

-- one more access is counted, in the sample or not
pub counted_more : (every : List Access) (more : Access) (new : List Access) (all count : ℕ)
    → new ≡ every ++ more ∷ [] → all ≡ capped (length every) → count ≡ min (all + 1) (2 ^ 64 - 1)
    → count ≡ capped (length new)
counted_more every more new all count pushed counted next =
    let long : length new ≡ length every + 1 = ap length pushed ∙ length-append every (more ∷ []) in
    omega (arith, long, counted, next)

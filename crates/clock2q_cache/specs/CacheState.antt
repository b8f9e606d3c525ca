-- What contracts see of a cache.
use Rattle.std.specs.Prelude.{ℕ, List, refl}
use Rattle.std.specs.Coded.{Coded, code_by, coded×, coded_ℕ}
use Rattle.clock2q_directory.specs.Index.{slots, places}
use Rattle.clock2q_directory.specs.History.{Places, places_code}
use Rattle.clock2q_machine.specs.Machine.{Machine, machine_code}

-- the number of inspections, of accesses to links and of comparisons
pub record Counts : Type 0 where
  pub inspections : ℕ
  pub accesses : ℕ
  pub comparisons : ℕ

-- nothing was counted
abbrev pub uncounted : Counts
uncounted = record { inspections = 0; accesses = 0; comparisons = 0 }

abbrev pub counts_code : Coded Counts
counts_code =
    code_by (ℕ × (ℕ × ℕ)) (coded× coded_ℕ (coded× coded_ℕ coded_ℕ)) (λ c. (c.inspections, (c.accesses, c.comparisons)))
    (λ p. record { inspections = p.0; accesses = p.1.0; comparisons = p.1.1 }) (λ _. refl)

-- the machine that the cache is, the index of its known keys with the places of the history's keys, the state of its
-- hasher, and the counts
pub record CacheState (K V S : Type 0) : Type 0 where
  pub machine : Machine K V
  pub known : Places
  pub hasher : S
  pub counts : Counts

abbrev pub cache_state : {K V S : Type 0} → Machine K V → Places → S → Counts → CacheState K V S
cache_state machine known hasher counts = record { machine = machine; known = known; hasher = hasher; counts = counts }

abbrev pub cache_code : {K V S : Type 0} → Coded K → Coded V → Coded S → Coded (CacheState K V S)
cache_code {K} {V} {S} key value hasher = code_by (Machine K V × (Places × (S × Counts)))
    (coded× (machine_code key value) (coded× places_code (coded× hasher counts_code)))
    (λ c. (c.machine, (c.known, (c.hasher, c.counts))))
    (λ p. cache_state p.0 p.1.0 p.1.1.0 p.1.1.1)
    (λ _. refl)

-- by home, the slots of the residents and the places of the remembered keys: two views of the index
abbrev pub residents_in : Places → List (List (ℕ × ℕ))
residents_in p = slots p.index

abbrev pub remembered_in : Places → List (List (ℕ × ℕ))
remembered_in p = places p.index

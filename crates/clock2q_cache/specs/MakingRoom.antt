-- What an eviction though no key comes does to the index.
use Rattle.std.specs.Prelude.{ℕ, if◌then◌else◌, Option, Some, None}
use Rattle.clock2q_machine.specs.Machine.{Machine, victim_leaves}
use Rattle.clock2q_directory.specs.History.{Places}
use Rattle.clock2q_cache.specs.Places.{left_by, remembering}

module _ {K V : Type 0} where
  -- the key of Small's tail, if it left its slot, is remembered
  abbrev pub retired_from : (K → ℕ) → Option (K × ℕ) → Machine K V → Places → Places
  retired_from hash None m p = p
  retired_from hash (Some r) m p = remembering hash r.0 r.1 m p

  -- the resident that leaves next left its slot, if there is one: Main's victim, or Small's tail, which is remembered
  abbrev pub known_evicted : (K → ℕ) → Option (K × ℕ) → Machine K V → Places → Places
  known_evicted hash None m p = p
  known_evicted hash (Some r) m p = if victim_leaves m then left_by hash (Some r) r.1 p else remembering hash r.0 r.1 m p

-- How a cache's capacity is divided among its queues.
use Rattle.std.specs.Prelude.{ℕ, ◌+◌, ◌-◌, ◌/◌, max, nat_lt, if◌then◌else◌, refl}
use Rattle.std.specs.Coded.{Coded, code_by, coded×, coded_ℕ}

-- the capacity of the cache, Small's share of it, the number of admissions for which an entry of Small is young, and the
-- number of evicted keys that the history remembers
pub record Shares : Type 0 where
  pub capacity : ℕ
  pub small : ℕ
  pub window : ℕ
  pub history : ℕ

-- Main gets what Small leaves
abbrev pub main_share : Shares → ℕ
main_share shares = shares.capacity - shares.small

-- a tenth for Small, but at least one, unless there is only one slot
abbrev pub usual_small : ℕ → ℕ
usual_small capacity = if nat_lt 1 capacity then max (capacity / 10) 1 else 0

-- half of Small's share, rounded up: after that many further admissions to Small a key is no longer young
abbrev pub usual_window : ℕ → ℕ
usual_window capacity = (usual_small capacity + 1) / 2

-- half as many keys as the cache holds
abbrev pub usual_history : ℕ → ℕ
usual_history capacity = capacity / 2

-- the shares of a cache that is made with only a capacity
abbrev pub usual_shares : ℕ → Shares
usual_shares capacity = record {
  capacity = capacity;
  small = usual_small capacity;
  window = usual_window capacity;
  history = usual_history capacity;
}

-- shares are stored as the four numbers
abbrev pub shares_code : Coded Shares
shares_code = code_by (ℕ × (ℕ × (ℕ × ℕ))) (coded× coded_ℕ (coded× coded_ℕ (coded× coded_ℕ coded_ℕ)))
    (λ s. (s.capacity, (s.small, (s.window, s.history))))
    (λ p. record { capacity = p.0; small = p.1.0; window = p.1.1.0; history = p.1.1.1 }) (λ _. refl)

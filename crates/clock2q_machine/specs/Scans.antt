-- A scan: keys that are accessed once, none of which the cache knows when it begins; and how many residents leave.
use Rattle.std.specs.Prelude.{⊤, ◌≡◌, ◌<◌, ℕ, Bool, false, not, List, [], ◌∷◌, map, None, is_some}
use Rattle.std.specs.List.{count_by, AllByRecursion}
use Rattle.clock2q_machine.specs.Ages.{is_promoted}
use Rattle.clock2q_machine.specs.Calls.{Call, Put}
use Rattle.clock2q_machine.specs.Machine.{Machine, slot_of, vacancy}
use Rattle.clock2q_machine.specs.Leaving.{resident_with}
use Rattle.clock2q_machine.specs.Steps.{after}
use Rattle.clock2q_machine.specs.Whole.{known_count}

module _ {K V : Type 0} where
  -- a scan inserts each of its keys with a value
  abbrev pub scan : List (K × V) → List (Call K V)
  scan puts = map (λ p. Put p.0 p.1) puts

  -- Small has a share of the cache, and every slot is a resident's
  pub record IsFullCache (m : Machine K V) : Type 0 where
    pub small_share : 0 < m.shares.small
    pub no_vacancy : vacancy m ≡ None

  -- the number of old keys of Small that were hit: these are promoted to Main
  abbrev pub set_in_small : Machine K V → ℕ
  set_in_small m = count_by (λ e. is_promoted e.age) m.small

  module _ (eq : K → K → Bool) where
    -- the keys differ from one another, and the cache neither holds nor remembers any of them
    abbrev pub IsScan : List (K × V) → Machine K V → Type 0
    IsScan [] m = ⊤
    IsScan (p ∷ puts) m = (known_count (eq p.0) m ≡ 0) × (AllByRecursion (λ q. eq q.0 p.0 ≡ false) puts × IsScan puts m)

    -- the cache neither holds nor remembers any of the keys when its turn comes
    abbrev pub AreNew : List (K × V) → Machine K V → Type 0
    AreNew [] m = ⊤
    AreNew (p ∷ puts) m = (known_count (eq p.0) m ≡ 0) × AreNew puts (after eq (Put p.0 p.1) m)

    -- the number of residents, and of keys of Main, that are no longer resident afterwards
    abbrev pub left_all : Machine K V → Machine K V → ℕ
    left_all m later = resident_with (λ k s. not (is_some (slot_of (eq k) later))) m

    abbrev pub left_main : Machine K V → Machine K V → ℕ
    left_main m later = count_by (λ e. not (is_some (slot_of (eq e.key) later))) m.main

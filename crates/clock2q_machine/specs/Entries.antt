-- The entries of Small and of Main, and the changes of a queue's list: a hit, an admission to Small, the hand's choice
-- in Main.
use Rattle.std.specs.Prelude.{ℕ, Bool, true, false, if◌then◌else◌, List, [], ◌∷◌, ◌++◌, map, Option, Some, None, refl}
use Rattle.clock2q_machine.specs.Hand as hand
use Rattle.std.specs.Coded.{Coded, code_by, coded×, coded_ℕ, coded_bool}
use Rattle.clock2q_machine.specs.Ages.{Age, Young, touched, grown_older, age_code}

-- a resident of Small
pub record SmallEntry (K : Type 0) : Type 0 where
  pub key : K
  pub slot : ℕ
  pub age : Age

-- a resident of Main, with its hit bit
pub record MainEntry (K : Type 0) : Type 0 where
  pub key : K
  pub slot : ℕ
  pub bit : Bool

module _ {K : Type 0} where
  abbrev pub with_age : SmallEntry K → Age → SmallEntry K
  with_age e age = record e { age = age }

  abbrev pub with_bit : MainEntry K → Bool → MainEntry K
  with_bit e bit = record e { bit = bit }

  -- Small after a hit on the key that passes the test
  abbrev pub small_hit : (K → Bool) → List (SmallEntry K) → List (SmallEntry K)
  small_hit is small = map (λ e. if is e.key then with_age e (touched e.age) else e) small

  -- Main after a hit on the key that passes the test: its bit is set
  abbrev pub main_hit : (K → Bool) → List (MainEntry K) → List (MainEntry K)
  main_hit is main = map (λ e. if is e.key then with_bit e true else e) main

  -- the new entry is in front, and all young ones grow older
  abbrev pub small_admitted : ℕ → K → ℕ → List (SmallEntry K) → List (SmallEntry K)
  small_admitted window key slot small = record { key = key; slot = slot; age = Young 0 } ∷ map (λ e. with_age e (grown_older window e.age)) small

  -- the number of entries that the hand passes and of its inspections, and Main from its victim
  abbrev pub set_front : List (MainEntry K) → ℕ
  set_front main = hand.set_front (λ e. e.bit) main

  abbrev pub inspections : List (MainEntry K) → ℕ
  inspections main = hand.inspections (λ e. e.bit) main

  abbrev pub from_victim : List (MainEntry K) → List (MainEntry K)
  from_victim main = hand.from_victim (λ e. e.bit) (λ e. with_bit e false) main

  -- an entry's key and slot, if there is an entry
  abbrev pub first_of : List (MainEntry K) → Option (K × ℕ)
  first_of [] = None
  first_of (e ∷ main) = Some (e.key, e.slot)

  -- a new entry of Main is last, just before the hand, with a clear bit
  abbrev pub behind_hand : K → ℕ → List (MainEntry K) → List (MainEntry K)
  behind_hand key slot main = main ++ record { key = key; slot = slot; bit = false } ∷ []

-- The codes by which a model may hold these.

module _ {K : Type 0} where
  abbrev pub small_entry_code : Coded K → Coded (SmallEntry K)
  small_entry_code key = code_by (K × (ℕ × Age)) (coded× key (coded× coded_ℕ age_code)) (λ e. (e.key, (e.slot, e.age))) (λ p. record { key = p.0; slot = p.1.0; age = p.1.1 }) (λ _. refl)

  abbrev pub main_entry_code : Coded K → Coded (MainEntry K)
  main_entry_code key = code_by (K × (ℕ × Bool)) (coded× key (coded× coded_ℕ coded_bool)) (λ e. (e.key, (e.slot, e.bit))) (λ p. record { key = p.0; slot = p.1.0; bit = p.1.1 }) (λ _. refl)

-- A closure that returns the hashes of held handles.
use Rattle.std.specs.Prelude.{◌≡◌, ℕ, List, [], ◌∷◌, slice_get, Some, map}
use Rattle.std.specs.Fn.{Called, Takes, Mut}
use Rattle.clock2q_handles.specs.Homes.{listed}
use Rattle.clock2q_handles.specs.Layout.{entries, layout}
use Rattle.clock2q_handles.specs.TableStep.{IsHashOf, IsFull, grown}

-- some entry holds the handle
abbrev pub IsHeld : {H : Type 0} → List (List (ℕ × H)) → H → Type 0
IsHeld {H} homes v = (n : ℕ) × (i : ℕ) × (e : ℕ × H) × (slice_get (listed homes n) i ≡ Some e) × (e.1 ≡ v)

-- the handles that are held, by slot
abbrev pub held_handles : {H : Type 0} → List (List (ℕ × H)) → List H
held_handles homes = map (λ s. s.entry.1) (entries (layout homes))

module _ {F H : Type 0} (g : Mut F (H × Unit {0}) ℕ) (key : H → ℕ) where
  -- f may be called on the first of the handles, returns its key, and may then be called on the next
  abbrev pub AnswersInTurn : F → List H → Type 0
  AnswersInTurn f [] = Unit {0}
  AnswersInTurn f (h ∷ hs) = Takes g f (h, tt) × ((r : ℕ) (next : F) → Called g f (h, tt) r next → (r ≡ key h) × AnswersInTurn next hs)

  -- f was called on each of the handles in turn, and returned its key
  abbrev pub Asks : F → List H → F → Type 0
  Asks f [] f' = f' ≡ f
  Asks f (h ∷ hs) f' = (next : F) × Called g f (h, tt) (key h) next × Asks next hs f'

-- f may be called on the held handles in turn, by slot, and returns for them the hashes of a function, key, which has each entry's home and fingerprint
pub record GivesHashes {F H : Type 0} (g : Mut F (H × Unit {0}) ℕ) (key : H → ℕ) (homes : List (List (ℕ × H))) (f : F) : Type 0 where
  pub in_turn : AnswersInTurn g key f (held_handles homes)
  pub hashes : IsHashOf key homes

module _ {F H : Type 0} (g : Mut F (H × Unit {0}) ℕ) (f : F) (homes : List (List (ℕ × H))) where
  -- f may be called on each held handle once, by slot, and returns the hashes of some function
  abbrev pub MayRehash : Type 0
  MayRehash = (key : H → ℕ) × GivesHashes g key homes f

  -- one call of f on each held handle, in the order of their slots, turns f into `last`
  abbrev pub AsksHeld : F → Type 0
  AsksHeld last = (key : H → ℕ) → GivesHashes g key homes f → Asks g key f (held_handles homes) last

  -- P holds of the lists that an insertion starts from: if the table is full, those after it has grown
  abbrev pub AfterGrowth : (List (List (ℕ × H)) → Type 0) → Type 0
  AfterGrowth P = (key : H → ℕ) → (IsFull homes → GivesHashes g key homes f) → P (grown key homes)

-- A closure that calls don't change returns the hashes of handles.
use Rattle.std.proofs.Common.{◌≡◌, ℕ, List, refl, ◌∙◌, subst, sym}
use Rattle.std.specs.Fn.{Called, Takes, Mut}
use Rattle.clock2q_handles.specs.Rehash.{GivesHashes}
use Rattle.clock2q_handles.proofs.HashOfHandle.{keyed_given_by}
use Rattle.clock2q_table_commands.specs.TableCommands.{IsHashing}

module _ {F H : Type 0} (g : Mut F (H × Unit {0}) ℕ) (stays : (f : F) (h : H) (r : ℕ) (next : F) → Called g f (h, tt) r next → next ≡ f) where
  -- if it may be called on each handle, and returns what the hashing one does
  pub given-same : (answers : H → ℕ → Type 0) (key : H → ℕ) (homes : List (List (ℕ × H))) (f : F) → IsHashing answers key homes → ((h : H) → Takes g f (h, tt))
      → ((h : H) (r : ℕ) (next : F) → Called g f (h, tt) r next → answers h r) → GivesHashes g key homes f
  given-same answers key homes f hashing takes same =
      keyed_given_by key g homes (λ q. q ≡ f) (λ q h is held. subst (λ p. Takes g p (h, tt)) (sym is) (takes h))
      (λ q h r next is held called. (hashing.one h r (same h r next (subst (λ p. Called g p (h, tt) r next) is called)), stays q h r next called ∙ is)) f refl hashing.hashes

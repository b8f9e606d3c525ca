use Rattle.std.proofs.Common.{◌≡◌, ℕ, Bool, true, eqb, ltb, Option, Some, None, List, [], ◌∷◌, inl, inr, refl, sym, subst}
use Rattle.std.specs.Prelude.{IfSome, IsSome}
use Rattle.std.specs.List.{find, AllByRecursion}
use Rattle.std.proofs.lemmas.Bool.{cases_Bool}
use Rattle.clock2q_directory.specs.Index.{first_remembered, slots_among}
use Rattle.clock2q_directory.specs.Keys.{is_key_at}
use Rattle.clock2q_directory.proofs.Indexes.{candidates_there}
use Rattle.clock2q_directory.proofs.Lookups.{found_there}
use Rattle.tests_queues.proofs.keys.place_of.Goals as goal

found_passes : (test : ℕ → Bool) (cs : List ℕ) (o : Option ℕ) → o ≡ find test cs → IfSome o (λ p. test p ≡ true)
found_passes test cs None e = tt
found_passes test cs (Some p) e = (found_there test cs p e).1

all_slots : (P : ℕ → Type 0) (cs : List ℕ) → AllByRecursion P cs → AllByRecursion P (slots_among cs)
all_slots P [] a = tt
all_slots P (c ∷ cs) a = elim (cases_Bool (ltb c first_remembered)) [
  | inl e ↦ rw e ((a.0, all_slots P cs a.1))
  | inr e ↦ rw e (all_slots P cs a.1)
]

pub find_counting_in-found-requires : goal.find_counting_in-found-requires
find_counting_in-found-requires c =
    record {
      used = rw c.get.ensures.candidates
          (all_slots _ _ (candidates_there c.args.index.now.homes c.args.keys.now.entries c.requires.indexed.0 c.args.hash c.requires.indexed.1));
    }

pub find-again-requires : goal.find-again-requires
find-again-requires c =
    record {
      walking = subst IsSome (sym c.get_in_slots.ensures.end) refl;
      used = rw c.get_in_slots.ensures.candidates
          (all_slots _ _ (candidates_there c.args.index.now.homes c.args.keys.now.entries c.requires.indexed.0 c.args.hash c.requires.indexed.1));
    }

pub returns-clause-has : goal.returns-clause-has
returns-clause-has c = found_passes (λ p. is_key_at eqb c.args.key c.args.keys.now.entries p) (slots_among c.get.result.left) c.find_counting_in-found.result c.find_counting_in-found.ensures.found

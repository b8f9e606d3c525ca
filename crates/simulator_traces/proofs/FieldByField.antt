-- The field in a column of a line, byte by byte.
use Rattle.std.proofs.Common.{◌≡◌, ℕ, zero, suc, ◌-◌, ◌<◌, ◌≤◌, List, [], ◌∷◌, ◌++◌, refl, sym, ap, ◌∙◌, arith, append_assoc, append-nil, Bool, true, false, Option, None, Some}
use Rattle.std.specs.Bool.{MatchBool}
use Rattle.std.specs.List.{slice_get}
use Rattle.std.specs.Option.{option_and_then}
use Rattle.std.proofs.lemmas.Iterator.Adapters.{option_map_id}
use Rattle.simulator_traces.specs.declared.csv.Place.{Place}
use Rattle.simulator_traces.specs.declared.csv.Place.TheVariants.{Start, Quoted, Closed}
use Rattle.simulator_traces.specs.declared.csv.Step.{Step}
use Rattle.simulator_traces.specs.declared.csv.Step.TheVariants.{Add, Skip, End}
use Rattle.simulator_traces.specs.Fields.{IsEarly, after_step, found, found_in}
use Rattle.simulator_traces.specs.Formats.{field, fields_from, fields_of, with_byte, with_end, without_return}

-- nothing of the line was read
pub found-first : (separator column : ℕ) (line : List ℕ) → 0 < column → found_in column [] (fields_from separator Start (without_return line)) ≡ field separator column line
found-first separator column line some = each (fields_of separator line) where
  at : (column : ℕ) (fields : List (List ℕ)) → 0 < column → found column [] fields ≡ slice_get fields (column - 1)
  at zero fields h = absurd (omega arith)
  at (suc zero) fields h = option_map_id (slice_get fields 0)
  at (suc (suc n)) fields h = let less : suc n ≡ suc (suc n) - 1 = omega arith in ap (slice_get fields) less

  each : (fields : Option (List (List ℕ))) → found_in column [] fields ≡ option_and_then (λ fields. slice_get fields (column - 1)) fields
  each None = refl
  each (Some fields) = at column fields some

-- a byte of a field
pub found-byte : (left : ℕ) (key : List ℕ) (byte : ℕ) (fields : Option (List (List ℕ))) → left ≡ 1 → found_in left key (with_byte byte fields) ≡ found_in left (key ++ byte ∷ []) fields
found-byte left key byte None e = refl
found-byte left key byte (Some []) e = rw e refl
found-byte left key byte (Some (field ∷ fields)) e = rw e (ap Some (sym (append_assoc key (byte ∷ []) field)))

pub found-other : (left : ℕ) (key : List ℕ) (byte : ℕ) (fields : Option (List (List ℕ))) → (left ≡ 1 → ⊥) → found_in left key (with_byte byte fields) ≡ found_in left key fields
found-other left key byte None h = refl
found-other zero key byte (Some fields) h = refl
found-other (suc zero) key byte (Some fields) h = absurd (h refl)
found-other (suc (suc n)) key byte (Some []) h = refl
found-other (suc (suc n)) key byte (Some (field ∷ fields)) h = refl

-- the end of a field
pub found-end : (left : ℕ) (key : List ℕ) (fields : Option (List (List ℕ))) (less : ℕ) → less ≡ left - 1 → IsEarly left key → found_in left key (with_end fields) ≡ found_in less key fields
found-end left key None less e early = refl
found-end zero key (Some fields) less e early = let none : less ≡ 0 = omega arith in rw none refl
found-end (suc zero) key (Some fields) less e early = let none : less ≡ 0 = omega arith in rw none (ap Some (append-nil key))
found-end (suc (suc zero)) key (Some fields) less e early =
    let one : less ≡ 1 = omega arith in
    rw (one, early (omega arith)) (sym (option_map_id (slice_get fields 0)))
found-end (suc (suc (suc n))) key (Some fields) less e early = let more : less ≡ suc (suc n) = omega arith in rw more refl

-- the end of the line
last : (left : ℕ) (key : List ℕ) → left ≤ 1 → found left key ([] ∷ []) ≡ Some key
last zero key h = refl
last (suc zero) key h = ap Some (append-nil key)
last (suc (suc n)) key h = absurd (omega arith)

pub found-last : (separator left : ℕ) (key : List ℕ) (place : Place) (is_end : Bool) (wanted : Option (List ℕ)) → left ≤ 1 → found_in left key (fields_from separator place []) ≡ wanted
    → MatchBool is_end (fields_from separator place [] ≡ Some ([] ∷ [])) (fields_from separator place [] ≡ None) → MatchBool is_end (wanted ≡ Some key) (wanted ≡ None)
found-last separator left key place true wanted low e ends = sym e ∙ ap (found_in left key) ends ∙ last left key low
found-last separator left key place false wanted low e none = sym e ∙ ap (found_in left key) none

-- a quote after a quote
pub second-quote : (separator : ℕ) (place : Place) (byte : ℕ) (rest : List ℕ) → place ≡ Closed → byte ≡ 34 → fields_from separator place (byte ∷ rest) ≡ with_byte byte (fields_from separator Quoted rest)
second-quote separator place byte rest p q = rw (p, q) refl

-- a step on the way to the key
module _ (separator left : ℕ) (key : List ℕ) (place next : Place) (byte : ℕ) (step : Step) (h : (rest : List ℕ) → fields_from separator place (byte ∷ rest) ≡ after_step separator (Some step) byte rest) where
  pub steps : (other : Step) → step ≡ other → (rest : List ℕ) → found_in left key (fields_from separator place (byte ∷ rest)) ≡ found_in left key (after_step separator (Some other) byte rest)
  steps other e rest = ap (found_in left key) (h rest ∙ ap (λ s. after_step separator (Some s) byte rest) e)

  pub skips : step ≡ Skip next → (rest : List ℕ) → found_in left key (fields_from separator place (byte ∷ rest)) ≡ found_in left key (fields_from separator next rest)
  skips e rest = steps (Skip next) e rest

  pub ends : (less : ℕ) → step ≡ End → less ≡ left - 1 → IsEarly left key → (rest : List ℕ) → found_in left key (fields_from separator place (byte ∷ rest)) ≡ found_in less key (fields_from separator Start rest)
  ends less e l early rest = steps End e rest ∙ found-end left key (fields_from separator Start rest) less l early

  pub adds : (longer : List ℕ) → step ≡ Add next → left ≡ 1 → longer ≡ key ++ byte ∷ []
      → (rest : List ℕ) → found_in left key (fields_from separator place (byte ∷ rest)) ≡ found_in
      left longer (fields_from separator next rest)
  adds longer e one l rest = steps (Add next) e rest ∙ found-byte left key byte (fields_from separator next rest) one ∙ ap (λ k. found_in left k (fields_from separator next rest)) (sym l)

  pub passes : step ≡ Add next → (left ≡ 1 → ⊥) → (rest : List ℕ) → found_in left key (fields_from separator place (byte ∷ rest)) ≡ found_in left key (fields_from separator next rest)
  passes e other rest = steps (Add next) e rest ∙ found-other left key byte (fields_from separator next rest) other

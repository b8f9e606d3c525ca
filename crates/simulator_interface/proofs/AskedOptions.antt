-- What words choose, with one word more.
use Rattle.std.proofs.Common.{◌≡◌, Bool, true, false, cond, ◌||◌, ℕ, ◌+◌, ◌<◌, List, [], ◌∷◌, ◌++◌, Option, None, Some, length, drop, get_or, refl, sym, ap, ◌∙◌}
use Rattle.std.specs.Prelude.{codes, if◌then◌else◌}
use Rattle.std.specs.Str.{bytes_eq}
use Rattle.std.specs.List.{fold}
use Rattle.std.specs.Option.{is_some, option_and_then, option_map, option_or, option_to_list}
use Rattle.std.proofs.lemmas.List.{append_assoc, drop_more}
use Rattle.std.proofs.lemmas.List.Sums.{fold-append}
use Rattle.simulator_interface.specs.declared.chosen.Valued.{Valued}
use Rattle.simulator_interface.specs.declared.chosen.Valued.TheVariants as option
use Rattle.simulator_interface.specs.declared.policy.Policy.{Policy}
use Rattle.simulator_interface.specs.Amounts.{says_reading, says_replay, takes_value}
use Rattle.simulator_interface.specs.AskedOptions.{Choices, awaited_after, is_name, names_from, option_named, policies_named, replay_named, set, setting_in, settings_from, traces_named}
use Rattle.simulator_interface.specs.PolicyNames.{policy_named}

-- with none before them, policies are themselves
pub after_none : {X : Type 0} (some : List X) (xs : Option (List X)) → some ≡ [] → option_map (λ more. some ++ more) xs ≡ xs
after_none some None e = refl
after_none some (Some xs) e = ap (λ before. Some (before ++ xs)) e

longer : (old new : List Policy) (policy : Policy) (rest : Option (List Policy)) → new ≡ old ++ policy ∷ []
    → option_map (λ more. new ++ more) rest ≡ option_map (λ more. old ++ more) (option_map (λ policies. policy ∷ policies) rest)
longer old new policy None e = refl
longer old new policy (Some rest) e = ap Some (ap (λ xs. xs ++ rest) e ∙ append_assoc old (policy ∷ []) rest)

-- one word names one policy more
pub policies_more : (old new : List Policy) (policy : Policy) (words : List (List ℕ)) (i : ℕ) → i < length words → policy_named (get_or words i []) ≡ Some policy → new ≡ old ++ policy ∷ []
    → option_map (λ more. new ++ more) (policies_named (drop (i + 1) words)) ≡ option_map (λ more. old ++ more) (policies_named (drop i words))
policies_more old new policy words i within named e =
    let rest = policies_named (drop (i + 1) words) in
    longer old new policy rest e
    ∙ sym (ap (λ ws. option_map (λ more. old ++ more) (policies_named ws)) (drop_more words i [] within)
    ∙ ap (λ found. option_map (λ more. old ++ more) (option_and_then (λ first. option_map (λ policies. first ∷ policies) rest) found)) named)

-- one word sets what it sets, and the rest sets what it did
pub settled_more : (old new : Choices) (before after : Option Valued) (word : List ℕ) (rest : List (List ℕ)) → after ≡ awaited_after before word → new ≡ fold set old (option_to_list (setting_in before word))
    → fold set new (settings_from after rest) ≡ fold set old (settings_from before (word ∷ rest))
settled_more old new before after word rest a n =
    ap (λ c. fold set c (settings_from after rest)) n ∙ ap (λ awaited. fold set (fold set old (option_to_list (setting_in before word))) (settings_from awaited rest)) a
    ∙ sym (fold-append set old (option_to_list (setting_in before word)) (settings_from (awaited_after before word) rest))

-- the same of the names of traces
pub names_more : (old new : List ℕ) (index : ℕ) (before after : Option Valued) (word : List ℕ) (rest : List (List ℕ)) → after ≡ awaited_after before word
    → new ≡ old ++ (if is_name before word then index ∷ [] else []) → new ++ names_from (index + 1) after rest ≡ old ++ names_from index before (word ∷ rest)
names_more old new index before after word rest a n =
    ap (λ names. names ++ names_from (index + 1) after rest) n ∙ ap (λ awaited. (old ++ (if is_name before word then index ∷ [] else [])) ++ names_from (index + 1) awaited rest) a
    ∙ append_assoc old (if is_name before word then index ∷ [] else []) (names_from (index + 1) (awaited_after before word) rest)

-- one of five is chosen where one of five tests is true
one-of : {X : Type 0} (u v w x y : X) (a b c d e : Bool) → is_some (cond a (Some u) (cond b (Some v) (cond c (Some w) (cond d (Some x) (cond e (Some y) None))))) ≡ (a || b || c || d || e)
one-of u v w x y true b c d e = refl
one-of u v w x y false true c d e = refl
one-of u v w x y false false true d e = refl
one-of u v w x y false false false true e = refl
one-of u v w x y false false false false true = refl
one-of u v w x y false false false false false = refl

named-either : {X : Type 0} (one other : Option X) (b r : Bool) → is_some one ≡ b → is_some other ≡ r → is_some (option_or one other) ≡ (b || r)
named-either None other b r e f = rw (sym e) f
named-either (Some x) other b r e f = rw (sym e) refl

-- an option takes a value if its name is one of those
pub named-takes : (word : List ℕ) → is_some (option_named word) ≡ takes_value word
named-takes word =
    let is = λ (name : List ℕ). bytes_eq word name in
    named-either (replay_named word) (traces_named word) (says_replay word) (says_reading word)
    (one-of option.Policies option.Shares option.Shares option.Skip option.Window
    (is (codes "--policies")) (is (codes "--shares")) (is (codes "--policy")) (is (codes "--skip")) (is (codes "--window")))
    (one-of option.Format option.Column option.SizeColumn option.Separator option.Sample
    (is (codes "--format")) (is (codes "--column")) (is (codes "--size-column")) (is (codes "--separator")) (is (codes "--sample")))

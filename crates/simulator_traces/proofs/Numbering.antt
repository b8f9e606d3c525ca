-- Keys are identified by their numbers.
use Rattle.std.proofs.Common.{◌≡◌, ◌≤◌, ◌<◌, ℕ, List, [], ◌∷◌, ◌++◌, Some, inl, inr, length, length-append, get_or, slice_get, sym, ap, ◌∙◌, arith}
use Rattle.std.proofs.lemmas.Bool.{cases_lt}
use Rattle.std.proofs.lemmas.List.{get_or_append_left}
use Rattle.std.proofs.lemmas.List.Elements.{Contains-append_left, Contains-append_right}
use Rattle.std.proofs.lemmas.Option.{slice_get_within}
use Rattle.std.proofs.Math.Seq.{get_or-append_seam}
use Rattle.simulator_traces.specs.KnownKeys.{AreApart}
use Rattle.simulator_traces.specs.Trace.{AreNumbersOf, AreUsed, IsNumbering}

pub numbers_are : (known : List (List ℕ)) (numbers : List ℕ) (keys : List (List ℕ)) → IsNumbering known numbers keys → AreNumbersOf keys numbers (length known)
numbers_are known numbers keys is = record {
  alike = record {
    long = is.long;
    alike = λ place other l m. (
      (λ same. is.apart.apart (get_or numbers place 0) (get_or numbers other 0) (get_or keys place []) (is.each place l) (is.each other m ∙ ap Some (sym same))),
      (λ same.
          let both : Some (get_or keys place []) ≡ Some (get_or keys other []) = sym (is.each place l) ∙ ap (slice_get known) same ∙ is.each other m in
          cc),
    );
  };
  below = λ place l. slice_get_within known (get_or numbers place 0) (get_or keys place []) (is.each place (omega (arith, l, is.long)));
  used = is.used;
  few = is.apart.few;
}

-- the used numbers stay used when one more is added, and that one is used too
pub used_more : (numbers : List ℕ) (few many number : ℕ) → AreUsed numbers few → ((other : ℕ) → few ≤ other → other < many → other ≡ number) → AreUsed (numbers ++ number ∷ []) many
used_more numbers few many number used only other below = elim (cases_lt other few) [
  | inl old ↦ Contains-append_left numbers (number ∷ []) other (used other old)
  | inr from ↦ Contains-append_right numbers (number ∷ []) other (0, omega arith, sym (only other from below))
]

-- one more key, with its number: it is the only one that may be new
pub numbering_more : (known more : List (List ℕ)) (numbers : List ℕ) (keys : List (List ℕ)) (number : ℕ) (key : List ℕ) → IsNumbering known numbers keys → AreApart more
    → slice_get more number ≡ Some key → ((at : ℕ) (other : List ℕ) → slice_get known at ≡ Some other → slice_get more at ≡ Some other)
    → ((other : ℕ) → length known ≤ other → other < length more → other ≡ number) → IsNumbering more (numbers ++ number ∷ []) (keys ++ key ∷ [])
numbering_more known more numbers keys number key is apart here kept only = record {
  apart = apart;
  long = omega (arith, is.long, length-append numbers (number ∷ []), length-append keys (key ∷ []));
  each = λ place l. elim (cases_lt place (length keys)) [
    | inl old ↦ ap (slice_get more) (get_or_append_left numbers (number ∷ []) 0 place (omega (arith, old, is.long)))
        ∙ kept (get_or numbers place 0) (get_or keys place []) (is.each place old) ∙ ap Some (sym (get_or_append_left keys (key ∷ []) [] place old))
    | inr from ↦
        let last : place ≡ length keys = omega (arith, from, l, length-append keys (key ∷ [])) in
        ap (slice_get more) (ap (λ p. get_or (numbers ++ number ∷ []) p 0) (last ∙ sym is.long) ∙ get_or-append_seam numbers number [] 0)
        ∙ here ∙ ap Some (sym (ap (λ p. get_or (keys ++ key ∷ []) p []) last ∙ get_or-append_seam keys key [] []))
  ];
  used = used_more numbers (length known) (length more) number is.used only;
}

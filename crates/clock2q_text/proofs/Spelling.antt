-- The calls that lines spell, as a loop over the lines collects them.
use Rattle.std.proofs.Common.{◌≡◌, ℕ, ◌+◌, ◌<◌, ◌≤◌, List, [], ◌∷◌, ◌++◌, Option, Some, None, Result, Ok, Err, refl, sym, ap, ◌∙◌, subst, arith}
use Rattle.std.specs.Prelude.{IsSome}
use Rattle.std.specs.Borrow.{Bor}
use Rattle.std.specs.Option.{ok_or, option_map}
use Rattle.clock2q_machine.specs.Calls.{Call}
use Rattle.clock2q_machine.specs.Shares.{Shares}
use Rattle.clock2q_text.specs.Cut.{first_and_others}
use Rattle.clock2q_text.specs.Parsing.{Refuses}
use Rattle.clock2q_ports.specs.Lines.{lines_of}
use Rattle.clock2q_text.specs.Text.{words_of, shares_in, call_in, call_then, with_call, calls_from, script_in, script_of, script_then, script_with}
use Rattle.clock2q_text.specs.declared.serve_error.ServeError.{ServeError}
use Rattle.clock2q_text.specs.declared.serve_error.ServeError.TheVariants.{BadLine, Memory, Capacity, Policy, Read, Write}

-- the calls collected so far, before those still to come
abbrev pub gathered : List (Call ℕ ℕ) → Result (List (Call ℕ ℕ)) ℕ → Result (List (Call ℕ ℕ)) ℕ
gathered front (Ok calls) = Ok (front ++ calls)
gathered front (Err line) = Err line

-- the lines of a text whose first line was found
pub lines_of-found : (text : List ℕ) (found : Option (Bor (List ℕ) × Bor (List ℕ))) (first others : Bor (List ℕ))
    → lines_of text ≡ first_and_others found → found ≡ Some (first, others) → lines_of text ≡ first.now ∷ lines_of others.now
lines_of-found text found first others e some = e ∙ ap first_and_others some

-- the shares of words in which some were found
pub shares_in-found : {X : Type 0} (view : X → Shares) (words : List (List ℕ)) (found : Option X) (x : X) → option_map view found ≡ shares_in words → found ≡ Some x → shares_in words ≡ Some (view x)
shares_in-found view words found x e some = sym e ∙ ap (option_map view) some

-- a text without lines
pub script_of-empty : (text : List ℕ) → lines_of text ≡ [] → script_of text ≡ Err 1
unfolding script_of
script_of-empty text e = ap script_in e

-- a first line that spells no shares
pub script_of-bad : (text first : List ℕ) (lines : List (List ℕ)) → lines_of text ≡ first ∷ lines → shares_in (words_of first) ≡ None → script_of text ≡ Err 1
unfolding script_of
script_of-bad text first lines e none = ap script_in e ∙ ap (λ c. script_then c (calls_from 2 lines)) none

-- a first line that spells shares
pub script_of-good : (text first : List ℕ) (lines : List (List ℕ)) (shares : Shares) → lines_of text ≡ first ∷ lines
    → shares_in (words_of first) ≡ Some shares → script_of text ≡ script_with shares (calls_from 2 lines)
unfolding script_of
script_of-good text first lines shares e some = ap script_in e ∙ ap (λ c. script_then c (calls_from 2 lines)) some

-- the first bad line isn't before the first line
calls_from-below : (n : ℕ) (lines : List (List ℕ)) (bad : ℕ) → calls_from n lines ≡ Err bad → n ≤ bad
calls_from-below n [] bad e = cc
calls_from-below n (line ∷ lines) bad e = below (call_in (words_of line)) (calls_from (n + 1) lines) (λ h. calls_from-below (n + 1) lines bad h) e where
  below : (o : Option (Call ℕ ℕ)) (read : Result (List (Call ℕ ℕ)) ℕ) → (read ≡ Err bad → n + 1 ≤ bad) → call_then n o read ≡ Err bad → n ≤ bad
  below None read h e = let same : n ≡ bad = cc in omega (arith, same)
  below (Some call) (Ok calls) h e = cc
  below (Some call) (Err line) h e = omega (arith, h e)

-- nor is it the first line if that spells a call
pub gathered-later : (front : List (Call ℕ ℕ)) (n : ℕ) (lines : List (List ℕ)) (line : List ℕ) (others : List (List ℕ)) (call : Call ℕ ℕ) (bad : ℕ)
    → lines ≡ line ∷ others → call_in (words_of line) ≡ Some call → gathered front (calls_from n lines) ≡ Err bad → n < bad
gathered-later front n lines line others call bad e some h =
    later (calls_from (n + 1) others) (λ b. calls_from-below (n + 1) others bad b)
    (subst (λ o. gathered front (call_then n o (calls_from (n + 1) others)) ≡ Err bad) some (subst (λ ls. gathered front (calls_from n ls) ≡ Err bad) e h)) where
      later : (read : Result (List (Call ℕ ℕ)) ℕ) → (read ≡ Err bad → n + 1 ≤ bad) → gathered front (with_call call read) ≡ Err bad → n < bad
      later (Ok calls) b h = cc
      later (Err line) b h = omega (arith, b h)

-- the same, if it spells any call
pub gathered-spelled : (front : List (Call ℕ ℕ)) (n : ℕ) (lines : List (List ℕ)) (line : List ℕ) (others : List (List ℕ)) (bad : ℕ)
    → lines ≡ line ∷ others → IsSome (call_in (words_of line)) → gathered front (calls_from n lines) ≡ Err bad → n < bad
gathered-spelled front n lines line others bad e some h = spelled (call_in (words_of line)) refl some where
  spelled : (o : Option (Call ℕ ℕ)) → call_in (words_of line) ≡ o → IsSome o → n < bad
  spelled None is k = cc
  spelled (Some call) is k = gathered-later front n lines line others call bad e is h

-- a refusal of the calls is one of the script
pub Refuses-script : (shares : Shares) (read : Result (List (Call ℕ ℕ)) ℕ) (refusal : ServeError) → Refuses refusal read → Refuses refusal (script_with shares read)
Refuses-script shares read (BadLine line) h = ap (script_with shares) h
Refuses-script shares (Ok calls) Memory h = λ line e. cc
Refuses-script shares (Err bad) Memory h = λ line e. let same : bad ≡ line = cc in h line (ap Err same)
Refuses-script shares read Capacity h = h
Refuses-script shares read Policy h = h
Refuses-script shares read Read h = h
Refuses-script shares read Write h = h

-- line 1 is refused if something is missing
pub Refuses-first : {X Y : Type 0} (o : Option X) (refusal : ServeError) (spelled : Result Y ℕ)
    → ◌≡◌ {A = Result X ServeError} (Err refusal) (ok_or o (BadLine 1)) → (o ≡ None → spelled ≡ Err 1) → Refuses refusal spelled
Refuses-first (Some x) refusal spelled e h = cc
Refuses-first {Y = Y} None refusal spelled e h =
    let same : BadLine 1 ≡ refusal = cc in
    subst (λ r. Refuses r spelled) same (h refl)

-- The calls that a text spells are supplied with values.
use Rattle.std.proofs.Common.{◌≡◌, ℕ, ◌+◌, Bool, true, false, cond, List, [], ◌∷◌, Option, Some, None, Result, Ok, Err, subst}
use Rattle.std.specs.Prelude.{codes, ⊤}
use Rattle.std.specs.Option.{option_and_then, option_map, option_or}
use Rattle.std.specs.Str.{bytes_eq}
use Rattle.clock2q_machine.specs.Shares.{Shares}
use Rattle.clock2q_machine.specs.Calls.{Call, Put, Get, Peek, Contains, GetAt, Set, With, Try, SlotFor, Remove, Retain, Clear, Prefill, Len, IsEmpty, Capacity}
use Rattle.clock2q_text.specs.Commands.{IsSupplied, AreSupplied}
use Rattle.clock2q_ports.specs.Lines.{lines_of}
use Rattle.clock2q_text.specs.Text.{Script, number_of, tried_of, bit_of, all_read, some_read, without, with_one, with_two, numbers_call, list_call, lone_call, call_in, words_of, shares_in, calls_from, call_then, script_in, script_of, script_then}

-- a call, if there is one, is supplied
abbrev Supplied : Option (Call ℕ ℕ) → Type 0
Supplied None = ⊤
Supplied (Some call) = IsSupplied call

-- either side of a test, and the first one that exists
either : (b : Bool) (o p : Option (Call ℕ ℕ)) → Supplied o → Supplied p → Supplied (cond b o p)
either true o p h k = h
either false o p h k = k

first : (o p : Option (Call ℕ ℕ)) → Supplied o → Supplied p → Supplied (option_or o p)
first None p h k = k
first (Some call) p h k = h

module _ {Y : Type 0} where
  mapped : (make : Y → Call ℕ ℕ) → ((y : Y) → IsSupplied (make y)) → (o : Option Y) → Supplied (option_map make o)
  mapped make h None = tt
  mapped make h (Some y) = h y

  one : (read : List ℕ → Option Y) (make : Y → Call ℕ ℕ) → ((y : Y) → IsSupplied (make y)) → (words : List (List ℕ)) → Supplied (with_one read make words)
  one read make h [] = tt
  one read make h (word ∷ []) = mapped make h (read word)
  one read make h (word ∷ other ∷ words) = tt

  two : (read : List ℕ → Option Y) (make : ℕ → Y → Call ℕ ℕ) → ((n : ℕ) (y : Y) → IsSupplied (make n y)) → (words : List (List ℕ)) → Supplied (with_two read make words)
  two read make h [] = tt
  two read make h (word ∷ words) = number (number_of word) where
    number : (o : Option ℕ) → Supplied (option_and_then (λ n. with_one read (make n) words) o)
    number None = tt
    number (Some n) = one read (make n) (h n) words

-- values were read, so there is one
values : (words : List (List ℕ)) → Supplied (option_map Prefill (some_read number_of words))
values [] = tt
values (word ∷ words) = read (number_of word) (all_read number_of words) where
  read : (o : Option ℕ) (rest : Option (List ℕ)) → Supplied (option_map Prefill (option_and_then (λ y. option_map (λ ys. y ∷ ys) rest) o))
  read None rest = tt
  read (Some n) None = tt
  read (Some n) (Some ns) = tt

numbers-supplied : (name : List ℕ) (words : List (List ℕ)) → Supplied (numbers_call name words)
numbers-supplied name words =
    either (bytes_eq name (codes "put")) _ _ (two number_of Put (λ n m. tt) words)
    (either (bytes_eq name (codes "get")) _ _ (one number_of Get (λ n. tt) words)
    (either (bytes_eq name (codes "peek")) _ _ (one number_of Peek (λ n. tt) words)
    (either (bytes_eq name (codes "contains")) _ _ (one number_of Contains (λ n. tt) words)
    (either (bytes_eq name (codes "get_at")) _ _ (two number_of GetAt (λ n m. tt) words)
    (either (bytes_eq name (codes "set")) _ _ (two number_of Set (λ n m. tt) words)
    (either (bytes_eq name (codes "with")) _ _ (two number_of With (λ n m. tt) words)
    (either (bytes_eq name (codes "try")) _ _ (two tried_of Try (λ n o. tt) words)
    (either (bytes_eq name (codes "slot")) _ _ (two number_of SlotFor (λ n m. tt) words)
    (either (bytes_eq name (codes "remove")) _ None (one number_of Remove (λ n. tt) words) tt)))))))))

list-supplied : (name : List ℕ) (words : List (List ℕ)) → Supplied (list_call name words)
list-supplied name words =
    either (bytes_eq name (codes "retain")) _ _ (one (some_read bit_of) Retain (λ bits. tt) words)
    (either (bytes_eq name (codes "prefill")) _ None (values words) tt)

alone : (call : Call ℕ ℕ) (words : List (List ℕ)) → IsSupplied call → Supplied (without call words)
alone call [] h = h
alone call (word ∷ words) h = tt

lone-supplied : (name : List ℕ) (words : List (List ℕ)) → Supplied (lone_call name words)
lone-supplied name words =
    either (bytes_eq name (codes "len")) _ _ (alone Len words tt)
    (either (bytes_eq name (codes "is_empty")) _ _ (alone IsEmpty words tt)
    (either (bytes_eq name (codes "capacity")) _ _ (alone Capacity words tt)
    (either (bytes_eq name (codes "clear")) _ None (alone Clear words tt) tt)))

call_in-supplied : (words : List (List ℕ)) → Supplied (call_in words)
unfolding call_in
call_in-supplied [] = tt
call_in-supplied (name ∷ words) =
    first (numbers_call name words) _ (numbers-supplied name words) (first (list_call name words) (lone_call name words) (list-supplied name words) (lone-supplied name words))

-- the calls of lines
abbrev AllSupplied : Result (List (Call ℕ ℕ)) ℕ → Type 0
AllSupplied (Ok calls) = AreSupplied calls
AllSupplied (Err line) = ⊤

calls-supplied : (n : ℕ) (lines : List (List ℕ)) → AllSupplied (calls_from n lines)
calls-supplied n [] = tt
calls-supplied n (line ∷ lines) = more (call_in (words_of line)) (calls_from (n + 1) lines) (call_in-supplied (words_of line)) (calls-supplied (n + 1) lines) where
  more : (o : Option (Call ℕ ℕ)) (read : Result (List (Call ℕ ℕ)) ℕ) → Supplied o → AllSupplied read → AllSupplied (call_then n o read)
  more None read h k = tt
  more (Some call) (Ok calls) h k = (h, k)
  more (Some call) (Err bad) h k = tt

-- and those of a script
abbrev ScriptSupplied : Result Script ℕ → Type 0
ScriptSupplied (Ok script) = AreSupplied script.calls
ScriptSupplied (Err line) = ⊤

with_shares : (o : Option Shares) (read : Result (List (Call ℕ ℕ)) ℕ) → AllSupplied read → ScriptSupplied (script_then o read)
with_shares None read h = tt
with_shares (Some shares) (Ok calls) h = h
with_shares (Some shares) (Err line) h = tt

script-supplied : (lines : List (List ℕ)) → ScriptSupplied (script_in lines)
script-supplied [] = tt
script-supplied (line ∷ lines) = with_shares (shares_in (words_of line)) (calls_from 2 lines) (calls-supplied 2 lines)

pub supplied-spelled : (text : List ℕ) (script : Script) → script_of text ≡ Ok script → AreSupplied script.calls
unfolding script_of
supplied-spelled text script e = subst ScriptSupplied e (script-supplied (lines_of text))

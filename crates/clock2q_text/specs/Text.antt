-- The command text: which line is which command, and the text of the replies.
use Rattle.std.specs.Prelude.{ℕ, ◌+◌, ◌^◌, Bool, true, false, ◌&&◌, ◌==◌, nat_lt, if◌then◌else◌, List, [], ◌∷◌, ◌++◌, length, Option, Some, None, Result, Ok, Err, codes, decimal}
use Rattle.std.specs.Option.{option_and_then, option_map, option_or}
use Rattle.std.specs.List.{slice_split, flat_map}
use Rattle.std.specs.Str.{bytes_eq, all_ascii_digits}
use Rattle.std.specs.Str.Parse.{digits_value}
use Rattle.clock2q_ports.specs.Lines.{lines_of}
use Rattle.clock2q_machine.specs.Shares.{Shares, usual_shares}
use Rattle.clock2q_machine.specs.Policies.{shares_of, shares_with}
use Rattle.clock2q_machine.specs.Calls.{Call, Answer, Put, Get, Peek, Contains, GetAt, Set, With, Try, SlotFor, Remove, Retain, Clear, Prefill, Len, IsEmpty, Capacity, Value, Stored, Tried, Slot, Flag, Number, Done}

-- the words of a line: the parts between its spaces, so that a word is empty if a space is first, last or after another
unfoldable pub words_of : List ℕ → List (List ℕ)
words_of line = slice_split (λ b. b == 32) line

-- one digit or more, and the number that they spell has 64 bits
abbrev pub is_number : List ℕ → Bool
is_number word = nat_lt 0 (length word) && all_ascii_digits word && nat_lt (digits_value 10 word) (2 ^ 64)

-- the number that a word spells
unfoldable pub number_of : List ℕ → Option ℕ
number_of word = if is_number word then Some (digits_value 10 word) else None

-- `0` is false and `1` is true
abbrev pub bit_of : ℕ → Option Bool
bit_of byte = if byte == 48 then Some false else if byte == 49 then Some true else None

module _ {X Y : Type 0} where
  -- what each of these reads as, if each reads as something
  abbrev pub all_read : (X → Option Y) → List X → Option (List Y)
  all_read read [] = Some []
  all_read read (x ∷ xs) = option_and_then (λ y. option_map (λ ys. y ∷ ys) (all_read read xs)) (read x)

  -- the same, for one or more
  abbrev pub some_read : (X → Option Y) → List X → Option (List Y)
  some_read read [] = None
  some_read read (x ∷ xs) = all_read read (x ∷ xs)

module _ {X : Type 0} where
  -- no argument
  abbrev pub without : X → List (List ℕ) → Option X
  without call [] = Some call
  without call (word ∷ words) = None

  -- one argument, read in this way
  abbrev pub with_one : {Y : Type 0} → (List ℕ → Option Y) → (Y → X) → List (List ℕ) → Option X
  with_one read make [] = None
  with_one read make (word ∷ []) = option_map make (read word)
  with_one read make (word ∷ other ∷ words) = None

  -- two arguments, the first a number and the second read in this way
  abbrev pub with_two : {Y : Type 0} → (List ℕ → Option Y) → (ℕ → Y → X) → List (List ℕ) → Option X
  with_two read make [] = None
  with_two read make (word ∷ words) = option_and_then (λ n. with_one read (make n) words) (number_of word)

-- the value that `try` offers: a number, or none for the word `fail`
abbrev pub tried_of : List ℕ → Option (Option ℕ)
tried_of word = if bytes_eq word (codes "fail") then Some None else option_map Some (number_of word)

-- the call that a name spells with one number or two
abbrev pub numbers_call : List ℕ → List (List ℕ) → Option (Call ℕ ℕ)
numbers_call name arguments =
    if bytes_eq name (codes "put") then with_two number_of Put arguments
    else if bytes_eq name (codes "get") then with_one number_of Get arguments
    else if bytes_eq name (codes "peek") then with_one number_of Peek arguments
    else if bytes_eq name (codes "contains") then with_one number_of Contains arguments
    else if bytes_eq name (codes "get_at") then with_two number_of GetAt arguments
    else if bytes_eq name (codes "set") then with_two number_of Set arguments
    else if bytes_eq name (codes "with") then with_two number_of With arguments
    else if bytes_eq name (codes "try") then with_two tried_of Try arguments
    else if bytes_eq name (codes "slot") then with_two number_of SlotFor arguments
    else if bytes_eq name (codes "remove") then with_one number_of Remove arguments
    else None

-- with a list
abbrev pub list_call : List ℕ → List (List ℕ) → Option (Call ℕ ℕ)
list_call name arguments =
    if bytes_eq name (codes "retain") then with_one (some_read bit_of) Retain arguments
    else if bytes_eq name (codes "prefill") then option_map Prefill (some_read number_of arguments)
    else None

-- alone
abbrev pub lone_call : List ℕ → List (List ℕ) → Option (Call ℕ ℕ)
lone_call name arguments =
    if bytes_eq name (codes "len") then without Len arguments
    else if bytes_eq name (codes "is_empty") then without IsEmpty arguments
    else if bytes_eq name (codes "capacity") then without Capacity arguments
    else if bytes_eq name (codes "clear") then without Clear arguments
    else None

-- the call that a command's name and its arguments spell
abbrev pub call_named : List ℕ → List (List ℕ) → Option (Call ℕ ℕ)
call_named name arguments = option_or (numbers_call name arguments) (option_or (list_call name arguments) (lone_call name arguments))

-- the call that words spell
unfoldable pub call_in : List (List ℕ) → Option (Call ℕ ℕ)
call_in [] = None
call_in (name ∷ arguments) = call_named name arguments

-- the shares that the numbers after a capacity choose: the usual ones if there is none; Small's share and the window;
-- or these and the history's share
abbrev pub chosen_from : ℕ → List ℕ → Option Shares
chosen_from capacity [] = Some (usual_shares capacity)
chosen_from capacity (small ∷ []) = None
chosen_from capacity (small ∷ window ∷ []) = Some (shares_of capacity small window)
chosen_from capacity (small ∷ window ∷ history ∷ []) = Some (shares_with capacity small window history)
chosen_from capacity (small ∷ window ∷ history ∷ other ∷ numbers) = None

-- the shares that the numbers after `new` choose, the first of which is a capacity of at least 1
abbrev pub shares_from : List ℕ → Option Shares
shares_from [] = None
shares_from (capacity ∷ numbers) = if capacity == 0 then None else chosen_from capacity numbers

-- the shares that the words `new C`, `new C S W` or `new C S W G` spell
unfoldable pub shares_in : List (List ℕ) → Option Shares
shares_in [] = None
shares_in (name ∷ arguments) = if bytes_eq name (codes "new") then option_and_then shares_from (all_read number_of arguments) else None

-- what a text asks for: a cache with these shares, and these calls of it
pub record Script : Type 0 where
  pub shares : Shares
  pub calls : List (Call ℕ ℕ)

-- one more call in front
abbrev pub with_call : Call ℕ ℕ → Result (List (Call ℕ ℕ)) ℕ → Result (List (Call ℕ ℕ)) ℕ
with_call call (Ok calls) = Ok (call ∷ calls)
with_call call (Err line) = Err line

-- a line's call before the others, or the line's number if it spells none
abbrev pub call_then : ℕ → Option (Call ℕ ℕ) → Result (List (Call ℕ ℕ)) ℕ → Result (List (Call ℕ ℕ)) ℕ
call_then n None read = Err n
call_then n (Some call) read = with_call call read

-- the calls that lines spell, the first of which has the number n, or the number of the first line that spells none
abbrev pub calls_from : ℕ → List (List ℕ) → Result (List (Call ℕ ℕ)) ℕ
calls_from n [] = Ok []
calls_from n (line ∷ lines) = call_then n (call_in (words_of line)) (calls_from (n + 1) lines)

-- shares before the calls
abbrev pub script_with : Shares → Result (List (Call ℕ ℕ)) ℕ → Result Script ℕ
script_with shares (Ok calls) = Ok (record { shares = shares; calls = calls })
script_with shares (Err line) = Err line

-- the first line's shares before the calls of the others; line 1 is bad if it spells none
abbrev pub script_then : Option Shares → Result (List (Call ℕ ℕ)) ℕ → Result Script ℕ
script_then None read = Err 1
script_then (Some shares) read = script_with shares read

-- the script that lines spell, or the number of the first bad one, which is 1 if there is no line
abbrev pub script_in : List (List ℕ) → Result Script ℕ
script_in [] = Err 1
script_in (line ∷ lines) = script_then (shares_in (words_of line)) (calls_from 2 lines)

-- the script that a text spells, or the number of its first bad line
unfoldable pub script_of : List ℕ → Result Script ℕ
script_of text = script_in (lines_of text)

-- an answer in words
abbrev pub answer_text : Answer ℕ → List ℕ
answer_text (Value None) = codes "none"
answer_text (Value (Some v)) = codes "some " ++ decimal v
answer_text (Stored v) = decimal v
answer_text (Tried None) = codes "failed"
answer_text (Tried (Some v)) = codes "ok " ++ decimal v
answer_text (Slot s v) = decimal s ++ codes " " ++ decimal v
answer_text (Flag true) = codes "true"
answer_text (Flag false) = codes "false"
answer_text (Number n) = decimal n
answer_text Done = codes "ok"

-- an answer and its line end
abbrev pub answer_line : Answer ℕ → List ℕ
answer_line a = answer_text a ++ 10 ∷ []

-- a line for each answer
unfoldable pub answer_lines : List (Answer ℕ) → List ℕ
answer_lines answers = flat_map answer_line answers

-- the answer to a script: `ok` for the cache that was made, and a line for each call
abbrev pub output_of : List (Answer ℕ) → List ℕ
output_of answers = answer_lines (Done ∷ answers)

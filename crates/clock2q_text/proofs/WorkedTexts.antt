-- The command text, computed on small texts.
use Rattle.std.specs.Prelude.{◌≡◌, ℕ, Bool, List, [], ◌∷◌, ◌++◌, map, replicate, is_none, Some, None, Ok, Err, codes, true, false, refl}
use Rattle.std.specs.List.{list_all, list_any}
use Rattle.std.specs.Fmt.{digits}
use Rattle.clock2q_machine.specs.Shares.{usual_shares}
use Rattle.clock2q_machine.specs.Policies.{shares_of, shares_with}
use Rattle.clock2q_machine.specs.Calls.{Put, Get, GetAt, Set, With, Try, SlotFor, Remove, Retain, Clear, Prefill, Len, Value, Slot, Stored, Tried, Flag, Number, Done}
use Rattle.clock2q_ports.specs.Lines.{lines_of}
use Rattle.clock2q_text.specs.Text.{script_of, words_of, number_of, call_in, shares_in, call_named, output_of, answer_lines}

-- the lines of a text: the last may lack its end, and an empty one is a line
two_lines : lines_of (codes "a\nb") ≡ codes "a" ∷ codes "b" ∷ []
unfolding lines_of
two_lines = refl

ended_lines : lines_of (codes "a\n\n") ≡ codes "a" ∷ [] ∷ []
unfolding lines_of
ended_lines = refl

no_lines : lines_of [] ≡ []
unfolding lines_of
no_lines = refl

-- words are separated by single spaces
two_spaces : words_of (codes "a  b ") ≡ codes "a" ∷ [] ∷ codes "b" ∷ [] ∷ []
unfolding words_of
two_spaces = refl

-- numbers
leading_zeros : number_of (codes "0010") ≡ Some 10
unfolding number_of
leading_zeros = refl

largest : number_of (codes "18446744073709551615") ≡ Some 18446744073709551615
unfolding number_of
largest = refl

zeros_and_seven : number_of (codes "000000000000000000007") ≡ Some 7
unfolding number_of
zeros_and_seven = refl

too_large : number_of (codes "18446744073709551616") ≡ None
unfolding number_of
too_large = refl

signed : number_of (codes "+1") ≡ None
unfolding number_of
signed = refl

no_digit : number_of [] ≡ None
unfolding number_of
no_digit = refl

-- scripts, and first bad lines
small_script : script_of (codes "new 2\nput 1 10\nget 1\nlen\n") ≡ Ok (record { shares = usual_shares 2; calls = Put 1 10 ∷ Get 1 ∷ Len ∷ [] })
unfolding script_of lines_of words_of number_of call_in shares_in
small_script = refl

no_script : script_of [] ≡ Err 1
unfolding script_of lines_of
no_script = refl

no_capacity : script_of (codes "new 0") ≡ Err 1
unfolding script_of lines_of words_of number_of shares_in
no_capacity = refl

missing_word : script_of (codes "new 2\nput 1") ≡ Err 2
unfolding script_of lines_of words_of number_of call_in shares_in
missing_word = refl

new_again : script_of (codes "new 2\nnew 2\n") ≡ Err 2
unfolding script_of lines_of words_of number_of call_in shares_in
new_again = refl

first_of_two : script_of (codes "new 2\nlen\nget 18446744073709551616\nlen \n") ≡ Err 3
unfolding script_of lines_of words_of number_of call_in shares_in
first_of_two = refl

carriage_return : script_of (codes "new 2\nlen\r\n") ≡ Err 2
unfolding script_of lines_of words_of number_of call_in shares_in
carriage_return = refl

abbrev is_bad : List ℕ → Bool
is_bad line = is_none (call_in (words_of line))

-- one line of each command
good_lines : list_any is_bad (codes "put 1 2" ∷ codes "get 1" ∷ codes "peek 1" ∷ codes "contains 1" ∷ codes "get_at 0 1" ∷ codes "set 1 2" ∷ codes "with 1 2" ∷ codes "try 1 2"
    ∷ codes "try 1 fail" ∷ codes "slot 1 2" ∷ codes "remove 1" ∷ codes "retain 01" ∷ codes "clear" ∷ codes "prefill 1 2" ∷ codes "len" ∷ codes "is_empty" ∷ codes "capacity" ∷ []) ≡ false
unfolding words_of number_of call_in
good_lines = refl

-- a space first, last or doubled, and a line of nothing or of a space
bad_spaces : list_all is_bad (codes " len" ∷ codes "len " ∷ codes "get  1" ∷ codes "get 1 " ∷ codes " get 1"
    ∷ codes "prefill 1  2" ∷ codes "get " ∷ codes "retain " ∷ codes "prefill " ∷ codes "put 1 " ∷ [] ∷ codes " " ∷ []) ≡ true
unfolding words_of number_of call_in
bad_spaces = refl

-- a carriage return, a tab, the bytes 0 and 255
bad_bytes : list_all is_bad (codes "len\r" ∷ (codes "get" ++ 9 ∷ codes "1") ∷ (codes "get 1" ++ 9 ∷ [])
    ∷ (codes "len" ++ 0 ∷ []) ∷ (0 ∷ codes "len") ∷ (codes "get 1" ++ 0 ∷ []) ∷ (255 ∷ []) ∷ (codes "get " ++ 255 ∷ []) ∷ []) ≡ true
unfolding words_of number_of call_in
bad_bytes = refl

-- other names, and `new` on a line of its own
bad_names : list_all is_bad (codes "LEN" ∷ codes "Get 1" ∷ codes "le" ∷ codes "lens" ∷ codes "getat 0 1" ∷ codes "new 2" ∷ []) ≡ true
unfolding words_of number_of call_in
bad_names = refl

-- signs, numbers that are too large, and words that aren't read
bad_words : list_all is_bad (codes "get +1" ∷ codes "get -1" ∷ codes "get 1.0" ∷ codes "get x" ∷ codes "get 18446744073709551616"
    ∷ codes "get 100000000000000000000" ∷ codes "retain 012" ∷ codes "retain 0 1" ∷ codes "try 1 FAIL" ∷ codes "try fail 1" ∷ codes "prefill 1 x" ∷ []) ≡ true
unfolding words_of number_of call_in
bad_words = refl

-- too few or too many words
bad_counts : list_all is_bad (codes "put 1" ∷ codes "put 1 2 3" ∷ codes "get" ∷ codes "get 1 2" ∷ codes "get_at 0"
    ∷ codes "get_at 0 1 2" ∷ codes "try 1" ∷ codes "retain" ∷ codes "prefill" ∷ codes "len 1" ∷ codes "clear 1" ∷ []) ≡ true
unfolding words_of number_of call_in
bad_counts = refl

-- such lines in a script, in which an empty line is a bad one
bad_second : map (λ line. script_of (codes "new 2\n" ++ line)) (codes "retain 012" ∷ codes "put 1 2 3\n" ∷ codes "\n" ∷ codes "\nlen" ∷ codes "len \nlen\n" ∷ codes "new 2" ∷ []) ≡ replicate 6 (Err 2)
unfolding script_of lines_of words_of number_of call_in shares_in
bad_second = refl

-- first lines
first_lines : map script_of (codes "new 2" ∷ codes "new 00000000000000000002" ∷ codes "new 18446744073709551615\n" ∷ [])
    ≡ map (λ capacity. Ok (record { shares = usual_shares capacity; calls = [] })) (2 ∷ 2 ∷ 18446744073709551615 ∷ [])
unfolding script_of lines_of words_of number_of shares_in
first_lines = refl

-- first lines that choose the shares, whether a cache can have them or not
chosen_shares : map script_of (codes "new 4 2 1" ∷ codes "new 3 0 0\n" ∷ codes "new 10 9 1" ∷ codes "new 2 0 01" ∷ codes "new 16777216 99999999 0" ∷ [])
    ≡ map (λ shares. Ok (record { shares = shares; calls = [] })) (shares_of 4 2 1 ∷ shares_of 3 0 0 ∷ shares_of 10 9 1 ∷ shares_of 2 0 1 ∷ shares_of 16777216 99999999 0 ∷ [])
unfolding script_of lines_of words_of number_of shares_in
chosen_shares = refl

-- and the history's share
chosen_history : map script_of (codes "new 4 2 1 4" ∷ codes "new 3 0 0 0\n" ∷ codes "new 2 1 1 99" ∷ [])
    ≡ map (λ shares. Ok (record { shares = shares; calls = [] })) (shares_with 4 2 1 4 ∷ shares_with 3 0 0 0 ∷ shares_with 2 1 1 99 ∷ [])
unfolding script_of lines_of words_of number_of shares_in
chosen_history = refl

bad_shares : map script_of (codes "new 2 1" ∷ codes "new 0 0 0" ∷ codes "new 0 1 1" ∷ codes "new 2 1 1 1 1" ∷ codes "new 2 1 1 x" ∷ codes "new 2 1 1 "
    ∷ codes "new 2  1 1" ∷ codes "new 2 1 x" ∷ codes "new 2 1 18446744073709551616" ∷ []) ≡ replicate 9 (Err 1)
unfolding script_of lines_of words_of number_of shares_in
bad_shares = refl

-- a bad line after a capacity that is too large, and after shares that don't fit together
bad_after_refused : map script_of (codes "new 16777216\nbogus\n" ∷ codes "new 2 2 1\nbogus\n" ∷ []) ≡ replicate 2 (Err 2)
unfolding script_of lines_of words_of number_of call_in shares_in
bad_after_refused = refl

-- a line of each new command in a script
every_command : script_of (codes "new 2\nget_at 1 2\nset 3 4\nwith 5 6\ntry 7 8\ntry 9 fail\nslot 10 11\nremove 12\nretain 01\nclear\nprefill 13 14")
    ≡ Ok (record {
      shares = usual_shares 2;
      calls =
          GetAt 1 2 ∷ Set 3 4 ∷ With 5 6 ∷ Try 7 (Some 8) ∷ Try 9 None ∷ SlotFor 10 11 ∷ Remove 12 ∷ Retain (false ∷ true ∷ []) ∷ Clear ∷ Prefill (13 ∷ 14 ∷ []) ∷ [];
    })
unfolding script_of lines_of words_of number_of call_in shares_in
every_command = refl

bad_first : map script_of (codes "len" ∷ codes "\n" ∷ codes " new 2" ∷ codes "new  2" ∷ codes "new 2 " ∷ codes "new 2\r"
    ∷ codes "new" ∷ codes "new " ∷ codes "NEW 2" ∷ codes "new 18446744073709551616" ∷ []) ≡ replicate 10 (Err 1)
unfolding script_of lines_of words_of number_of shares_in
bad_first = refl

-- commands that come with more than numbers
bits : call_named (codes "retain") (codes "101" ∷ []) ≡ Some (Retain (true ∷ false ∷ true ∷ []))
bits = refl

no_bits : call_named (codes "retain") ([] ∷ []) ≡ None
no_bits = refl

values : call_named (codes "prefill") (codes "7" ∷ codes "08" ∷ []) ≡ Some (Prefill (7 ∷ 8 ∷ []))
unfolding number_of
values = refl

no_values : call_named (codes "prefill") [] ≡ None
no_values = refl

failing : call_named (codes "try") (codes "2" ∷ codes "fail" ∷ []) ≡ Some (Try 2 None)
unfolding number_of
failing = refl

-- the text of replies of every kind
every_kind : output_of (Value None ∷ Value (Some 10) ∷ Stored 7 ∷ Tried (Some 3) ∷ Tried None ∷ Slot 2 12 ∷ Flag true ∷ Flag false ∷ Number 0 ∷ Done ∷ [])
    ≡ codes "ok\nnone\nsome 10\n7\nok 3\nfailed\n2 12\ntrue\nfalse\n0\nok\n"
unfolding answer_lines digits
every_kind = refl

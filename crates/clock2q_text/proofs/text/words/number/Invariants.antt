-- The bytes so far are digits, the value is theirs, and it has 64 bits.
use Rattle.std.proofs.Common.{◌≡◌, ◌<◌, ◌^◌, true, take}
use Rattle.std.specs.Str.{all_ascii_digits}
use Rattle.std.specs.Str.Parse.{digits_value}
use Rattle.clock2q_text.proofs.text.words.number.Given as goal

abbrev pub invariant-loop-at : goal.invariant-loop-at
invariant-loop-at l = record {
  digits : all_ascii_digits (take l.at l.words) ≡ true;
  read : l.value ≡ digits_value 10 (take l.at l.words);
  fits : l.value < 2 ^ 64;
}

-- The bytes so far are digits, and the number is theirs, capped at the largest of 64 bits.
use Rattle.std.proofs.Common.{◌≡◌, ◌-◌, ◌^◌, true, take, min}
use Rattle.std.specs.Str.{all_ascii_digits}
use Rattle.std.specs.Str.Parse.{digits_value}
use Rattle.simulator_interface.proofs.amount.number_of.Given as goal

abbrev pub invariant-loop-byte : goal.invariant-loop-byte
invariant-loop-byte l = record {
  digits : all_ascii_digits (take l.byte-index l.digits) ≡ true;
  read : l.number ≡ min (digits_value 10 (take l.byte-index l.digits)) (2 ^ 64 - 1);
}

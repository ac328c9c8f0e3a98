use Rattle.std.proofs.Common.{◌≡◌, ◌≤◌, take}
use Rattle.std.specs.Str.Parse.{digits_value}
use Rattle.lf_write.proofs.Digits.{Digits}
use Rattle.lf_write.proofs.compare.number_len.Given as goal

-- The bytes so far are digits, and denote a number that is no larger.
abbrev pub invariant-loop-at : goal.invariant-loop-at
invariant-loop-at l = record {
  digits : Digits (take l.at l.bytes);
  total : l.total ≡ digits_value 10 (take l.at l.bytes);
  small : l.total ≤ l.number;
}

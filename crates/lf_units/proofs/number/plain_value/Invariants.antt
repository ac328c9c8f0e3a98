use Rattle.std.proofs.Common.{◌≡◌, ◌≤◌, drop}
use Rattle.std.specs.Char.{is_ascii_digit}
use Rattle.std.specs.List.{list_all}
use Rattle.std.specs.Str.Parse.{digits_value_after}
use Rattle.lf_units.proofs.number.plain_value.Given as goal

-- The number so far, followed by the remaining bytes, is the whole number. The remaining bytes
-- decide whether all are digits.
abbrev pub invariant-loop-byte : goal.invariant-loop-byte
invariant-loop-byte l = record {
  total : digits_value_after 10 l.total (drop l.byte-index l.text) ≡ digits_value_after 10 0 l.text;
  digits : list_all is_ascii_digit l.text ≡ list_all is_ascii_digit (drop l.byte-index l.text);
  small : l.total ≤ l.max;
}

use Rattle.std.proofs.Common.{◌≡◌, take, true}
use Rattle.std.specs.Char.{is_ascii_digit}
use Rattle.std.specs.List.{list_all}
use Rattle.std.specs.Str.Parse.{digits_value}
use Rattle.lf_state_text.proofs.read_numbers.front_digits.Given as goal

abbrev pub invariant-loop-len : goal.invariant-loop-len
invariant-loop-len l = record {
  digits : list_all is_ascii_digit (take l.len l.bytes) ≡ true;
  value : l.value ≡ digits_value 10 (take l.len l.bytes);
}

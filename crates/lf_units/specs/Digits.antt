-- Facts about digits and ranges that the private functions of this crate use. No public clause
-- cites them.
use Rattle.std.specs.Prelude.{◌≡◌, ℕ, ◌^◌, ◌≤◌, List, true}
use Rattle.std.specs.Char.{is_ascii_digit}
use Rattle.std.specs.List.{list_all}

-- Both texts have digits alone.
pub record AreDigits (a b : List ℕ) : Type 0 where
  pub first : list_all is_ascii_digit a ≡ true
  pub second : list_all is_ascii_digit b ≡ true

-- At most 6 decimals, and a largest value of at most 10^12.
pub record IsNumberRange (decimals max : ℕ) : Type 0 where
  pub few : decimals ≤ 6
  pub small : max ≤ 10 ^ 12

-- The numbers of a request line.
use Rattle.std.specs.Prelude.{ℕ, Bool, true, false, nat_lt, nat_le, ◌==◌, ◌&&◌, ◌^◌, cond, List, length, drop, Option, Some, None, ℤ, pos, neg_ℤ, slice_index, option_and_then}
use Rattle.std.specs.List.{list_all}
use Rattle.std.specs.Char.{is_ascii_digit}
use Rattle.std.specs.Str.Parse.{digits_value}
use Rattle.std.proofs.Math.Dec.{T}
use Rattle.std.proofs.Math.Facts.{leb_yes}
use Rattle.lf_rules.specs.declared.padding.Padding.{Padding}

-- the second step continues with the value of the first, if there is one
infixl 10 ◌>>=◌
abbrev pub ◌>>=◌ : {A B : Type 0} → Option A → (A → Option B) → Option B
o >>= f = option_and_then f o

-- the value of 1 to 10 digits
abbrev pub digits : List ℕ → Option ℕ
digits text = cond (list_all is_ascii_digit text && nat_lt 0 (length text) && nat_le (length text) 10)
    (Some (digits_value 10 text)) None

-- a number below a limit
abbrev pub below : ℕ → ℕ → Option ℕ
below limit n = cond (nat_lt n limit) (Some n) None

-- a session's number: from 0 to 4294967295
abbrev pub session_number : List ℕ → Option ℕ
session_number text = do
  n ← digits text
  below (2 ^ 32) n

-- the fact that a test shows, if it succeeds
abbrev pub shown_by_test : {Fact : Type 0} (test : Bool) → (T test → Fact) → Option Fact
shown_by_test true fact = Some (fact tt)
shown_by_test false fact = None

-- the padding of this number of core sites, which is at most 16
abbrev pub padding_at : ℕ → Option Padding
padding_at sites = do
  most ← shown_by_test (nat_le sites 16) leb_yes
  Some (record { sites = sites; most = most })

-- a padding: from 0 to 16
abbrev pub padding : List ℕ → Option Padding
padding text = do
  sites ← digits text
  padding_at sites

-- the number after a minus, which is byte 45, negated
abbrev pub negative : List ℕ → Option ℤ
negative text = do
  n ← digits text
  size ← below (2 ^ 31) n
  Some (neg_ℤ (pos size))

abbrev pub positive : List ℕ → Option ℤ
positive text = do
  n ← digits text
  size ← below (2 ^ 31) n
  Some (pos size)

-- a coordinate in database units: from -2147483647 to 2147483647, digits after an optional minus
abbrev pub coordinate : List ℕ → Option ℤ
coordinate text = cond (slice_index text 0 == 45) (negative (drop 1 text)) (positive text)

-- Lengths of LEF in database units (LEF/DEF 5.8, LEF UNITS and DEF UNITS).
use Rattle.std.specs.Prelude.{◌≡◌, ℕ, ℤ, pos, ◌*ℤ◌}
use Rattle.std.specs.Int.RustNames.{int_div}

-- The two lengths are equal, one in database units and the other in millionths of a micron.
abbrev pub IsLength : ℕ → ℤ → ℤ → Type 0
IsLength units micros dbu = dbu *ℤ pos 1000000 ≡ micros *ℤ pos units

-- The length in database units. If it is not whole, the fraction is dropped.
abbrev pub in_dbu : ℕ → ℤ → ℤ
in_dbu units micros = int_div (micros *ℤ pos units) (pos 1000000)

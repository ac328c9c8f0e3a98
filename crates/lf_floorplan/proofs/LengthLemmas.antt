-- A length that LEF can hold is small in database units.
use Rattle.std.proofs.Common.{◌≡◌, ℕ, ℤ, pos, negsuc, ◌*◌, ◌*ℤ◌, ◌≤◌, ◌≤ℤ◌, arith}
use Rattle.std.proofs.lemmas.Int.{ints}
use Rattle.std.proofs.lemmas.Nat.{mul-le}
use Rattle.lf_units.specs.Length.{IsLength}

pub small_length : (units : ℕ) (micros dbu : ℤ) → units ≤ 20000 → micros ≤ℤ pos 1000000000000 → IsLength units micros dbu → dbu ≤ℤ pos 20000000000
small_length units (pos m) dbu few low e =
    let most : m ≤ 1000000000000 = omega (arith, ints) in
    let product : m * units ≤ 1000000000000 * 20000 = mul-le m units 1000000000000 20000 most few in
    let is : dbu *ℤ pos 1000000 ≡ pos (m * units) = e in
    omega (arith, ints)
small_length units (negsuc m) dbu few low e = grind (arith, ints)

-- Numbers that were read lie in their range.
use Rattle.std.proofs.Common.{◌≡◌, ℕ, zero, suc, ◌≤◌, Bool, true, false, List, ℤ, Ok, arith}
use Rattle.std.proofs.lemmas.Int.{ints}
use Rattle.lf_units.specs.Number.{fixed_of, with_sign}
use Rattle.lf_units.proofs.Bounds.{fixed_has}
use Rattle.lf_def.specs.Ranges.{IsDefCoordinate}

signed_range : (negative : Bool) (n : ℕ) → n ≤ 2147483647 → IsDefCoordinate (with_sign negative n)
signed_range true zero le = record { low = omega (arith, ints); high = omega (arith, ints) }
signed_range true (suc n) le = record { low = omega (arith, ints); high = omega (arith, ints) }
signed_range false n le = record { low = omega (arith, ints); high = omega (arith, ints) }

pub fixed_range : (text : List ℕ) (v : ℤ) → fixed_of text 0 2147483647 ≡ Ok v → IsDefCoordinate v
fixed_range text v e = fixed_has IsDefCoordinate 2147483647 signed_range text 0 v e

-- Numbers that were read lie in their range.
use Rattle.std.proofs.Common.{◌≡◌, ℕ, zero, suc, ◌^◌, ◌≤◌, Bool, true, false, List, ℤ, Ok, arith}
use Rattle.std.proofs.lemmas.Int.{ints}
use Rattle.lf_units.specs.Number.{fixed_of, with_sign}
use Rattle.lf_units.proofs.Bounds.{fixed_has}
use Rattle.lf_lef.specs.Lengths.{IsLengthInRange}

signed_range : (negative : Bool) (n : ℕ) → n ≤ 10 ^ 12 → IsLengthInRange (with_sign negative n)
signed_range true zero le = record { low = omega (arith, ints); high = omega (arith, ints) }
signed_range true (suc n) le = record { low = omega (arith, ints); high = omega (arith, ints) }
signed_range false n le = record { low = omega (arith, ints); high = omega (arith, ints) }

pub fixed_range : (text : List ℕ) (v : ℤ) → fixed_of text 6 (10 ^ 12) ≡ Ok v → IsLengthInRange v
fixed_range text v e = fixed_has IsLengthInRange (10 ^ 12) signed_range text 6 v e

-- A number read from a text is that of a digit string with a sign, and at most the largest that is
-- read.
use Rattle.std.proofs.Common.{◌≡◌, ℕ, ◌≤◌, Bool, true, false, cond, List, ℤ, Result, Ok, Err, refl, subst, arith}
use Rattle.std.specs.Prelude.{nat_lt}
use Rattle.std.proofs.lemmas.Bool.Decides.{nat_tests}
use Rattle.std.specs.Str.Parse.{starts_with_minus}
use Rattle.lf_units.specs.declared.number.NumberFault.{NumberFault}
use Rattle.lf_units.specs.declared.number.NumberFault.TheVariants.{NotANumber, TooFine, TooLarge}
use Rattle.lf_units.specs.Number.{fixed_of, digits_fixed, is_number, whole_of, fraction_of, is_too_fine, magnitude_of, with_sign}

-- Each number up to the largest has the property, with either sign.
abbrev pub EachHas : (ℤ → Type 0) → ℕ → Type 0
EachHas P max = (negative : Bool) (n : ℕ) → n ≤ max → P (with_sign negative n)

at_most : (max n : ℕ) → nat_lt max n ≡ false → n ≤ max
at_most max n h = grind (arith, nat_tests)

ok_is : (x y : ℤ) → ◌≡◌ {A = Result ℤ NumberFault} (Ok x) (Ok y) → x ≡ y
ok_is x y e = cc

chosen : (P : ℤ → Type 0) (max : ℕ) → EachHas P max → (fine large negative : Bool) (n : ℕ) (v : ℤ) → nat_lt max n ≡ large
    → ◌≡◌ {A = Result ℤ NumberFault} (cond fine (Err TooFine) (cond large (Err TooLarge) (Ok (with_sign negative n)))) (Ok v) → P v
chosen P max each true large negative n v h e = absurd cc
chosen P max each false true negative n v h e = absurd cc
chosen P max each false false negative n v h e = subst P (ok_is (with_sign negative n) v e) (each negative n (at_most max n h))

digits_have : (P : ℤ → Type 0) (max : ℕ) → EachHas P max → (negative : Bool) (whole fraction : List ℕ) (decimals : ℕ) (v : ℤ)
    → digits_fixed negative whole fraction decimals max ≡ Ok v → P v
unfolding digits_fixed
digits_have P max each negative whole fraction decimals v e =
    chosen P max each (is_too_fine decimals fraction) _ negative (magnitude_of decimals whole fraction) v refl e

number_has : (P : ℤ → Type 0) (max : ℕ) → EachHas P max → (number : Bool) (text : List ℕ) (decimals : ℕ) (v : ℤ)
    → ◌≡◌ {A = Result ℤ NumberFault} (cond number (digits_fixed (starts_with_minus text) (whole_of text) (fraction_of text) decimals max) (Err NotANumber))
    (Ok v) → P v
number_has P max each true text decimals v e = digits_have P max each (starts_with_minus text) (whole_of text) (fraction_of text) decimals v e
number_has P max each false text decimals v e = absurd cc

pub fixed_has : (P : ℤ → Type 0) (max : ℕ) → EachHas P max → (text : List ℕ) (decimals : ℕ) (v : ℤ) → fixed_of text decimals max ≡ Ok v → P v
fixed_has P max each text decimals v e = number_has P max each (is_number (whole_of text) (fraction_of text)) text decimals v e

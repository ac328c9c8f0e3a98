-- Numbers of digits alone, without a point.
use Rattle.std.proofs.Common.{◌≡◌, ℕ, ◌+◌, ◌*◌, ◌≤◌, ◌<◌, Bool, true, false, List, [], ◌∷◌, ◌++◌, length, take, drop, Ok, refl, arith, ltb}
use Rattle.std.proofs.Common.{drop_of_length-le}
use Rattle.std.specs.Char.{is_ascii_digit}
use Rattle.std.specs.List.{list_all, position_or_len}
use Rattle.std.specs.Str.Parse.{digits_value, starts_with_minus, without_leading_sign}
use Rattle.std.proofs.lemmas.Bool.Decides.{nat_tests}
use Rattle.std.proofs.lemmas.Bool.{lt-ltb, le-ltb}
use Rattle.std.proofs.Math.Seq.{take-length}
use Rattle.lf_units.specs.Number.{is_point, is_number, digits_fixed, fixed_of, with_sign}
use Rattle.lf_units.proofs.Digits.{both_true}

no_point_at : (b : ℕ) → is_ascii_digit b ≡ true → is_point b ≡ false
no_point_at b h = grind (arith, nat_tests)

pub no_point : (ds : List ℕ) → list_all is_ascii_digit ds ≡ true → position_or_len is_point ds ≡ length ds
no_point [] h = refl
no_point (d ∷ ds) h =
    let p = both_true (is_ascii_digit d) (list_all is_ascii_digit ds) h in
    rw (no_point_at d p.0, no_point ds p.1) (omega arith)

nothing_after : (ds : List ℕ) → drop (length ds + 1) ds ≡ []
nothing_after ds = drop_of_length-le ds (omega arith)

append_nothing : (ds : List ℕ) → ds ++ [] ≡ ds
append_nothing [] = refl
append_nothing (d ∷ ds) = rw (append_nothing ds) refl

whole_value : (negative : Bool) (ds : List ℕ) (max v : ℕ) → v ≡ digits_value 10 ds → v ≤ max → Ok (with_sign negative v) ≡ digits_fixed negative ds [] 0 max
unfolding digits_fixed
whole_value negative ds max v is le =
    let once : digits_value 10 ds * 1 ≡ v = omega (arith, is) in
    rw (append_nothing ds, once, le-ltb max v le) refl

-- The number that digits alone write, with no decimals.
pub plain_is : (negative : Bool) (ds : List ℕ) (max v : ℕ) → list_all is_ascii_digit ds ≡ true → 0 < length ds → v ≡ digits_value 10 ds → v ≤ max
    → (is_number (take (position_or_len is_point ds) ds) (drop (position_or_len is_point ds + 1) ds) ≡ true)
    × (Ok (with_sign negative v) ≡ digits_fixed negative (take (position_or_len is_point ds) ds) (drop (position_or_len is_point ds + 1) ds) 0 max)
plain_is negative ds max v all some is le =
    let more : ltb 0 (length ds + 0) ≡ true = lt-ltb 0 (length ds + 0) (omega arith) in (
      rw (no_point ds all, take-length ds, nothing_after ds, all, more) refl,
      rw (no_point ds all, take-length ds, nothing_after ds) (whole_value negative ds max v is le),
    )

-- The number that a text writes if only digits follow its sign.
pub plain_fixed : (text ds : List ℕ) (max v decimals : ℕ) → ds ≡ without_leading_sign text → decimals ≡ 0 → list_all is_ascii_digit ds ≡ true → 0 < length ds → v ≡ digits_value 10 ds → v ≤ max
    → Ok (with_sign (starts_with_minus text) v) ≡ fixed_of text decimals max
plain_fixed text ds max v decimals body none all some is le =
    let p = plain_is (starts_with_minus text) ds max v all some is le in
    rw (none, ← body, p.0) p.1

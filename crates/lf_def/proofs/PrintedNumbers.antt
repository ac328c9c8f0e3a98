-- Whole numbers as std prints them are read back.
use Rattle.std.proofs.Common.{◌≡◌, ℕ, suc, ◌+◌, ◌<◌, ◌≤◌, Bool, true, false, cond, List, [], ◌∷◌, take, drop, length, ℤ, pos, negsuc, Result, Ok, Err, refl, ap, ◌∙◌, arith}
use Rattle.std.specs.Prelude.{◌==◌, nat_lt, decimal}
use Rattle.std.specs.Int.{IsInRange}
use Rattle.std.specs.List.{list_all, before_first, after_first, position_or_len}
use Rattle.std.specs.Char.{is_ascii_digit}
use Rattle.std.specs.Fmt.{signed_decimal}
use Rattle.std.specs.Str.Parse.{AllDigits, digits_value, starts_with_minus, without_leading_sign}
use Rattle.std.proofs.lemmas.Bool.Decides.{nat_tests}
use Rattle.std.proofs.lemmas.Fmt.{decimal_is_IsNumeral}
use Rattle.std.proofs.lemmas.Int.{ints}
use Rattle.std.proofs.lemmas.List.{append-nil, take_all, drop_all}
use Rattle.std.proofs.lemmas.Str.Parse.{digit_from_value}
use Rattle.lf_units.specs.declared.number.NumberFault.{NumberFault}
use Rattle.lf_units.specs.declared.number.NumberFault.TheVariants.{NotANumber}
use Rattle.lf_units.specs.Number.{fixed_of, is_point, is_number, digits_fixed, magnitude_of, with_sign}
use Rattle.lf_lex.specs.Tokens.{is_word_byte}
use Rattle.lf_lex.specs.Splices.{is_word_text}
use Rattle.lf_def.specs.Ranges.{IsDefCoordinate}
use Rattle.lf_def.specs.Printed.{WritesNumbers}

-- Digits.

digit_passes : (c : ℕ) → IsInRange 48 57 c → is_ascii_digit c ≡ true
digit_passes c h = grind (arith, nat_tests)

digits_pass : (ds : List ℕ) → AllDigits 10 ds → list_all is_ascii_digit ds ≡ true
digits_pass [] d = refl
digits_pass (c ∷ ds) d = rw (digit_passes c (digit_from_value c d.0)) (digits_pass ds d.1)

no_point : (c : ℕ) → IsInRange 48 57 c → is_point c ≡ false
no_point c h = grind (arith, nat_tests)

point_after : (ds : List ℕ) → AllDigits 10 ds → position_or_len is_point ds ≡ length ds
point_after [] d = refl
point_after (c ∷ ds) d = rw (no_point c (digit_from_value c d.0)) (omega (arith, point_after ds d.1))

no_minus : (c : ℕ) → IsInRange 48 57 c → (c == 45) ≡ false
no_minus c h = grind (arith, nat_tests)

no_plus : (c : ℕ) → IsInRange 48 57 c → (c == 43) ≡ false
no_plus c h = grind (arith, nat_tests)

unsigned : (ds : List ℕ) → AllDigits 10 ds → 0 < length ds → (without_leading_sign ds ≡ ds) × (starts_with_minus ds ≡ false)
unsigned [] d some = absurd (omega arith)
unsigned (c ∷ ds) d some = let h = digit_from_value c d.0 in (rw (no_minus c h, no_plus c h) refl, no_minus c h)

word_digit : (c : ℕ) → IsInRange 48 57 c → is_word_byte c ≡ true
word_digit c h = grind (arith, nat_tests)

digits_are_bytes : (ds : List ℕ) → AllDigits 10 ds → list_all is_word_byte ds ≡ true
digits_are_bytes [] d = refl
digits_are_bytes (c ∷ ds) d = rw (word_digit c (digit_from_value c d.0)) (digits_are_bytes ds d.1)

no_hash : (c : ℕ) → IsInRange 48 57 c → (c == 35) ≡ false
no_hash c h = grind (arith, nat_tests)

no_quote : (c : ℕ) → IsInRange 48 57 c → (c == 34) ≡ false
no_quote c h = grind (arith, nat_tests)

digits_are_word : (ds : List ℕ) → AllDigits 10 ds → 0 < length ds → is_word_text ds ≡ true
digits_are_word [] d some = absurd (omega arith)
digits_are_word (c ∷ ds) d some = let h = digit_from_value c d.0 in rw (no_hash c h, no_quote c h) (digits_are_bytes (c ∷ ds) d)

-- The number that a sign and digits denote.

abbrev fixed_parts : Bool → List ℕ → List ℕ → Result ℤ NumberFault
fixed_parts negative whole fraction = cond (is_number whole fraction) (digits_fixed negative whole fraction 0 2147483647) (Err NotANumber)

abbrev fixed_rest : Bool → List ℕ → Result ℤ NumberFault
fixed_rest negative rest = fixed_parts negative (before_first is_point rest) (after_first is_point rest)

magnitude_is : (ds : List ℕ) (n : ℕ) → digits_value 10 ds ≡ n → magnitude_of 0 ds [] ≡ n
magnitude_is ds n e = rw (append-nil ds, e) (omega arith)

not_above : (n : ℕ) → n ≤ 2147483647 → nat_lt 2147483647 n ≡ false
not_above n h = grind (arith, nat_tests)

some_digits : (n : ℕ) → 0 < n → nat_lt 0 (n + 0) ≡ true
some_digits n h = grind (arith, nat_tests)

digits_fixed_is : (negative : Bool) (ds : List ℕ) (n : ℕ) → digits_value 10 ds ≡ n → n ≤ 2147483647 → digits_fixed negative ds [] 0 2147483647 ≡ Ok (with_sign negative n)
unfolding digits_fixed
digits_fixed_is negative ds n e h = rw (magnitude_is ds n e, not_above n h) refl

parts_are : (negative : Bool) (ds : List ℕ) (n : ℕ) → AllDigits 10 ds → 0 < length ds → digits_value 10 ds ≡ n → n ≤ 2147483647 → fixed_parts negative ds [] ≡ Ok (with_sign negative n)
parts_are negative ds n d some e h = rw (digits_pass ds d, some_digits (length ds) some) (digits_fixed_is negative ds n e h)

rest_is : (negative : Bool) (ds : List ℕ) → AllDigits 10 ds → fixed_rest negative ds ≡ fixed_parts negative ds []
rest_is negative ds d =
    let all : before_first is_point ds ≡ ds = ap (λ (k : ℕ). take k ds) (point_after ds d) ∙ take_all (length ds) ds (omega arith) in
    let none : after_first is_point ds ≡ [] = ap (λ (k : ℕ). drop (k + 1) ds) (point_after ds d) ∙ drop_all (length ds + 1) ds (omega arith) in
    ap (λ (z : List ℕ). fixed_parts negative z (after_first is_point ds)) all ∙ ap (λ (z : List ℕ). fixed_parts negative ds z) none

reads : (text : List ℕ) (negative : Bool) (ds : List ℕ) (n : ℕ) → without_leading_sign text ≡ ds → starts_with_minus text ≡ negative → AllDigits 10 ds → 0 < length ds → digits_value 10 ds ≡ n → n ≤ 2147483647
    → fixed_of text 0 2147483647 ≡ Ok (with_sign negative n)
reads text negative ds n rest sign d some e h =
    ap (λ (z : List ℕ). fixed_rest (starts_with_minus text) z) rest ∙ ap (λ (z : Bool). fixed_rest z ds) sign ∙ rest_is negative ds d ∙ parts_are negative ds n d some e h

-- Decimal numbers denote coordinates that read back.
pub decimals_are_read : WritesNumbers signed_decimal
decimals_are_read (pos n) h =
    let small : n ≤ 2147483647 = omega (arith, ints, h.high) in
    let k = decimal_is_IsNumeral n (omega arith) in
    let u = unsigned (decimal n) k.0.1 k.0.0 in
    reads (decimal n) false (decimal n) n u.0 u.1 k.0.1 k.0.0 k.1 small
decimals_are_read (negsuc n) h =
    let small : suc n ≤ 2147483647 = omega (arith, ints, h.low) in
    let k = decimal_is_IsNumeral (suc n) (omega arith) in
    reads (45 ∷ decimal (suc n)) true (decimal (suc n)) (suc n) refl refl k.0.1 k.0.0 k.1 small

-- Each decimal number is a word.
pub decimals_are_words : (x : ℤ) → IsDefCoordinate x → is_word_text (signed_decimal x) ≡ true
decimals_are_words (pos n) h =
    let small : n ≤ 2147483647 = omega (arith, ints, h.high) in
    let k = decimal_is_IsNumeral n (omega arith) in digits_are_word (decimal n) k.0.1 k.0.0
decimals_are_words (negsuc n) h =
    let small : suc n ≤ 2147483647 = omega (arith, ints, h.low) in
    let k = decimal_is_IsNumeral (suc n) (omega arith) in digits_are_bytes (decimal (suc n)) k.0.1

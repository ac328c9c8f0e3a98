-- Numbers that are read digit by digit, until they are at least as large as a known number.
use Rattle.std.proofs.Common.{◌≡◌, ◌≢◌, ℕ, zero, suc, ◌+◌, ◌-◌, ◌*◌, ◌<◌, ◌^◌, Bool, true, false, List, [], ◌∷◌, length, take, get_or, refl, sym, ◌∙◌, add-one, arith, rules}
use Rattle.std.specs.Prelude.{◌&&◌, decimal}
use Rattle.std.proofs.lemmas.Grind.{common_steps}
use Rattle.std.proofs.lemmas.Fmt.{decimal-digits_value}
use Rattle.std.proofs.lemmas.Int.Digits.{digits_value_more}
use Rattle.std.proofs.lemmas.Str.{digit_value_digit}
use Rattle.std.proofs.lemmas.Str.Parse.{IsNumeralModel, numerals_by_value}
use Rattle.std.specs.Char.{is_ascii_digit}
use Rattle.std.specs.Int.{IsInRange}
use Rattle.std.specs.List.{list_all}
use Rattle.std.specs.Str.Parse.{digits_value}

-- Holds if each byte is a digit.
abbrev pub Digits : List ℕ → Type 0
Digits text = list_all is_ascii_digit text ≡ true

own : IsNumeralModel Digits (digits_value 10)
own = numerals_by_value Digits (search rules)

both_true : (a b : Bool) → a ≡ true → b ≡ true → (a && b) ≡ true
both_true true true e f = refl
both_true true false e f = f
both_true false b e f = e

halves : (a b : Bool) → (a && b) ≡ true → (a ≡ true) × (b ≡ true)
halves true b e = (refl, e)
halves false b e = absurd cc

digit_range : (b : ℕ) → is_ascii_digit b ≡ true → IsInRange 48 57 b
digit_range b h = grind (arith, common_steps)

digits_next : (text : List ℕ) (i : ℕ) → i < length text → Digits (take i text) → is_ascii_digit (get_or text i 0) ≡ true → Digits (take (suc i) text)
digits_next [] i lt all digit = absurd (omega arith)
digits_next (c ∷ text) zero lt all digit = both_true (is_ascii_digit c) true digit refl
digits_next (c ∷ text) (suc i) lt all digit =
    let p = halves (is_ascii_digit c) (list_all is_ascii_digit (take i text)) all in
    both_true (is_ascii_digit c) (list_all is_ascii_digit (take (suc i) text)) p.0 (digits_next text i (omega arith) p.1 digit)

-- One more digit.
pub digits_more : (text : List ℕ) (i : ℕ) → i < length text → Digits (take i text) → is_ascii_digit (get_or text i 0) ≡ true → Digits (take (i + 1) text)
digits_more text i lt all digit = rw add-one (digits_next text i lt all digit)

pub value_more : (text : List ℕ) (i : ℕ) → i < length text → is_ascii_digit (get_or text i 0) ≡ true
    → digits_value 10 (take i text) * 10 + (get_or text i 0 - 48) ≡ digits_value 10 (take (i + 1) text)
value_more text i lt digit =
    let range : IsInRange 48 57 (get_or text i 0) = digit_range (get_or text i 0) digit in
    omega (arith, digits_value_more 10 text i lt, digit_value_digit (get_or text i 0) range)

same_start : (text : List ℕ) (i : ℕ) → get_or (take (suc i) text) 0 0 ≡ get_or text 0 0
same_start [] i = refl
same_start (c ∷ text) i = refl

same_first : (text : List ℕ) (i : ℕ) → get_or (take (i + 1) text) 0 0 ≡ get_or text 0 0
same_first text i = rw add-one (same_start text i)

-- Digits that do not begin with 0 are the decimal form of their value.
pub written : (text : List ℕ) (i number : ℕ) → i < length text → get_or text 0 0 ≢ 48 → Digits (take (i + 1) text) → digits_value 10 (take (i + 1) text) ≡ number → number < 2 ^ 32
    → take (i + 1) text ≡ decimal number
written text i number lt first all value small =
    let some : 0 < length (take (i + 1) text) = grind (arith, common_steps) in
    let wide : digits_value 10 (take (i + 1) text) < 2 ^ 64 = omega arith in
    sym (decimal-digits_value own (take (i + 1) text) all some (λ e. absurd (first (sym (same_first text i) ∙ e))) wide) ∙ rw value refl

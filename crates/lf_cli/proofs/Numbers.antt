-- Texts that are numbers.
use Rattle.std.proofs.Common.{◌≡◌, ◌⊎◌, inl, inr, ℕ, ◌<◌, ◌≤◌, arith, Bool, true, false, List, [], ◌∷◌, length, Option, Some, None, is_some, nat_le, nat_lt, refl, sym, ap, ◌∙◌}
use Rattle.std.specs.Prelude.{◌^◌}
use Rattle.std.specs.Char.{digit_value}
use Rattle.std.specs.List.{list_all}
use Rattle.std.specs.Str.Parse.{AllDigits, IsNumeral, digits_value, without_leading_plus}
use Rattle.std.proofs.lemmas.Bool.{false≢true, le-leb, leb-true}
use Rattle.std.proofs.lemmas.Bool.Decides.{Decides-ltb}
use Rattle.clap.proofs.WalkLemmas.{both}
use Rattle.lf_cli.specs.Command.{is_number_text, number_in, decimal_number}

abbrev are_digits : List ℕ → Bool
are_digits = list_all (λ digit. nat_lt (digit_value digit) 10)

digits_true : (ds : List ℕ) → AllDigits 10 ds → are_digits ds ≡ true
digits_true [] h = refl
digits_true (d ∷ ds) h = rw ((Decides-ltb (digit_value d) 10).1 h.0, digits_true ds h.1) refl

digits_from : (ds : List ℕ) → are_digits ds ≡ true → AllDigits 10 ds
digits_from [] e = tt
digits_from (d ∷ ds) e =
    let parts = both (nat_lt (digit_value d) 10) (are_digits ds) e in ((Decides-ltb (digit_value d) 10).0 parts.0, digits_from ds parts.1)

is_true : (text : List ℕ) → IsNumeral 10 (without_leading_plus text) → is_number_text text ≡ true
is_true text h = rw ((Decides-ltb 0 (length (without_leading_plus text))).1 h.0, digits_true (without_leading_plus text) h.1) refl

from_true : (text : List ℕ) → is_number_text text ≡ true → IsNumeral 10 (without_leading_plus text)
from_true text e =
    let parts = both (nat_lt 0 (length (without_leading_plus text))) (are_digits (without_leading_plus text)) e in (
      (Decides-ltb 0 (length (without_leading_plus text))).0 parts.0,
      digits_from (without_leading_plus text) parts.1,
    )

-- The number of a text that is a numeral within the bounds.
pub number_some : (least most n : ℕ) (text : List ℕ) → IsNumeral 10 (without_leading_plus text) → n ≡ digits_value 10 (without_leading_plus text)
    → least ≤ n → n ≤ most → Some n ≡ number_in least most text
number_some least most n text numeral is low high =
    let low' : nat_le least (decimal_number text) ≡ true = le-leb least (decimal_number text) (omega (arith, is, low)) in
    let high' : nat_le (decimal_number text) most ≡ true = le-leb (decimal_number text) most (omega (arith, is, high)) in
    rw (is_true text numeral, low', high', is) refl

-- If a number within the bounds is found, its text writes that number.
pub from_number : (least most n : ℕ) (text : List ℕ) → number_in least most text ≡ Some n
    → (is_number_text text ≡ true) × (nat_le least (decimal_number text) ≡ true) × (nat_le (decimal_number text) most ≡ true)
from_number least most n text e = by (is_number_text text) refl (nat_le least (decimal_number text)) refl (nat_le (decimal_number text) most) refl
  where
    by : (a : Bool) → is_number_text text ≡ a → (b : Bool) → nat_le least (decimal_number text) ≡ b → (c : Bool) → nat_le (decimal_number text) most ≡ c
        → (is_number_text text ≡ true) × (nat_le least (decimal_number text) ≡ true) × (nat_le (decimal_number text) most ≡ true)
    by true is true low true high = (is, low, high)
    by false is b low c high = let same : None ≡ Some n = sym (rw is refl) ∙ e in absurd (false≢true (ap is_some same))
    by true is false low c high = let same : None ≡ Some n = sym (rw (is, low) refl) ∙ e in absurd (false≢true (ap is_some same))
    by true is true low false high = let same : None ≡ Some n = sym (rw (is, low, high) refl) ∙ e in absurd (false≢true (ap is_some same))

-- A text that is no number, or whose number is too large.
pub number_none : (least most k : ℕ) (text : List ℕ) → ¬ (IsNumeral 10 (without_leading_plus text) × (digits_value 10 (without_leading_plus text) < 2 ^ k))
    → most < 2 ^ k → None ≡ number_in least most text
number_none least most k text not_read fits = by (number_in least most text) refl
  where
    by : (r : Option ℕ) → number_in least most text ≡ r → None ≡ number_in least most text
    by None is = sym is
    by (Some n) is =
        let said = from_number least most n text is in
        let high : decimal_number text ≤ most = leb-true (decimal_number text) most said.2 in
        absurd (not_read (from_true text said.0, omega (arith, high, fits)))

-- A number out of the bounds.
pub number_out : (least most n : ℕ) (text : List ℕ) → n ≡ digits_value 10 (without_leading_plus text) → (n < least) ⊎ (most < n)
    → None ≡ number_in least most text
number_out least most n text is out = by (number_in least most text) refl out
  where
    by : (r : Option ℕ) → number_in least most text ≡ r → (n < least) ⊎ (most < n) → None ≡ number_in least most text
    by None found out = sym found
    by (Some m) found (inl low) =
        let said = from_number least most m text found in
        let least_of : least ≤ decimal_number text = leb-true least (decimal_number text) said.1 in
        absurd (omega (arith, low, least_of, is))
    by (Some m) found (inr high) =
        let said = from_number least most m text found in
        let most_of : decimal_number text ≤ most = leb-true (decimal_number text) most said.2 in
        absurd (omega (arith, high, most_of, is))

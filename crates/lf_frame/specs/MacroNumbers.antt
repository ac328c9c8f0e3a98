-- The number of a macro in 32 bits, or `None`.
use Rattle.std.specs.Prelude.{◌≡◌, ℕ, zero, suc, Option, None, Some, refl}
use Rattle.std.proofs.Common.{ap}
use Rattle.lf_frame.specs.declared.macro_numbers.MacroNumber.TheInside.{Inside}

-- The number of a code.
abbrev pub number_of_code : ℕ → Option ℕ
number_of_code zero = None
number_of_code (suc number) = Some number

-- The code of a number.
abbrev pub number_code_of : Option ℕ → ℕ
number_code_of None = 0
number_code_of (Some number) = suc number

-- The number of these fields.
abbrev pub stored_number_in : Inside → Option ℕ
stored_number_in n = number_of_code n.code

-- The fields of a number.
abbrev pub stored_number : Option ℕ → Inside
stored_number number = record { code = number_code_of number }

number_code_back : (code : ℕ) → number_code_of (number_of_code code) ≡ code
number_code_back zero = refl
number_code_back (suc number) = refl

-- Fields are those of their own number.
pub stored_number_back : (n : Inside) → stored_number (stored_number_in n) ≡ n
stored_number_back n = ap (λ code. record { code = code }) (number_code_back n.code)

-- Signed numbers of 32 bits, as code passes them on.
use Rattle.std.proofs.Common.{◌≡◌, ◌↔◌, ◌∙◌, ℤ, ◌<ℤ◌, FitsSigned, to_z, of_z, w32, IsTrue, int_lt, ap, sym, arith}
use Rattle.std.proofs.lemmas.Int.{ints, to_z-of_z}

-- numbers that are passed on as the same number are the same
pub same_narrow : (a b : ℤ) → FitsSigned w32 a → FitsSigned w32 b → of_z w32 a ≡ of_z w32 b → a ≡ b
same_narrow a b f g e = sym (to_z-of_z w32 a f) ∙ ap (to_z w32) e ∙ to_z-of_z w32 b g

less_plain : (a b : ℤ) → IsTrue (int_lt a b) ↔ (a <ℤ b)
less_plain a b = (λ t. grind (arith, ints), λ s. grind (arith, ints))

-- comparing the numbers that are passed on is comparing the numbers
pub less_narrow : (a b : ℤ) → FitsSigned w32 a → FitsSigned w32 b → IsTrue (int_lt (to_z w32 (of_z w32 a)) (to_z w32 (of_z w32 b))) ↔ (a <ℤ b)
less_narrow a b f g = rw (to_z-of_z w32 a f, to_z-of_z w32 b g) (less_plain a b)

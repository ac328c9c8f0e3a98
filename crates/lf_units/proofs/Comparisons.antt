-- What the results of comparisons say of two numbers.
use Rattle.std.proofs.Common.{◌≡◌, ℤ, ◌≤ℤ◌, ◌<ℤ◌, true, false, int_le, int_lt, arith}
use Rattle.std.proofs.lemmas.Int.{ints}

pub less_of : (a b : ℤ) → int_lt a b ≡ true → a <ℤ b
less_of a b e = grind (arith, ints)

pub of_less : (a b : ℤ) → a <ℤ b → int_lt a b ≡ true
of_less a b h = grind (arith, ints)

pub not_less_of : (a b : ℤ) → int_lt a b ≡ false → b ≤ℤ a
not_less_of a b e = grind (arith, ints)

pub most_of : (a b : ℤ) → int_le a b ≡ true → a ≤ℤ b
most_of a b e = grind (arith, ints)

pub of_most : (a b : ℤ) → a ≤ℤ b → int_le a b ≡ true
of_most a b h = grind (arith, ints)

pub not_most_of : (a b : ℤ) → int_le a b ≡ false → b <ℤ a
not_most_of a b e = grind (arith, ints)

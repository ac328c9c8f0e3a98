-- The result of reading a line that prints a request.
use Rattle.std.proofs.Common.{◌≡◌, Option, Some, None, Result, Ok, Err, sym, ◌∙◌}
use Rattle.std.specs.Prelude.{MatchResult}

module _ {C R E : Type 0} (command_in : R → C) where
  -- the line's request is this one, and so is the result of the reader
  pub reads_printed : (o : Option C) (command : C) (result : Result R E) → o ≡ Some command
      → MatchResult result (λ request. o ≡ Some (command_in request)) (λ _. o ≡ None) → MatchResult result (λ request. command_in request ≡ command) (λ _. ⊥)
  reads_printed o command (Ok request) is read = one (sym read ∙ is) where
    one : {a b : C} → Some a ≡ Some b → a ≡ b
    one e = cc
  reads_printed o command (Err error) is read = none (sym read ∙ is) where
    none : {a : C} → None ≡ Some a → ⊥
    none e = cc

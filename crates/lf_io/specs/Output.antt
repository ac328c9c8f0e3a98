-- What is written to an output.
use Rattle.std.specs.Prelude.{ℕ, List, ◌++◌}

-- Holds if exactly this text was written between the old output and the new one, whatever was
-- written earlier.
abbrev pub PutsText : {O : Type 0} → (O → O → List ℕ → Type 0) → O → O → List ℕ → Type 0
PutsText took old new text = (start : _) (before : List ℕ) → took start old before → took start new (before ++ text)

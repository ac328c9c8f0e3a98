use Rattle.std.proofs.Common.{◌≡◌, [], ◌∷◌, None, List, length, map, refl, ℕ}
use Rattle.std.specs.Borrow.{Bor}
use Rattle.lf_cli.specs.Help.{help_requested}
use Rattle.lf_cli.proofs.help.help_of.Goals as goal

-- Words that are neither two nor three request nothing.
nothing_requested : (words : List (Bor (List ℕ))) → (length words ≡ 2 → ⊥) → (length words ≡ 3 → ⊥) → None ≡ help_requested (map (λ word. word.now) words)
nothing_requested [] two three = refl
nothing_requested (a ∷ []) two three = refl
nothing_requested (a ∷ b ∷ []) two three = absurd (two refl)
nothing_requested (a ∷ b ∷ c ∷ []) two three = absurd (three refl)
nothing_requested (a ∷ b ∷ c ∷ d ∷ more) two three = refl

pub returns : goal.returns
returns c = nothing_requested c.args.words.now c.if-words-eq2.false c.if-words-eq3.false

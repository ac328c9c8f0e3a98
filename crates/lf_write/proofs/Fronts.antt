-- Bytes compared part by part.
use Rattle.std.proofs.Common.{◌≡◌, ◌≢◌, ◌++◌, ℕ, Bool, true, false, List, [], ◌∷◌, Option, Some, None, refl, eq-eqb}
use Rattle.std.specs.Prelude.{bytes_eq}
use Rattle.std.specs.Option.{MatchOption}
use Rattle.std.proofs.lemmas.Slice.Eq.{bytes_eq-Decides}
use Rattle.lf_write.specs.Comparing.{IsRestOfText}
use denote.Ref.{Bor}

-- The same bytes in front of both.
same_front : (front a b : List ℕ) → bytes_eq (front ++ a) (front ++ b) ≡ bytes_eq a b
same_front [] a b = refl
same_front (x ∷ front) a b = rw (eq-eqb x x refl) (same_front front a b)

unequal : (a b : List ℕ) → (a ≡ b → ⊥) → (test : Bool) → bytes_eq a b ≡ test → test ≡ false
unequal a b apart true e = absurd (apart ((bytes_eq-Decides a b).0 e))
unequal a b apart false e = refl

-- What is left after a prefix is removed.
pub leaves : (bytes due : List ℕ) (left : Option (Bor (List ℕ))) → MatchOption left ((rest : List ℕ) → bytes ≢ due ++ rest) (λ x. bytes ≡ due ++ x.now)
    → IsRestOfText bytes (λ rest. due ++ rest) left
leaves bytes due (Some left) e = λ rest. rw e (same_front due left.now rest)
leaves bytes due None apart = λ rest. unequal bytes (due ++ rest) (apart rest) (bytes_eq bytes (due ++ rest)) refl

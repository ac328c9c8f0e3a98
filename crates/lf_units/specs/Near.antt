-- The boxes of a list that share a point with a rectangle.
use Rattle.std.specs.Prelude.{◌≡◌, ◌≢◌, ℕ, ◌≤◌, List, ◌++◌, All, Contains, IsPermutation}
use Rattle.lf_units.specs.Area.{SharesPoint}
use Rattle.lf_units.specs.declared.geometry.Rect.{Rect}
use Rattle.lf_units.specs.declared.placed.Placed.{Placed}

-- The found boxes are those of the list that share a point with the rectangle, each as often as in
-- the list. The list is a permutation of the found boxes and others, and the others share no point.
pub record AreAllOverlapping (boxes : List Placed) (rect : Rect) (found : List Placed) : Type 0 where
  pub others : List Placed
  pub parted : IsPermutation boxes (found ++ others)
  pub near : All (λ p. SharesPoint rect p.rect) found
  pub far : All (λ p. SharesPoint rect p.rect → ⊥) others

-- A box of the list has this number, which is not `but`, and shares a point with the rectangle.
pub record IsOverlapping (boxes : List Placed) (rect : Rect) (but own : ℕ) : Type 0 where
  pub placed : Placed
  pub among : Contains boxes placed
  pub number : placed.own ≡ own
  pub other : own ≢ but
  pub shares : SharesPoint rect placed.rect

-- The least number, other than `but`, of a box of the list that shares a point with the rectangle.
pub record IsLeastOverlapping (boxes : List Placed) (rect : Rect) (but own : ℕ) : Type 0 where
  pub overlapping_one : IsOverlapping boxes rect but own
  pub least : All (λ p. p.own ≢ but → SharesPoint rect p.rect → own ≤ p.own) boxes

-- No box of the list with a number other than `but` shares a point with the rectangle.
abbrev pub IsNoneOverlapping : List Placed → Rect → ℕ → Type 0
IsNoneOverlapping boxes rect but = All (λ p. p.own ≢ but → SharesPoint rect p.rect → ⊥) boxes

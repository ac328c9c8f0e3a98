-- How boxes and bounds form a tree, and the results of the steps of a search in it.
use Rattle.std.specs.Prelude.{◌≡◌, ◌≢◌, ◌⊎◌, ℕ, ◌/◌, ◌≤◌, ◌≤ℤ◌, Option, IfSome, IsSomeAnd, List, [], ◌∷◌, ◌++◌, length, take, drop, All}
use Rattle.lf_units.specs.Area.{SharesPoint}
use Rattle.lf_units.specs.declared.geometry.Rect.{Rect}
use Rattle.lf_units.specs.Near.{AreAllOverlapping, IsOverlapping}
use Rattle.lf_units.specs.declared.placed.Placed.{Placed}
use Rattle.lf_units.specs.declared.bound.Bound.{Bound}

-- The bound's rectangle contains the box, by its edges, and its number is at most the box's.
pub record IsBound (bound : Bound) (p : Placed) : Type 0 where
  pub left : bound.rect.x1 ≤ℤ p.rect.x1
  pub bottom : bound.rect.y1 ≤ℤ p.rect.y1
  pub right : p.rect.x2 ≤ℤ bound.rect.x2
  pub top : p.rect.y2 ≤ℤ bound.rect.y2
  pub least : bound.least ≤ p.own

-- The bounds of a run of boxes, each in front of those below it. A run without bounds is not
-- divided. Otherwise the first bounds the run, and the halves of the other bounds are those of the
-- halves of the run.
pub data IsTree : List Placed → List Bound → Type 0 where
  undivided : (boxes : List Placed) → IsTree boxes []
  divided : (boxes : List Placed) (bound : Bound) (below : List Bound) → All (IsBound bound) boxes →
      IsTree (take (length boxes / 2) boxes) (take (length below / 2) below) →
      IsTree (drop (length boxes / 2) boxes) (drop (length below / 2) below) → IsTree boxes (bound ∷ below)

-- There is a number so far, and it is at most this one.
abbrev pub IsUpTo : Option ℕ → ℕ → Type 0
IsUpTo least own = IsSomeAnd least (λ n. n ≤ own)

-- The least of the number so far and of the numbers, other than `but`, of the boxes that share a
-- point with the rectangle.
pub record IsLeastOf (boxes : List Placed) (rect : Rect) (but : ℕ) (so_far least : Option ℕ) : Type 0 where
  pub from : (least ≡ so_far) ⊎ IsSomeAnd least (IsOverlapping boxes rect but)
  pub no_greater : IfSome so_far (IsUpTo least)
  pub least_overlapped : All (λ p. p.own ≢ but → SharesPoint rect p.rect → IsUpTo least p.own) boxes

-- No box within the bound has a number below the one so far and shares a point with the rectangle.
abbrev pub HoldsNoLess : Bound → Rect → Option ℕ → Type 0
HoldsNoLess bound rect so_far = (p : Placed) → IsBound bound p → SharesPoint rect p.rect → IsUpTo so_far p.own

-- The boxes of the list that share a point with the rectangle are appended.
pub record AddsNear (boxes : List Placed) (rect : Rect) (old new : List Placed) : Type 0 where
  pub found : List Placed
  pub is : new ≡ old ++ found
  pub near : AreAllOverlapping boxes rect found

-- Laws on segments: a wide box on rows stays in a team's ground and clear of obstacles iff it lies
-- in the team's segments.
use Rattle.std.specs.Prelude.{◌≡◌, ◌↔◌, ℕ, ℤ, ◌<◌, ◌<ℤ◌, All, List, Some, slice_get}
use Rattle.lf_units.specs.declared.geometry.Rect.{Rect}
use Rattle.lf_units.specs.Area.{SharesPoint}
use Rattle.lf_floorplan.specs.declared.frame.Frame.{Frame}
use Rattle.lf_floorplan.specs.declared.parts.Row.{Row}
use Rattle.lf_floorplan.specs.Ground.{StaysInGround}
use Rattle.lf_floorplan.specs.RowSupport.{ExtendsOver, IsSitesHigh, IsBottomRow, Supports, RestsOnRows}
use Rattle.lf_segments.specs.declared.segment.Segment.{Segment}
use Rattle.lf_segments.specs.Segments.{IsCutBeside, LiesInSegment}
use Rattle.lf_segments.specs.Boxes.{x_extent}

-- In each row that carries the box, its x range lies in one segment of the team.
abbrev pub LiesInSegments : Frame → List Segment → ℕ → Rect → Type 0
LiesInSegments f segments team box =
    (k : ℕ) (bottom : Row) (j n : ℕ) (r : Row) → IsSitesHigh f box k → IsBottomRow f box bottom → j < k
    → slice_get f.rows n ≡ Some r →
    Supports f box bottom j r → LiesInSegment segments n team (x_extent box)

-- A row at this y extends over the box's left edge, and the box's x range lies in one segment of
-- the team in it.
pub record LiesAt (f : Frame) (segments : List Segment) (team : ℕ) (box : Rect) (y : ℤ) : Type 0 where
  pub number : ℕ
  pub row : Row
  pub is_in_place : slice_get f.rows number ≡ Some row
  pub extends : ExtendsOver f y box.x1 row
  pub lies : LiesInSegment segments number team (x_extent box)

-- A wide box on rows stays in the team's ground and clear of obstacles iff it lies in the team's
-- segments, cut with the same obstacles.
abbrev pub SegmentsDecide : Type 0
SegmentsDecide =
    (f : Frame) (obstacles : List Rect) (segments : List Segment) (team : ℕ) (box : Rect)
    → IsCutBeside f obstacles segments → RestsOnRows f box →
    box.x1 <ℤ box.x2
    → ((StaysInGround f team box × All (λ o. SharesPoint box o → ⊥) obstacles) ↔ LiesInSegments f segments team box)

-- A frame has only one list of segments for the same obstacles.
abbrev pub CutIsUnique : Type 0
CutIsUnique = (f : Frame) (obstacles : List Rect) (a b : List Segment) → IsCutBeside f obstacles a
    → IsCutBeside f obstacles b → a ≡ b

-- Segments: the spans of rows that a team may use.
use Rattle.std.specs.Prelude.{◌≡◌, ◌⊎◌, ◌↔◌, ℕ, ℤ, ◌<◌, ◌≤ℤ◌, ◌<ℤ◌, List, ◌++◌, All, AllPairs, Any, Some, length, slice_get}
use Rattle.lf_units.specs.declared.geometry.Rect.{Rect}
use Rattle.lf_units.specs.Area.{Covers}
use Rattle.lf_units.specs.declared.span.Span.{Span}
use Rattle.lf_units.specs.Spans.{HoldsNumber, IsFilled, LiesIn}
use Rattle.lf_floorplan.specs.declared.frame.Frame.{Frame}
use Rattle.lf_floorplan.specs.declared.parts.Row.{Row}
use Rattle.lf_floorplan.specs.Rows.{row_area}
use Rattle.lf_floorplan.specs.Ground.{IsTeam, InGround}
use Rattle.lf_segments.specs.declared.segment.Segment.{Segment}

-- The row extends over x, and no point of it there is in one of the obstacles.
pub record IsClearAt (f : Frame) (obstacles : List Rect) (r : Row) (x : ℤ) : Type 0 where
  pub left : r.x ≤ℤ x
  pub right : x <ℤ (row_area f.pitch r).x2
  pub clear : (y : ℤ) → Covers (row_area f.pitch r) x y → All (λ obstacle. Covers obstacle x y → ⊥) obstacles

-- The team may use the row at x: the row is clear there, and each of its points there is the team's
-- ground.
pub record IsOpen (f : Frame) (obstacles : List Rect) (r : Row) (team : ℕ) (x : ℤ) : Type 0 where
  pub clear : IsClearAt f obstacles r x
  pub ground : (y : ℤ) → Covers (row_area f.pitch r) x y → InGround f team x y

-- The segment is the team's, in the row with this number.
pub record IsOf (row team : ℕ) (g : Segment) : Type 0 where
  pub in_row : g.row ≡ row
  pub of_team : g.team ≡ team

-- The span lies in one segment of the row and the team.
abbrev pub LiesInSegment : List Segment → ℕ → ℕ → Span → Type 0
LiesInSegment segments row team s = Any (λ g. IsOf row team g × LiesIn s g.span) segments

-- In one row, segments are in order of teams, and those of one team in order of x, without overlap.
abbrev pub ComesFirst : Segment → Segment → Type 0
ComesFirst a b = (a.team < b.team) ⊎ ((a.team ≡ b.team) × (a.span.hi ≤ℤ b.span.lo))

-- The order of the list: by row, then by team, then by x.
abbrev pub ComesBefore : Segment → Segment → Type 0
ComesBefore a b = (a.row < b.row) ⊎ ((a.row ≡ b.row) × ComesFirst a b)

-- The segment's row and team exist, and its span is filled.
pub record IsSegment (f : Frame) (g : Segment) : Type 0 where
  pub row_known : g.row < length f.rows
  pub team_known : IsTeam f g.team
  pub filled : IsFilled g.span

-- The segments of a frame's rows, cut with these obstacles, in one list. A filled span lies in a
-- segment of a row and a team iff the team may use the row at each of its numbers. So segments are
-- maximal.
pub record IsCutBeside (f : Frame) (obstacles : List Rect) (segments : List Segment) : Type 0 where
  pub known : All (IsSegment f) segments
  pub in_order : AllPairs ComesBefore segments
  pub exact : (n : ℕ) (r : Row) (team : ℕ) (s : Span) → slice_get f.rows n ≡ Some r → IsFilled s →
      (LiesInSegment segments n team s ↔ ((x : ℤ) → HoldsNumber s x → IsOpen f obstacles r team x))

-- The segments of a frame, cut with its own obstacles.
abbrev pub IsCut : Frame → List Segment → Type 0
IsCut f segments = IsCutBeside f f.obstacles segments

-- The run of a list that has a property, from the n-th element on: no element in front of it or
-- after it has the property.
pub record IsRunFrom (P : Segment → Type 0) (segments : List Segment) (n : ℕ) (run : List Segment) : Type 0 where
  pub before : List Segment
  pub after_it : List Segment
  pub parts : segments ≡ before ++ (run ++ after_it)
  pub begins : n ≡ length before
  pub has : All P run
  pub none_before : All (λ g. P g → ⊥) before
  pub none_after : All (λ g. P g → ⊥) after_it

-- The segments of the list that are of this row and team, which are consecutive.
abbrev pub IsRunOf : List Segment → ℕ → ℕ → List Segment → Type 0
IsRunOf segments row team run = (n : ℕ) × IsRunFrom (IsOf row team) segments n run

-- The segment is of this row and team, and holds x.
pub record IsAt (row team : ℕ) (x : ℤ) (g : Segment) : Type 0 where
  pub of : IsOf row team g
  pub holds : HoldsNumber g.span x

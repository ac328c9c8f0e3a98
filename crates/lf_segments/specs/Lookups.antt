-- Facts that the private lookups of this crate use. No public clause cites them.
use Rattle.std.specs.Prelude.{ℕ, ℤ, pos, ◌≤◌, ◌≤ℤ◌, ◌<ℤ◌, All, AllPairs, List}
use Rattle.lf_units.specs.declared.geometry.Point.{Point}
use Rattle.lf_units.specs.declared.geometry.Rect.{Rect}
use Rattle.lf_floorplan.specs.Bounds.{IsDefNumber}
use Rattle.lf_floorplan.specs.declared.frame.Frame.{Frame}
use Rattle.lf_floorplan.specs.RowSupport.{RestsOnRows}
use Rattle.lf_segments.specs.declared.segment.Segment.{Segment}
use Rattle.lf_segments.specs.Segments.{ComesBefore}
use Rattle.lf_segments.specs.declared.rows_by_y.RowEntry.{RowEntry}
use Rattle.lf_segments.specs.declared.strip.Strip.{Strip}
use Rattle.lf_segments.specs.RowsByY.{IsRowsByY}
use Rattle.lf_segments.specs.Strips.{LiesBefore}

-- The frame's rows by y, segments in order, and a box with a width above 0.
pub record CanLookUp (f : Frame) (entries : List RowEntry) (segments : List Segment) (box : Rect) : Type 0 where
  pub rows : IsRowsByY f entries
  pub order : AllPairs ComesBefore segments
  pub wide : box.x1 <ℤ box.x2

-- A box with a width above 0 that rests on rows.
pub record IsBoxOnRows (f : Frame) (box : Rect) : Type 0 where
  pub wide : box.x1 <ℤ box.x2
  pub is_in_place : RestsOnRows f box

-- Strips in order, with widths above 0.
pub record AreWideStrips (strips : List Strip) : Type 0 where
  pub order : AllPairs LiesBefore strips
  pub wide : All (λ g. g.area.x1 <ℤ g.area.x2) strips

-- A y within a DEF text, the size of a core site, and a number of rows of at most 8.
pub record IsLevelAbove (y : ℤ) (pitch : Point) (level : ℕ) : Type 0 where
  pub from : IsDefNumber y
  pub high : pos 0 <ℤ pitch.y
  pub low : pitch.y ≤ℤ pos 20000000000
  pub few : level ≤ 8

-- A row height above 0, within the largest length of LEF.
pub record IsRowHeight (height : ℤ) : Type 0 where
  pub high : pos 0 <ℤ height
  pub small : height ≤ℤ pos 20000000000

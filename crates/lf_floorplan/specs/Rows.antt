-- Core sites and rows (LEF SITE, DEF ROW), and the facts that a frame keeps about them.
use Rattle.std.specs.Prelude.{ℕ, pos, ◌+ℤ◌, ◌*ℤ◌, ◌≤ℤ◌, ◌<ℤ◌, ◌≤◌, List, AllPairs, IsSome}
use Rattle.lf_units.specs.declared.geometry.Point.{Point}
use Rattle.lf_units.specs.declared.geometry.Rect.{Rect}
use Rattle.lf_units.specs.Area.{SharesPoint}
use Rattle.lf_units.specs.Length.{IsLength}
use Rattle.lf_orient.specs.Orientation.{rail_below}
use Rattle.lf_floorplan.specs.Bounds.{IsDefNumber}
use Rattle.lf_floorplan.specs.declared.parts.Row.{Row}

-- The size of a site or a macro in database units: whole, above 0 in x and in y, and within the
-- largest length of LEF.
pub record IsPitch (units : ℕ) (size pitch : Point) : Type 0 where
  pub across : IsLength units size.x pitch.x
  pub up : IsLength units size.y pitch.y
  pub wide : pos 0 <ℤ pitch.x
  pub high : pos 0 <ℤ pitch.y
  pub x_small : pitch.x ≤ℤ pos 20000000000
  pub y_small : pitch.y ≤ℤ pos 20000000000

-- The points of a row; `pitch` is the size of a core site.
abbrev pub row_area : Point → Row → Rect
row_area pitch r = record {
  x1 = r.x;
  y1 = r.y;
  x2 = r.x +ℤ (pos r.sites *ℤ pitch.x);
  y2 = r.y +ℤ pitch.y;
}

-- A row of core sites. Its corner has coordinates of DEF, it has at least one site, and it ends
-- within the range of DEF. Its orientation is N, S, FN or FS.
pub record IsCoreRow (pitch : Point) (r : Row) : Type 0 where
  pub x_in_def : IsDefNumber r.x
  pub y_in_def : IsDefNumber r.y
  pub has_site : 1 ≤ r.sites
  pub ends : (row_area pitch r).x2 ≤ℤ pos 2147483647
  pub upright : IsSome (rail_below r.orient)

-- No two rows share a point.
abbrev pub RowsApart : Point → List Row → Type 0
RowsApart pitch rows = AllPairs (λ a b. SharesPoint (row_area pitch a) (row_area pitch b) → ⊥) rows

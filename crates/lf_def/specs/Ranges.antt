-- The ranges of the numbers and names of a DEF text.
use Rattle.std.specs.Prelude.{ℕ, ◌≤◌, ◌<◌, length, All, IfSome, ℤ, pos, negsuc, ◌≤ℤ◌}
use Rattle.lf_units.specs.declared.geometry.Point.{Point}
use Rattle.lf_units.specs.declared.geometry.Rect.{Rect}
use Rattle.lf_lex.specs.Reading.{IsName}
use Rattle.lf_def.specs.declared.header.DocumentHeader.{DocumentHeader}
use Rattle.lf_def.specs.declared.rows.RowStatement.{RowStatement}
use Rattle.lf_def.specs.declared.regions.Region.{Region}
use Rattle.lf_def.specs.declared.groups.Group.{Group}
use Rattle.lf_def.specs.declared.groups.GroupParts.{GroupParts}
use Rattle.lf_def.specs.declared.components.Component.{Component}
use Rattle.lf_def.specs.declared.components.Location.{Location}
use Rattle.lf_def.specs.declared.components.PlacementClause.{PlacementClause}
use Rattle.lf_def.specs.declared.blockages.Blockage.{Blockage}
use Rattle.lf_def.specs.declared.doc_parts.DocParts.{DocParts}

-- Holds if the coordinate is from -2147483647 to 2147483647.
pub record IsDefCoordinate (x : ℤ) : Type 0 where
  pub low : negsuc 2147483646 ≤ℤ x
  pub high : x ≤ℤ pos 2147483647

pub record HasCoordinates (p : Point) : Type 0 where
  pub x : IsDefCoordinate p.x
  pub y : IsDefCoordinate p.y

-- A rectangle: its lower left corner comes first, then its upper right one.
pub record IsRect (r : Rect) : Type 0 where
  pub x1 : IsDefCoordinate r.x1
  pub y1 : IsDefCoordinate r.y1
  pub x2 : IsDefCoordinate r.x2
  pub y2 : IsDefCoordinate r.y2
  pub across : r.x1 ≤ℤ r.x2
  pub up : r.y1 ≤ℤ r.y2

-- Holds if the count is from 1 to the largest one.
pub record IsCount (most n : ℕ) : Type 0 where
  pub some : 1 ≤ n
  pub few : n ≤ most

-- A header: the design has a name, and UNITS, if given, is from 1 to 20000.
pub record IsHeader (h : DocumentHeader) : Type 0 where
  pub design : IsName h.design
  pub units : IfSome h.units (λ n. IsCount 20000 n)

pub record IsRow (r : RowStatement) : Type 0 where
  pub name : IsName r.name
  pub site : IsName r.site
  pub x : IsDefCoordinate r.x
  pub y : IsDefCoordinate r.y
  pub sites_x : IsCount 2147483647 r.sites_x
  pub sites_y : IsCount 2147483647 r.sites_y
  pub step : IfSome r.step (λ p. HasCoordinates p)

-- A region, with at least one rectangle.
pub record IsRegion (r : Region) : Type 0 where
  pub name : IsName r.name
  pub rects : All IsRect r.rects
  pub has_rect : 0 < length r.rects

pub record IsGroup (g : Group) : Type 0 where
  pub name : IsName g.name
  pub patterns : All IsName g.patterns
  pub region : IfSome g.region (λ n. IsName n)

abbrev pub IsLocation : Location → Type 0
IsLocation p = IsDefCoordinate p.x × IsDefCoordinate p.y

abbrev pub IsPlacement : PlacementClause → Type 0
IsPlacement p = IfSome p.place (λ q. IsLocation q)

pub record IsComponent (c : Component) : Type 0 where
  pub name : IsName c.name
  pub mac : IsName c.mac
  pub placement : IfSome c.placement (λ p. IsPlacement p)

pub record IsBlockage (b : Blockage) : Type 0 where
  pub rects : All IsRect b.rects

-- The ranges of the parts of a group that were read so far.
pub record AreGroupParts (g : GroupParts) : Type 0 where
  pub patterns : All IsName g.patterns
  pub region : IfSome g.region (λ n. IsName n)

-- The ranges of the parts of a text that were read so far.
pub record AreParts (p : DocParts) : Type 0 where
  pub design : IfSome p.header.design (λ n. IsName n)
  pub units : IfSome p.header.units (λ n. IsCount 20000 n)
  pub rows : All IsRow p.rows
  pub regions : All IsRegion p.regions
  pub groups : All IsGroup p.groups
  pub components : All IsComponent p.components
  pub blockages : All IsBlockage p.blockages

-- The best place of a cell on one row. No public clause cites this module.
use Rattle.std.specs.Prelude.{◌≡◌, ◌⊎◌, ℤ, ◌+ℤ◌, ◌≤ℤ◌, Option, map, MatchOption}
use Rattle.lf_units.specs.declared.geometry.Point.{Point}
use Rattle.lf_units.specs.declared.span.Span.{Span}
use Rattle.lf_floorplan.specs.declared.frame.Frame.{Frame}
use Rattle.lf_floorplan.specs.declared.parts.Row.{Row}
use Rattle.lf_floorplan.specs.Sizes.{box_at}
use Rattle.lf_floorplan.specs.RowSupport.{IsBottomRow}
use Rattle.lf_rules.specs.Choice.{SpotPlace, PlacementQuery, IsAllowedPlace, Precedes}
use Rattle.lf_rules.specs.Padding.{length_of}
use Rattle.lf_rules.specs.Team.{query_from}
use Rattle.lf_cells.specs.Cells.{cells_of}
use Rattle.lf_legalize.specs.Members.{member_of}
use Rattle.lf_legalize.specs.declared.row_search.RowSearch.{RowSearch}

-- the cell whose best place is searched for, regarded as unplaced among its team's cells, under the
-- team's padding
abbrev pub query_of_search : RowSearch → PlacementQuery
query_of_search s = query_from s.frame.now s.id.team s.padding.sites
    (map member_of (cells_of s.occupied.now.cells s.id.team)) s.id.own s.mac

-- the padding of the search as a length
abbrev pub padding_in : RowSearch → ℤ
padding_in s = length_of s.frame.now s.padding.sites

-- at this place a box of this size has the row as its bottom row, and lies over the window
pub record IsOnRowIn (f : Frame) (size : Point) (r : Row) (window : Span) (p : SpotPlace) : Type 0 where
  pub bottom : IsBottomRow f (box_at size p.x p.y) r
  pub left : window.lo ≤ℤ p.x
  pub right : (p.x +ℤ size.x) ≤ℤ window.hi

-- an allowed place among the seen ones that no other allowed seen place precedes
pub record IsBestAmong (Seen : SpotPlace → Type 0) (c : PlacementQuery) (target : Point)
    (best : SpotPlace) : Type 0 where
  pub seen : Seen best
  pub may_go : IsAllowedPlace c best
  pub least : (p : SpotPlace) → Seen p → IsAllowedPlace c p → (p ≡ best) ⊎ Precedes target best p

-- the result of comparing the seen places: the best of them, or None only if the cell is allowed at
-- no seen place
abbrev pub IsChoiceAmong : (SpotPlace → Type 0) → PlacementQuery → Point → Option SpotPlace → Type 0
IsChoiceAmong Seen c target found =
    MatchOption found ((p : SpotPlace) → Seen p → IsAllowedPlace c p → ⊥) (λ best. IsBestAmong Seen c target best)

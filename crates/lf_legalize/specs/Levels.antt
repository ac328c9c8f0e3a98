-- The rows that can support a cell over a bottom row, level by level, and what is free on them. No
-- public clause cites this module.
use Rattle.std.specs.Prelude.{◌≡◌, ◌↔◌, ℕ, zero, suc, ℤ, pos, ◌<◌, ◌≤◌, ◌%◌, ◌+ℤ◌, ◌*ℤ◌, List, [], ◌∷◌, ◌++◌, Any, IsTrue, Option, Some, MatchOption}
use Rattle.std.specs.Prelude.{length, slice_get, slice_index_or}
use Rattle.std.specs.Option.{option_map}
use Rattle.lf_units.specs.declared.span.Span.{Span}
use Rattle.lf_units.specs.Spans.{IsDisjointFrom, IsFilled, IsRising, LiesIn, LiesInOneOf}
use Rattle.lf_units.specs.Grids.{FindsNearest, IsNoFarther, IsBounded, grid_of}
use Rattle.lf_gaps.specs.Gaps.{FitsRows}
use Rattle.lf_orient.specs.declared.Orient.{Orient}
use Rattle.lf_orient.specs.Orientation.{is_allowed, EqualUnder, rail_below}
use Rattle.lf_floorplan.specs.declared.frame.Frame.{Frame}
use Rattle.lf_floorplan.specs.declared.parts.Row.{Row}
use Rattle.lf_floorplan.specs.Bounds.{IsDefNumber}
use Rattle.lf_floorplan.specs.Boxes.{macro_of}
use Rattle.lf_floorplan.specs.RowSupport.{rail_alternated}
use Rattle.lf_segments.specs.declared.strip.Strip.{Strip}
use Rattle.lf_segments.specs.Strips.{IsNear}
use Rattle.lf_rules.specs.Choice.{rank}
use Rattle.lf_cells.specs.declared.cell.CellId.{CellId}
use Rattle.lf_occupancy.specs.Views.{Occupied, IsFreeOver, IsStripOf}
use Rattle.lf_legalize.specs.declared.row_search.RowSearch.{RowSearch}
use Rattle.lf_legalize.specs.RowSearches.{padding_in}

-- the rail of the row of this number is the bottom row's, changed j times
pub record IsRailed (f : Frame) (bottom : Row) (j n : ℕ) : Type 0 where
  pub row : Row
  pub is_in_place : slice_get f.rows n ≡ Some row
  pub rail : rail_below row.orient ≡ option_map (rail_alternated j) (rail_below bottom.orient)

-- the row of this number lies j site heights above the bottom row, and its rail is the bottom
-- row's, changed j times
pub record IsLevelRow (f : Frame) (bottom : Row) (j n : ℕ) : Type 0 where
  pub row : Row
  pub is_in_place : slice_get f.rows n ≡ Some row
  pub at_level : row.y ≡ bottom.y +ℤ (pos j *ℤ f.pitch.y)
  pub rail : rail_below row.orient ≡ option_map (rail_alternated j) (rail_below bottom.orient)

-- a row that can support a cell at level j over the bottom row, which has the number `own`: at
-- level 0 only that row itself
abbrev pub IsRowOfLevel : Frame → ℕ → Row → ℕ → ℕ → Type 0
IsRowOfLevel f own bottom zero n = n ≡ own
IsRowOfLevel f own bottom (suc j) n = IsLevelRow f bottom (suc j) n

-- the span lies in the window, is free for the cell and its padding in one strip of the row of this
-- number, and shares no number with the soft spans of the row's strips near the window
pub record IsFreeOnRow (o : Occupied) (id : CellId) (window : Span) (padding : ℤ) (n : ℕ) (s : Span) : Type 0 where
  pub within : LiesIn s window
  pub in_strip : Any (λ g. IsStripOf n id.team g × IsFreeOver o id padding g s) o.index.strips
  pub off_soft : (k : ℕ) (g : Strip) → slice_get o.index.strips k ≡ Some g → IsNear n id.team window.lo window.hi g
      → IsDisjointFrom (slice_index_or o.index.soft k []) s

-- the spans of a row that are free in this sense: a span that holds a number lies in one of them if
-- and only if it is free
pub record AreOpenInRow (o : Occupied) (row : ℕ) (id : CellId) (window : Span) (padding : ℤ)
    (open_spans : List Span) : Type 0 where
  pub rising : IsRising open_spans
  pub exact : (s : Span) → IsFilled s → (LiesInOneOf open_spans s ↔ IsFreeOnRow o id window padding row s)

-- the free spans without the soft ones of the strips from `start` on and below `end`
pub record AreWithoutSoft (soft : List (List Span)) (start end : ℕ) (free left : List Span) : Type 0 where
  pub rising : IsRising left
  pub exact : (s : Span) → IsFilled s →
      (LiesInOneOf left s
      ↔ (LiesInOneOf free s × ((k : ℕ) → start ≤ k → k < end → IsDisjointFrom (slice_index_or soft k []) s)))

-- the span is free, in the same sense, on one of the rows
pub record IsFreeOnOne (Rows : ℕ → Type 0) (o : Occupied) (id : CellId) (window : Span) (padding : ℤ)
    (s : Span) : Type 0 where
  pub number : ℕ
  pub among : Rows number
  pub free : IsFreeOnRow o id window padding number s

-- the free spans in the window on the rows: a span that holds a number lies in one of them if and
-- only if it is free on one of the rows
pub record AreFreeOn (Rows : ℕ → Type 0) (o : Occupied) (id : CellId) (window : Span) (padding : ℤ)
    (free : List Span) : Type 0 where
  pub rising : IsRising free
  pub exact : (s : Span) → IsFilled s → (LiesInOneOf free s ↔ IsFreeOnOne Rows o id window padding s)

-- the free spans of the row of this number are appended to the other spans, if its rail is the
-- bottom row's, changed j times
pub record AddsLevel (s : RowSearch) (bottom : Row) (j n : ℕ) (window : Span) (old new : List Span) : Type 0 where
  pub added : List Span
  pub is : new ≡ old ++ added
  pub free : AreFreeOn (λ m. (m ≡ n) × IsRailed s.frame.now bottom j n) s.occupancy.now s.id window (padding_in s) added

-- the free spans on the rows of level j
abbrev pub IsLevel : RowSearch → ℕ → Row → Span → ℕ → List Span → Type 0
IsLevel s own bottom window j free =
    AreFreeOn (λ n. IsRowOfLevel s.frame.now own bottom j n) s.occupancy.now s.id window (padding_in s) free

-- the free spans on the rows of each of the first levels
pub record AreLevels (s : RowSearch) (own : ℕ) (bottom : Row) (window : Span) (count : ℕ)
    (lists : List (List Span)) : Type 0 where
  pub number : length lists ≡ count
  pub each : (j : ℕ) → j < count → IsLevel s own bottom window j (slice_index_or lists j [])

-- the nearest x to the target at which a cell of one row lies in the free spans of its row; None
-- only if it lies in none of them
pub record FindsFreeX (s : RowSearch) (own : ℕ) (bottom : Row) (window : Span) (found : Option ℤ) : Type 0 where
  pub free : List Span
  pub levels : AreLevels s own bottom window s.height (free ∷ [])
  pub nearest : FindsNearest (λ x. FitsRows (free ∷ []) (grid_of bottom.x s.frame.now.pitch.x) s.size.x x)
      s.target.now.x found

-- nothing is free on the rows of one level of the cell
pub record HasBareLevel (s : RowSearch) (own : ℕ) (bottom : Row) (window : Span) : Type 0 where
  pub level : ℕ
  pub within : level < s.height
  pub bare : IsLevel s own bottom window level []

-- orientations and rails allow a cell of the search this orientation on this bottom row
pub record FitsRow (s : RowSearch) (bottom : Row) (o : Orient) : Type 0 where
  pub allowed : IsTrue (is_allowed (macro_of s.frame.now s.mac).symmetry o)
  pub equal : s.height % 2 ≡ 1 → EqualUnder s.frame.now.site.symmetry o bottom.orient
  pub rail : s.height % 2 ≡ 0 → rail_below bottom.orient ≡ Some (macro_of s.frame.now s.mac).rail

-- the orientation of least rank that this bottom row allows the cell
pub record IsFirstOrient (s : RowSearch) (bottom : Row) (o : Orient) : Type 0 where
  pub may : FitsRow s bottom o
  pub least : (p : Orient) → FitsRow s bottom p → rank o ≤ rank p

-- the found orientation is that one; None only if the row allows the cell no orientation
abbrev pub FindsOrient : RowSearch → Row → Option Orient → Type 0
FindsOrient s bottom found = MatchOption found ((o : Orient) → FitsRow s bottom o → ⊥) (λ o. IsFirstOrient s bottom o)

-- a number near the coordinates of a DEF text: of two DEF coordinates, the one no farther from it
-- is no farther from the target
pub record IsEquivalentTarget (target near : ℤ) : Type 0 where
  pub bounded : IsBounded near
  pub same : (x y : ℤ) → IsDefNumber x → IsDefNumber y → IsNoFarther near x y → IsNoFarther target x y

-- The description of a design: lines, each a JSON object. Lengths are in database units, and a box
-- is [left, bottom, right, top].
use Rattle.std.specs.Prelude.{◌≡◌, ◌⊎◌, ℕ, ℤ, if◌then◌else◌, List, [], ◌∷◌, ◌++◌, Option, length, map, filter, flat_map, slice_get, take, codes}
use Rattle.std.specs.Io.KnownBytes.{Appends}
use Rattle.std.specs.List.{enumerate_from}
use Rattle.std.specs.Option.{option_map_or, option_and_then}
use Rattle.std.specs.Str.{is_utf8}
use Rattle.serde_json.specs.Data.{Data, null, number, unsigned, string, array, object, member, no_members}
use Rattle.serde_json.specs.Find.{of_integer}
use Rattle.serde_json.specs.View.{items_of}
use Rattle.serde_json.specs.Written.{compact_text}
use Rattle.lf_units.specs.declared.geometry.Rect.{Rect}
use Rattle.lf_density.specs.declared.density.Density.{Density}
use Rattle.lf_density.specs.Density.{IsDensityOf}
use Rattle.lf_orient.specs.declared.Orient.{Orient}
use Rattle.lf_orient.specs.Words.{orient_word}
use Rattle.lf_floorplan.specs.declared.frame.Frame.{Frame}
use Rattle.lf_floorplan.specs.declared.parts.Row.{Row}
use Rattle.lf_floorplan.specs.declared.parts.Team.{Team}
use Rattle.lf_floorplan.specs.declared.loaded.LoadedCell.{LoadedCell}
use Rattle.lf_floorplan.specs.declared.loaded.Loaded.{Loaded}
use Rattle.lf_floorplan.specs.declared.place.Place.{Place}
use Rattle.lf_floorplan.specs.Bounds.{IsDesignName}
use Rattle.lf_floorplan.specs.Boxes.{macro_of, size_of}
use Rattle.lf_floorplan.specs.Fences.{ground_name}
use Rattle.lf_floorplan.specs.Rows.{row_area}
use Rattle.lf_floorplan.specs.Sizes.{box_at, turned}
use Rattle.lf_def.specs.declared.components.Component.{Component}
use Rattle.lf_def.specs.Document.{Document}
use Rattle.lf_def.specs.Kinds.{is_fixed}
use Rattle.lf_rules.specs.declared.rule.Broken.{Broken}
use Rattle.lf_rules.specs.declared.report_types.Listed.{Listed}
use Rattle.lf_rules.specs.declared.report_types.Report.{Report}
use Rattle.lf_rules.specs.Legality.{number_of}
use Rattle.lf_rules.specs.Legalizer.{Legalizer}
use Rattle.lf_reports.specs.Reports.{broken_among, listed_at, name_among, report_of}

-- ---- values

-- A name as a text; null if its bytes are not UTF-8.
abbrev pub text_data : List ℕ → Data
text_data name = if is_utf8 name then string name else null

-- A name of visible characters is written unchanged.
abbrev pub NamesAreWritten : Type 0
NamesAreWritten = (name : List ℕ) → IsDesignName name → text_data name ≡ string name

-- A name, or null if there is no name.
abbrev pub text_or_null : Option (List ℕ) → Data
text_or_null name = option_map_or text_data name null

-- A whole number.
abbrev pub whole_data : ℤ → Data
whole_data z = number (of_integer z)

-- A count.
abbrev pub count_data : ℕ → Data
count_data n = number (unsigned n)

-- A rectangle: left, bottom, right and top.
abbrev pub rect_data : Rect → Data
rect_data r = array (items_of (whole_data r.x1 ∷ whole_data r.y1 ∷ whole_data r.x2 ∷ whole_data r.y2 ∷ []))

abbrev pub orient_data : Orient → Data
orient_data o = string (orient_word o)

-- ---- lines

-- The design: its name, the database units per micron, and its core site.
abbrev pub design_data : Frame → Data
design_data f =
    object (member (codes "kind") (string (codes "design"))
    (member (codes "name") (text_data f.header.design)
    (member (codes "site") (text_data f.site.name)
    (member (codes "site_height") (whole_data f.pitch.y)
    (member (codes "site_width") (whole_data f.pitch.x)
    (member (codes "units") (count_data f.header.units) no_members))))))

-- A row of the frame.
abbrev pub row_data : Frame → Row → Data
row_data f r =
    object (member (codes "box") (rect_data (row_area f.pitch r))
    (member (codes "kind") (string (codes "row"))
    (member (codes "name") (text_data r.name)
    (member (codes "orient") (orient_data r.orient)
    (member (codes "sites") (count_data r.sites) no_members)))))

-- A fence, by the name of its team.
abbrev pub fence_data : Team → Data
fence_data t =
    object (member (codes "kind") (string (codes "fence"))
    (member (codes "name") (text_data t.name)
    (member (codes "rects") (array (items_of (map rect_data t.rects))) no_members)))

-- An obstacle. If its box is that of a FIXED component, `name` is the component's.
abbrev pub obstacle_data : Option (List ℕ) → Rect → Data
obstacle_data name r =
    object (member (codes "box") (rect_data r)
    (member (codes "kind") (string (codes "obstacle"))
    (member (codes "name") (text_or_null name) no_members)))

-- A rectangle of a soft blockage.
abbrev pub soft_data : Rect → Data
soft_data r = object (member (codes "box") (rect_data r) (member (codes "kind") (string (codes "soft")) no_members))

-- The name of the team of this number: that of its fence, or of the ground team.
abbrev pub described_team_name : Frame → ℕ → List ℕ
described_team_name f team = option_map_or (λ t. t.name) (slice_get f.teams team) ground_name

-- The box of the cell at its place; null if it is unplaced.
abbrev pub box_data : Frame → Listed (List ℕ) → Data
box_data f c =
    option_map_or (λ p. rect_data (box_at (turned (size_of f (macro_of f c.mac)) p.orient) p.x p.y)) c.place null

-- The orientation of a cell at its place; null if it is unplaced.
abbrev pub orientation_data : Option Place → Data
orientation_data place = option_map_or (λ p. orient_data p.orient) place null

-- The number of the broken rule; null if no rule is broken.
abbrev pub rule_data : Option Broken → Data
rule_data broken = option_map_or (λ b. count_data (number_of b.rule)) broken null

-- The name of the other cell that breaks the rule with this one, if there is one.
abbrev pub other_of : List (Listed (List ℕ)) → Option Broken → Option (List ℕ)
other_of cells broken = option_and_then (name_among cells) (option_and_then (λ b. b.other) broken)

-- A cell among the listed cells. Its size is that of its macro when it faces north. The rule is the
-- first one that it breaks, if any.
abbrev pub cell_data : Frame → List (Listed (List ℕ)) → Listed (List ℕ) → Option Broken → Data
cell_data f cells c broken =
    object (member (codes "box") (box_data f c)
    (member (codes "height") (whole_data (size_of f (macro_of f c.mac)).y)
    (member (codes "kind") (string (codes "cell"))
    (member (codes "macro") (text_data (macro_of f c.mac).name)
    (member (codes "name") (text_data c.name)
    (member (codes "orient") (orientation_data c.place)
    (member (codes "other") (text_or_null (other_of cells broken))
    (member (codes "rule") (rule_data broken)
    (member (codes "team") (text_data (described_team_name f c.team))
    (member (codes "width") (whole_data (size_of f (macro_of f c.mac)).x) no_members))))))))))

-- How full the fullest bins are: the number of bins that count, the mean utilization of the fullest
-- 2, 5, 10 and 20 % of them in thousandths, and the side of a bin.
abbrev pub density_data : Density → Data
density_data d =
    object (member (codes "bins") (count_data d.bins)
    (member (codes "fullest_10") (count_data d.fullest_10)
    (member (codes "fullest_2") (count_data d.fullest_2)
    (member (codes "fullest_20") (count_data d.fullest_20)
    (member (codes "fullest_5") (count_data d.fullest_5)
    (member (codes "kind") (string (codes "density"))
    (member (codes "side") (count_data d.side) no_members)))))))

-- The counts of each kind, of cells that break a rule, and of unplaced cells.
abbrev pub total_data : Frame → ℕ → ℕ → ℕ → Data
total_data f cells illegal unplaced =
    object (member (codes "cells") (count_data cells)
    (member (codes "fences") (count_data (length f.teams))
    (member (codes "illegal") (count_data illegal)
    (member (codes "kind") (string (codes "total"))
    (member (codes "obstacles") (count_data (length f.obstacles))
    (member (codes "rows") (count_data (length f.rows))
    (member (codes "soft") (count_data (length f.soft))
    (member (codes "unplaced") (count_data unplaced) no_members))))))))

-- The totals of a report.
abbrev pub report_total : Frame → Report → Data
report_total f report = total_data f report.cells (length report.violations) report.unplaced

-- ---- the description

-- The places of the DEF text, in loading order.
abbrev pub places_in_text : List LoadedCell → List (Option Place)
places_in_text cells = map (λ c. c.place) cells

-- The movable cells, each at its place in the DEF text.
abbrev pub listed_movables : Loaded → List (Listed (List ℕ))
listed_movables loaded = listed_at loaded.cells (places_in_text loaded.cells)

-- The names of the FIXED components, in the order of the DEF text.
abbrev pub fixed_names : List Component → List (List ℕ)
fixed_names components = map (λ c. c.name) (filter is_fixed components)

-- The obstacles. The first ones are the boxes of the FIXED components, in their order.
abbrev pub obstacle_lines : List (List ℕ) → List Rect → List Data
obstacle_lines names obstacles = map (λ e. obstacle_data (slice_get names e.0) e.1) (enumerate_from 0 obstacles)

-- The cells of a frame, each with the first rule that it breaks at its place, as in a check.
abbrev pub cell_lines : Legalizer → Frame → List (Listed (List ℕ)) → List Data
cell_lines l f cells = map (λ e. cell_data f cells e.1 (broken_among l f 0 cells e.0 e.1)) (enumerate_from 0 cells)

-- The box of a cell at its place; none if it is unplaced.
abbrev pub placed_box : Frame → Listed (List ℕ) → List Rect
placed_box f c = option_map_or (λ p. box_at (turned (size_of f (macro_of f c.mac)) p.orient) p.x p.y ∷ []) c.place []

-- The boxes of the placed cells.
abbrev pub placed_boxes : Frame → List (Listed (List ℕ)) → List Rect
placed_boxes f cells = flat_map (placed_box f) cells

-- The design, its rows, fences, obstacles, soft blockages and movable cells, its density, and the
-- totals.
abbrev pub described_lines : Legalizer → Density → Frame → List (List ℕ) → List (Listed (List ℕ)) → List Data
described_lines l d f names cells =
    design_data f
    ∷ (map (row_data f) f.rows ++ (map fence_data f.teams ++ (obstacle_lines names f.obstacles ++ (map soft_data f.soft
    ++ (cell_lines l f cells ++ density_data d ∷ report_total f (report_of l f 0 cells) ∷ [])))))

-- A line: JSON without spaces, and a line feed.
abbrev pub line_text : Data → List ℕ
line_text d = compact_text d ++ 10 ∷ []

-- The text of all lines.
unfoldable pub lines_text : Legalizer → Density → Frame → List (List ℕ) → List (Listed (List ℕ)) → List ℕ
lines_text l d f names cells = flat_map line_text (described_lines l d f names cells)

-- The text of all lines is appended. The density is that of the placed cells.
pub record AppendsLines (l : Legalizer) (f : Frame) (names : List (List ℕ)) (cells : List (Listed (List ℕ)))
    (old new : Option (List ℕ)) : Type 0 where
  pub density : Density
  pub measured : IsDensityOf f (placed_boxes f cells) density
  pub text : Appends old new (lines_text l density f names cells)

-- The first bytes of this text are appended, or none.
pub record AppendsFirst (l : Legalizer) (f : Frame) (names : List (List ℕ)) (cells : List (Listed (List ℕ)))
    (old new : Option (List ℕ)) : Type 0 where
  pub density : Density
  pub many : ℕ
  pub measured : (many ≡ 0) ⊎ IsDensityOf f (placed_boxes f cells) density
  pub text : Appends old new (take many (lines_text l density f names cells))

-- The description of a loaded design and the document from which it was loaded is appended.
abbrev pub AppendsDescription : Legalizer → Loaded → Document → Option (List ℕ) → Option (List ℕ) → Type 0
AppendsDescription l loaded document old new =
    AppendsLines l loaded.frame (fixed_names document.components) (listed_movables loaded) old new

-- The first bytes of the description are appended, or none.
abbrev pub AppendsDescriptionFirst : Legalizer → Loaded → Document → Option (List ℕ) → Option (List ℕ) → Type 0
AppendsDescriptionFirst l loaded document old new =
    AppendsFirst l loaded.frame (fixed_names document.components) (listed_movables loaded) old new

-- The result of loading: the frame, and the movable cells with their teams.
use Rattle.std.specs.Prelude.{◌≡◌, ℕ, cond, true, ◌||◌, ◌&&◌, not, List, [], ◌++◌, map, filter, filter_map, flat_map, Option, Some, None, option_map, IfSome, IsSome, pos, ◌<ℤ◌, All}
use Rattle.std.specs.List.{AllZip, enumerate_from}
use Rattle.std.specs.Option.{option_and_then}
use Rattle.lf_units.specs.declared.geometry.Rect.{Rect}
use Rattle.lf_names.specs.Names.{position_of}
use Rattle.lf_floorplan.specs.declared.macros.Macro.{Macro}
use Rattle.lf_lef.specs.Contents.{Contents, macro_names, IsSite, IsMacro}
use Rattle.lf_def.specs.declared.regions.Region.{Region}
use Rattle.lf_def.specs.declared.components.Component.{Component}
use Rattle.lf_def.specs.declared.components.Location.{Location}
use Rattle.lf_def.specs.declared.blockages.Blockage.{Blockage}
use Rattle.lf_def.specs.Ranges.{IsRow, IsRegion, IsComponent, IsBlockage}
use Rattle.lf_floorplan.specs.declared.place.Place.{Place}
use Rattle.lf_floorplan.specs.declared.parts.Header.{Header}
use Rattle.lf_floorplan.specs.declared.parts.Team.{Team}
use Rattle.lf_floorplan.specs.declared.frame.Frame.{Frame}
use Rattle.lf_floorplan.specs.declared.loaded.LoadedCell.{LoadedCell}
use Rattle.lf_floorplan.specs.declared.loaded.Loaded.{Loaded}
use Rattle.lf_floorplan.specs.Bounds.{IsLimit}
use Rattle.lf_floorplan.specs.Rows.{IsPitch}
use Rattle.lf_floorplan.specs.Sizes.{turned, box_at, size_in_dbu}
use Rattle.lf_def.specs.Kinds.{is_fixed, is_movable}
use Rattle.lf_frame.specs.Teams.{fences, IsTeamOfComponent}
use Rattle.lf_frame.specs.Loading.{macro_named, is_core_row, frame_row}
use Rattle.lf_frame.specs.ClaimRefusals.{HasTwoFences}
use Rattle.lf_frame.specs.Findings.{LoadInputs, units_in, core_in, IsAccepted}

-- The header of the document, with its database units per micron.
abbrev pub header_in : LoadInputs → Header
header_in i = record {
  version = i.document.header.version;
  divider = i.document.header.divider;
  brackets = i.document.header.brackets;
  design = i.document.header.design;
  units = units_in i;
}

-- A fence in the form of the frame.
abbrev pub frame_team : Region → Team
frame_team r = record { name = r.name; rects = r.rects }

-- The location of a component, or `None` if it is unplaced.
abbrev pub location : Component → Option Location
location c = option_and_then (λ p. p.place) c.placement

-- Holds if the macro's size is whole in database units and both lengths are above 0.
pub record IsSizedIn (units : ℕ) (m : Macro) : Type 0 where
  pub wide : pos 0 <ℤ m.size.x
  pub high : pos 0 <ℤ m.size.y
  pub whole : IsPitch units m.size (size_in_dbu units m.size)

-- Holds if the macro of a FIXED component has such a size.
abbrev pub FixedIsSized : Contents → ℕ → Component → Type 0
FixedIsSized library units c = is_fixed c ≡ true → IfSome (macro_named library c.mac) (IsSizedIn units)

-- The box of a FIXED component: that of its macro at its place.
abbrev pub fixed_box : Contents → ℕ → Component → Option Rect
fixed_box library units c =
    cond (is_fixed c) (option_and_then (λ p. option_map (λ m.
    box_at (turned (size_in_dbu units m.size) p.orient) p.x p.y) (macro_named library c.mac)) (location c)) None

-- The rectangles of a placement blockage that is neither SOFT nor PARTIAL.
abbrev pub blocked : Blockage → List Rect
blocked b = cond (b.soft || b.partial) [] b.rects

-- The rectangles of a placement blockage that is SOFT and not PARTIAL.
abbrev pub softly_blocked : Blockage → List Rect
softly_blocked b = cond (b.soft && not b.partial) b.rects []

-- The obstacles: the boxes of FIXED components, and then the rectangles of blockages.
abbrev pub obstacles_in : LoadInputs → List Rect
obstacles_in i =
    filter_map (fixed_box i.library (units_in i)) i.document.components ++ flat_map blocked i.document.blockages

-- The rectangles of the soft blockages.
abbrev pub soft_in : LoadInputs → List Rect
soft_in i = flat_map softly_blocked i.document.blockages

-- The ranges that texts guarantee for names, lengths and coordinates.
pub record AreInRange (i : LoadInputs) : Type 0 where
  pub units : IsLimit (units_in i) 20000
  pub sites : All IsSite i.library.sites
  pub macros : All IsMacro i.library.macros
  pub rows : All IsRow i.document.rows
  pub regions : All IsRegion i.document.regions
  pub components : All IsComponent i.document.components
  pub blockages : All IsBlockage i.document.blockages

-- Holds if this is the frame of these inputs.
pub record IsFrameOf (i : LoadInputs) (f : Frame) : Type 0 where
  pub site : core_in i ≡ Some f.site
  pub rows : f.rows ≡ map frame_row (filter (is_core_row f.site) i.document.rows)
  pub teams : f.teams ≡ map frame_team (fences i.document.regions)
  pub obstacles : f.obstacles ≡ obstacles_in i
  pub soft : f.soft ≡ soft_in i
  pub macros : f.macros ≡ i.library.macros
  pub header : f.header ≡ header_in i
  pub limits : f.limits ≡ i.limits

-- The movable ones of these components, with their positions. The first component has this
-- position.
abbrev pub movables_from : ℕ → List Component → List (ℕ × Component)
movables_from first components = filter (λ e. is_movable e.1) (enumerate_from first components)

-- The movable components, each with its position among all components.
abbrev pub movables : List Component → List (ℕ × Component)
movables components = movables_from 0 components

-- Holds if a LEF text has the macro of the component, and no two fences claim the component.
pub record CanBeCell (i : LoadInputs) (c : Component) : Type 0 where
  pub mac : IsSome (position_of (macro_names i.library.macros) c.mac)
  pub once : HasTwoFences i.document.regions i.document.groups c.name → ⊥

-- A place in the form of the document.
abbrev pub as_location : Place → Location
as_location p = record { x = p.x; y = p.y; orient = p.orient }

-- Holds if this is the cell of a movable component.
pub record IsCellOf (i : LoadInputs) (entry : ℕ × Component) (c : LoadedCell) : Type 0 where
  pub name : c.name ≡ entry.1.name
  pub team : IsTeamOfComponent i.document.regions i.document.groups entry.1.name c.team
  pub mac : position_of (macro_names i.library.macros) entry.1.mac ≡ Some c.mac
  pub place : option_map as_location c.place ≡ location entry.1
  pub component : c.component ≡ entry.0

-- Holds if this is the design of these inputs: no refusal finds anything, and its frame and its
-- cells, in the order of the text, are those of the inputs.
pub record IsLoadedFrom (i : LoadInputs) (l : Loaded) : Type 0 where
  pub accepted : IsAccepted i
  pub frame : IsFrameOf i l.frame
  pub cells : AllZip (IsCellOf i) (movables i.document.components) l.cells

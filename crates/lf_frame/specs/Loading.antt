-- What loading takes from a LEF library and a DEF text: sites and macros by their names, the core
-- site, and core rows (LEF SITE, MACRO; DEF ROW).
use Rattle.std.specs.Prelude.{ℕ, pos, int_lt, Bool, false, ◌&&◌, List, Option, Some, None, slice_get}
use Rattle.std.specs.Option.{option_and_then}
use Rattle.std.specs.List.{find}
use Rattle.std.specs.Str.{bytes_eq}
use Rattle.lf_units.specs.declared.geometry.Point.{Point}
use Rattle.lf_units.specs.Length.{IsLength, in_dbu}
use Rattle.lf_names.specs.Names.{position_of}
use Rattle.lf_floorplan.specs.declared.sites.Site.{Site}
use Rattle.lf_floorplan.specs.declared.macros.Macro.{Macro}
use Rattle.lf_lef.specs.Contents.{Contents, site_names, macro_names}
use Rattle.lf_def.specs.declared.rows.RowStatement.{RowStatement}
use Rattle.lf_floorplan.specs.declared.parts.Row.{Row as FrameRow}

-- The entry at a position of a list, if there is one.
abbrev pub at_place : {A : Type 0} → List A → Option ℕ → Option A
at_place things None = None
at_place things (Some place) = slice_get things place

-- The site with this name.
abbrev pub site_named : Contents → List ℕ → Option Site
site_named library name = at_place library.sites (position_of (site_names library.sites) name)

-- The macro with this name.
abbrev pub macro_named : Contents → List ℕ → Option Macro
macro_named library name = at_place library.macros (position_of (macro_names library.macros) name)

-- True if both lengths are above 0.
abbrev pub has_size : Point → Bool
has_size size = int_lt (pos 0) size.x && int_lt (pos 0) size.y

-- Holds if both lengths of a size are whole in database units.
pub record IsWholeSize (units : ℕ) (size : Point) : Type 0 where
  pub across : IsLength units size.x (in_dbu units size.x)
  pub up : IsLength units size.y (in_dbu units size.y)

-- True if the site has CLASS CORE and a size.
abbrev pub is_core : Option Site → Bool
is_core None = false
is_core (Some s) = s.core && has_size s.size

-- The first row whose site has CLASS CORE and a size.
abbrev pub core_row : Contents → List RowStatement → Option RowStatement
core_row library rows = find (λ r. is_core (site_named library r.site)) rows

-- The core site: the site of that row.
abbrev pub core_site : Contents → List RowStatement → Option Site
core_site library rows = option_and_then (λ r. site_named library r.site) (core_row library rows)

-- True for a core row: its site is the core site.
abbrev pub is_core_row : Site → RowStatement → Bool
is_core_row core r = bytes_eq r.site core.name

-- A core row in the form of the frame.
abbrev pub frame_row : RowStatement → FrameRow
frame_row r = record { name = r.name; x = r.x; y = r.y; orient = r.orient; sites = r.sites_x }

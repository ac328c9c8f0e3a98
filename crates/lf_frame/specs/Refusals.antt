-- The entries of a library and a document that break the rules of loading. Rows, regions and
-- groups, and components are entries of DEF ROW, REGIONS, GROUPS and COMPONENTS. A rule sees an
-- entry and those in front of it.
use Rattle.std.specs.Prelude.{◌≡◌, ◌≢◌, ℕ, ◌<◌, ◌≤◌, pos, ◌<ℤ◌, ℤ, true, false, List, length, filter, None, IsSome, IsSomeAnd, All, Any}
use Rattle.lf_units.specs.declared.geometry.Point.{Point}
use Rattle.lf_units.specs.declared.geometry.Rect.{Rect}
use Rattle.lf_units.specs.Area.{SharesPoint, CoveredBy}
use Rattle.lf_orient.specs.Orientation.{rail_below}
use Rattle.lf_floorplan.specs.declared.sites.Site.{Site}
use Rattle.lf_lef.specs.Contents.{Contents}
use Rattle.lf_def.specs.declared.rows.RowStatement.{RowStatement}
use Rattle.lf_def.specs.declared.regions.Region.{Region}
use Rattle.lf_def.specs.declared.groups.Group.{Group}
use Rattle.lf_def.specs.declared.components.Component.{Component}
use Rattle.lf_frame.specs.declared.component_checks.MacroFaults.{MacroFaults}
use Rattle.lf_frame.specs.Entries.{FirstIs}
use Rattle.lf_floorplan.specs.Rows.{row_area}
use Rattle.lf_floorplan.specs.Fences.{ground_name}
use Rattle.lf_def.specs.Kinds.{is_fence, is_cover}
use Rattle.lf_frame.specs.Loading.{site_named, macro_named, has_size, IsWholeSize, is_core_row, frame_row}

-- NoSite: no LEF text has the row's site.
abbrev pub HasNoSite : Contents → List RowStatement → RowStatement → Type 0
HasNoSite library earlier r = site_named library r.site ≡ None

-- VerticalRow: a core row has a numY other than 1.
abbrev pub IsVertical : Site → List RowStatement → RowStatement → Type 0
IsVertical core earlier r = (is_core_row core r ≡ true) × (r.sites_y ≢ 1)

-- BadStep: a core row of several sites has a step that is not the site's width.
abbrev pub HasBadStep : Site → Point → List RowStatement → RowStatement → Type 0
HasBadStep core pitch earlier r = (is_core_row core r ≡ true) × (1 < r.sites_x)
    × IsSomeAnd r.step (λ step. step.x ≢ pitch.x)

-- RowOrient: a core row is not N, S, FN or FS.
abbrev pub IsSideways : Site → List RowStatement → RowStatement → Type 0
IsSideways core earlier r = (is_core_row core r ≡ true) × (IsSome (rail_below r.orient) → ⊥)

-- RowsOverlap: a core row shares a point with an earlier one.
abbrev pub OverlapsEarlierRow : Site → Point → List RowStatement → RowStatement → Type 0
OverlapsEarlierRow core pitch earlier r =
    (is_core_row core r ≡ true) × Any (λ e. (is_core_row core e ≡ true)
    × SharesPoint (row_area pitch (frame_row e)) (row_area pitch (frame_row r))) earlier

-- NoMacro: no LEF text has the macro of a component other than COVER.
abbrev pub HasNoMacro : Contents → List Component → Component → Type 0
HasNoMacro library earlier c = (is_cover c ≡ false) × (macro_named library c.mac ≡ None)

-- NoSize: the macro of a component other than COVER has no SIZE with both lengths above 0.
abbrev pub HasNoSize : Contents → List Component → Component → Type 0
HasNoSize library earlier c = (is_cover c ≡ false)
    × IsSomeAnd (macro_named library c.mac) (λ m. has_size m.size ≡ false)

-- NotWhole: the size of the macro of a component other than COVER is not whole in database units.
abbrev pub HasPartUnits : Contents → ℕ → List Component → Component → Type 0
HasPartUnits library units earlier c = (is_cover c ≡ false)
    × IsSomeAnd (macro_named library c.mac) (λ m. IsWholeSize units m.size → ⊥)

-- The first component of each of these three kinds.
pub record AreMacroFaults (library : Contents) (units : ℕ) (components : List Component)
    (faults : MacroFaults) : Type 0 where
  pub unknown : FirstIs (HasNoMacro library) components faults.unknown
  pub sizeless : FirstIs (HasNoSize library) components faults.sizeless
  pub part_units : FirstIs (HasPartUnits library units) components faults.part_units

-- SecondRegion: a fence has the name of an earlier fence.
abbrev pub HasEarlierFenceName : List Region → Region → Type 0
HasEarlierFenceName earlier r = (is_fence r ≡ true) × Any (λ e. (is_fence e ≡ true) × (e.name ≡ r.name)) earlier

-- NoRegion: no REGIONS entry has the name of a group's region.
abbrev pub HasNoRegion : List Region → List Group → Group → Type 0
HasNoRegion regions earlier g = IsSomeAnd g.region (λ name. All (λ r. r.name ≢ name) regions)

-- TeamName: a fence is named `-`.
abbrev pub HasGroundName : List Region → Region → Type 0
HasGroundName earlier r = (is_fence r ≡ true) × (r.name ≡ ground_name)

-- Holds if a point lies in rectangles of both lists.
pub record SharePoint (first second : List Rect) : Type 0 where
  pub x : ℤ
  pub y : ℤ
  pub in_first : CoveredBy first x y
  pub in_second : CoveredBy second x y

-- FencesOverlap: a fence shares a point with an earlier fence.
abbrev pub OverlapsEarlierFence : List Region → Region → Type 0
OverlapsEarlierFence earlier r = (is_fence r ≡ true)
    × Any (λ e. (is_fence e ≡ true) × SharePoint e.rects r.rects) earlier

-- TooMany, for core rows.
abbrev pub IsRowTooMany : Site → ℕ → List RowStatement → RowStatement → Type 0
IsRowTooMany core limit earlier r = (is_core_row core r ≡ true) × (limit ≤ length (filter (is_core_row core) earlier))

-- TooMany, for fences.
abbrev pub IsFenceTooMany : ℕ → List Region → Region → Type 0
IsFenceTooMany limit earlier r = (is_fence r ≡ true) × (limit ≤ length (filter is_fence earlier))

-- TooMany, for components.
abbrev pub IsComponentTooMany : ℕ → List Component → Component → Type 0
IsComponentTooMany limit earlier c = limit ≤ length earlier

-- TooMany, for a core row that ends past the largest coordinate.
abbrev pub EndsTooFar : Site → Point → List RowStatement → RowStatement → Type 0
EndsTooFar core pitch earlier r = (is_core_row core r ≡ true) × (pos 2147483647 <ℤ (row_area pitch (frame_row r)).x2)

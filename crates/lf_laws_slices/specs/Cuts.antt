-- The inputs of a slice have these parts of the whole design's, so that the two load as designs
-- that are alike (LEF MACRO; DEF ROW, REGIONS, BLOCKAGES, GROUPS and COMPONENTS).
use Rattle.std.specs.Prelude.{◌≡◌, ℕ, Bool, not, ◌||◌, List, All, Decides, Some, filter, map}
use Rattle.std.specs.List.{AllZip}
use Rattle.lf_def.specs.declared.components.Component.{Component}
use Rattle.lf_def.specs.Kinds.{is_movable}
use Rattle.lf_frame.specs.Teams.{fences, IsTeamOfComponent}
use Rattle.lf_floorplan.specs.declared.loaded.Loaded.{Loaded}
use Rattle.lf_frame.specs.Loading.{macro_named}
use Rattle.lf_frame.specs.Findings.{LoadInputs, core_in}
use Rattle.lf_frame.specs.Loads.{header_in, frame_team, location, obstacles_in, soft_in, IsLoadedFrom}
use Rattle.lf_floor_model.specs.Teams.{team_number}
use Rattle.lf_laws_slices.specs.Alike.{AreSameRects, AreDesignsAlike}

-- the component is in the team of that number
abbrev pub IsOwn : LoadInputs → ℕ → Component → Type 0
IsOwn i number c = IsTeamOfComponent i.document.regions i.document.groups c.name number

-- two components have the same name and location, and name the same macro
pub record AreSameComponents (i j : LoadInputs) (c d : Component) : Type 0 where
  pub name : c.name ≡ d.name
  pub location_is : location c ≡ location d
  pub same_macro : macro_named i.library c.mac ≡ macro_named j.library d.mac

-- the slice has the whole design's components of the team, in their order, and no others
pub record KeepsOwn (i j : LoadInputs) (number : ℕ) (whole slice : List Component) : Type 0 where
  pub own : Component → Bool
  pub decides : All (λ c. Decides (own c) (IsOwn i number c)) whole
  pub kept : AllZip (AreSameComponents i j) (filter own whole) slice
  pub no_others : All (IsOwn j number) slice

-- the inputs of a slice for the team of that number: header, core site, rows, fences and limits are
-- the whole design's, and so are obstacles and soft blockages, in any order; of the movable
-- components the slice has those of the team
pub record IsCutFrom (number : ℕ) (whole slice : LoadInputs) : Type 0 where
  pub header : header_in whole ≡ header_in slice
  pub core : core_in whole ≡ core_in slice
  pub rows : whole.document.rows ≡ slice.document.rows
  pub fences_are : map frame_team (fences whole.document.regions) ≡ map frame_team (fences slice.document.regions)
  pub limits : whole.limits ≡ slice.limits
  pub obstacles : AreSameRects (obstacles_in whole) (obstacles_in slice)
  pub soft : AreSameRects (soft_in whole) (soft_in slice)
  pub cells : KeepsOwn whole slice number (filter is_movable whole.document.components)
      (filter is_movable slice.document.components)

-- the whole design and its slice load as designs that are alike for the team
abbrev pub SlicesLoadAlike : Type 0
SlicesLoadAlike =
    (team : List ℕ) (number : ℕ) (whole slice : LoadInputs) (a b : Loaded)
    → IsCutFrom number whole slice → IsLoadedFrom whole a → IsLoadedFrom slice b
    → team_number a.frame team ≡ Some number
    → AreDesignsAlike team a b

-- ---- slices exist

-- the inputs without the movable components that do not pass the test
abbrev pub without_others : (Component → Bool) → LoadInputs → LoadInputs
without_others own i = record i {
  document = record i.document { components = filter (λ c. not (is_movable c) || own c) i.document.components };
}

-- the inputs of each loaded design, without the components of other teams, are those of a slice
abbrev pub CutsExist : Type 0
CutsExist =
    (number : ℕ) (whole : LoadInputs) (a : Loaded) → IsLoadedFrom whole a
    → (own : Component → Bool) × IsCutFrom number whole (without_others own whole)

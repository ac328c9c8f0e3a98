-- The document of the DEF text of a team (LEF/DEF 5.8, DEF REGIONS, COMPONENTS and GROUPS).
use Rattle.std.specs.Prelude.{ℕ, List, [], ◌∷◌, map, Option, Some, None, slice_get}
use Rattle.lf_def.specs.declared.regions.Region.{Region}
use Rattle.lf_def.specs.declared.regions.RegionKind.TheVariants.{Fence}
use Rattle.lf_def.specs.declared.groups.Group.{Group}
use Rattle.lf_def.specs.declared.components.Component.{Component}
use Rattle.lf_def.specs.declared.components.PlacementClause.{PlacementClause}
use Rattle.lf_def.specs.declared.components.PlacementKind.TheVariants.{Placed, Unplaced}
use Rattle.lf_def.specs.Document.{Document}
use Rattle.lf_def.specs.PrintedTexts.{ReadsApartFromOffsets}
use Rattle.lf_floorplan.specs.declared.frame.Frame.{Frame}
use Rattle.lf_floorplan.specs.declared.parts.Team.{Team}
use Rattle.lf_floorplan.specs.declared.place.Place.{Place}
use Rattle.lf_floorplan.specs.Boxes.{macro_of}
use Rattle.lf_cells.specs.declared.cell.Cell.{Cell}
use Rattle.lf_frame.specs.Loads.{as_location}
use Rattle.lf_team_def.specs.TeamText.{team_text}
use Rattle.lf_laws_roundtrip.specs.Spelled.{IsSpelledTeam}

-- A placement clause for a place, or for no place. Its position in a text is left out.
abbrev pub clause_of_place : Option Place → PlacementClause
clause_of_place None = record { kind = Unplaced; place = None; start = 0; stop = 0 }
clause_of_place (Some p) = record { kind = Placed; place = Some (as_location p); start = 0; stop = 0 }

-- The component of a cell at its working place.
abbrev pub component_of : Frame → Cell → Component
component_of f c =
    record { name = c.name; mac = (macro_of f c.mac).name; placement = Some (clause_of_place c.working); semicolon = 0 }

-- The fence as a region.
abbrev pub region_of : Team → Region
region_of t = record { name = t.name; rects = t.rects; kind = Some Fence }

-- The team's fence. The ground team has no fence.
abbrev pub regions_of : Option Team → List Region
regions_of None = []
regions_of (Some t) = region_of t ∷ []

-- The group that binds the cells to the team's fence, by their names.
abbrev pub group_of : Team → List Cell → Group
group_of t cells = record { name = t.name; patterns = map (λ c. c.name) cells; region = Some t.name }

-- The groups: that group, or no group for the ground team and a team without cells.
abbrev pub groups_of : Option Team → List Cell → List Group
groups_of None cells = []
groups_of (Some t) [] = []
groups_of (Some t) (c ∷ cs) = group_of t (c ∷ cs) ∷ []

-- The header, the team's fence, its cells, and the group that binds them to the fence.
abbrev pub team_document : Frame → ℕ → List Cell → Document
team_document f number cells = record {
  header = record {
    version = f.header.version;
    divider = f.header.divider;
    brackets = f.header.brackets;
    design = f.header.design;
    units = Some f.header.units;
  };
  rows = [];
  regions = regions_of (slice_get f.teams number);
  groups = groups_of (slice_get f.teams number) cells;
  components = map (component_of f) cells;
  blockages = [];
}

-- The text of a team reads as this document, except for the positions of its components.
abbrev pub TeamTextReadsBack : Type 0
TeamTextReadsBack = (f : Frame) (number : ℕ) (cells : List Cell) → IsSpelledTeam f number cells
    → ReadsApartFromOffsets (team_text f number cells) (team_document f number cells)

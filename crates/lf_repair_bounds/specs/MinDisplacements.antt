-- The least displacements of cells: the distances to the nearest places where each is allowed if no
-- other cell is on the floor.
use Rattle.std.specs.Prelude.{◌≡◌, ◌⊎◌, ℕ, ◌<◌, ◌≤◌, List, [], All, Any, Option, Some, MatchOption, slice_get}
use Rattle.lf_units.specs.declared.geometry.Point.{Point}
use Rattle.lf_floorplan.specs.declared.frame.Frame.{Frame}
use Rattle.lf_floorplan.specs.declared.loaded.LoadedCell.{LoadedCell}
use Rattle.lf_floorplan.specs.declared.place.Place.{Place}
use Rattle.lf_floorplan.specs.Boxes.{macro_of}
use Rattle.lf_units.specs.declared.placed.Placed.{Placed}
use Rattle.lf_rules.specs.Choice.{PlacementQuery, IsAllowedPlace, SpotPlace, distance}

-- the cell, regarded as unplaced, with these other cells of its team, which has this padding
abbrev pub query_beside : Frame → LoadedCell → ℕ → List Placed → PlacementQuery
query_beside f c padding others = record {
  frame = f;
  team = c.team;
  padding = padding;
  mac = macro_of f c.mac;
  others = others;
}

-- the cell alone: no other cell is on the floor
abbrev pub query_alone : Frame → LoadedCell → PlacementQuery
query_alone f c = query_beside f c 0 []

-- the corner of a place
abbrev pub corner : Place → Point
corner p = record { x = p.x; y = p.y }

-- the distance from this point to the nearest allowed place of the cell
pub record IsNearestDisplacement (c : PlacementQuery) (from : Point) (way : ℕ) : Type 0 where
  pub place : SpotPlace
  pub may_go : IsAllowedPlace c place
  pub is : distance from place ≡ way
  pub nearest : (p : SpotPlace) → IsAllowedPlace c p → way ≤ distance from p

-- the cell has a place, and its least displacement is this one: the distance to the nearest place
-- that is allowed for it alone
abbrev pub IsMinDisplacement : Frame → LoadedCell → ℕ → Type 0
IsMinDisplacement f c way =
    MatchOption c.place ⊥ (λ loaded_place. IsNearestDisplacement (query_alone f c) (corner loaded_place) way)

-- the cell's least displacement, or None if it is unplaced or no place is allowed for it
abbrev pub IsMinDisplacementOrNone : Frame → LoadedCell → Option ℕ → Type 0
IsMinDisplacementOrNone f c found =
    MatchOption found ((way : ℕ) → IsMinDisplacement f c way → ⊥) (λ way. IsMinDisplacement f c way)

-- the largest of the least displacements of the team's cells in the list; 0 if no cell has one
pub record IsMaxMinDisplacement (f : Frame) (cells : List LoadedCell) (team largest : ℕ) : Type 0 where
  pub no_larger : All (λ c. c.team ≡ team → (way : ℕ) → IsMinDisplacement f c way → way ≤ largest) cells
  pub is_one : (largest ≡ 0) ⊎ Any (λ c. (c.team ≡ team) × IsMinDisplacement f c largest) cells

-- the same for each team
abbrev pub AreMaxMinDisplacements : Frame → List LoadedCell → List ℕ → Type 0
AreMaxMinDisplacements f cells list = (team largest : ℕ) → slice_get list team ≡ Some largest
    → IsMaxMinDisplacement f cells team largest

-- wherever the cell is allowed to move from its place, with any other cells, it moves at least as
-- far
abbrev pub IsDisplacedAsFar : Frame → LoadedCell → ℕ → Type 0
IsDisplacedAsFar f c way =
    MatchOption c.place ⊥ (λ loaded_place. (padding : ℕ) (others : List Placed) (p : SpotPlace)
    → IsAllowedPlace (query_beside f c padding others) p
    → way ≤ distance (corner loaded_place) p)

-- one of the team's cells moves at least as far as the largest of the least displacements, wherever
-- all of them move
abbrev pub NoRepairDoesBetter : Type 0
NoRepairDoesBetter =
    (f : Frame) (cells : List LoadedCell) (team largest : ℕ) → IsMaxMinDisplacement f cells team largest → 0 < largest
    → Any (λ c. (c.team ≡ team) × IsDisplacedAsFar f c largest) cells

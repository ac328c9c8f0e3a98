-- The cells of a team, and a cell next to the others.
use Rattle.std.specs.Prelude.{◌≡◌, ◌==◌, ℕ, ◌+◌, List, [], ◌∷◌, filter, not, Option, Some, None, slice_get, MatchOption}
use Rattle.lf_units.specs.declared.geometry.Rect.{Rect}
use Rattle.lf_floorplan.specs.declared.frame.Frame.{Frame}
use Rattle.lf_floorplan.specs.Boxes.{size_of, macro_of}
use Rattle.lf_floorplan.specs.Sizes.{turned, box_at}
use Rattle.lf_units.specs.declared.placed.Placed.{Placed}
use Rattle.lf_rules.specs.Choice.{SpotPlace, PlacementQuery, IsLegalAt}

-- A cell of a team: the number of its macro, and its place if it has one.
pub record Member : Type 0 where
  pub mac : ℕ
  pub place : Option SpotPlace

-- The box of the macro with this number at a place.
abbrev pub box_in : Frame → ℕ → SpotPlace → Rect
box_in f mac p = box_at (turned (size_of f (macro_of f mac)) p.orient) p.x p.y

-- A cell's box with its number, in front of the others. An unplaced cell has no box.
abbrev pub with_box : Frame → ℕ → ℕ → Option SpotPlace → List Placed → List Placed
with_box f own mac None rest = rest
with_box f own mac (Some p) rest = record { own = own; rect = box_in f mac p } ∷ rest

-- The boxes of the placed cells, numbered from `own` on.
abbrev pub boxes_from : Frame → ℕ → List Member → List Placed
boxes_from f own [] = []
boxes_from f own (m ∷ cells) = with_box f own m.mac m.place (boxes_from f (own + 1) cells)

-- The boxes of the team's placed cells, in loading order, except that of the cell with this number.
abbrev pub boxes_beside : Frame → List Member → ℕ → List Placed
boxes_beside f cells own = filter (λ box. not (box.own == own)) (boxes_from f 0 cells)

-- The cell of this number and macro, without its place, among the cells of a team with this
-- padding.
abbrev pub query_from : Frame → ℕ → ℕ → List Member → ℕ → ℕ → PlacementQuery
query_from f team padding cells own mac =
    record { frame = f; team = team; padding = padding; mac = macro_of f mac; others = boxes_beside f cells own }

-- The cell of this number is placed, and team-legal with this padding among the team's other cells.
abbrev pub IsLegalCell : Frame → ℕ → ℕ → List Member → ℕ → Type 0
IsLegalCell f team padding cells own =
    (m : Member) → slice_get cells own ≡ Some m
    → MatchOption m.place ⊥ (λ p. IsLegalAt (query_from f team padding cells own m.mac) p)

-- When a whole design is legal: the movable cells of all teams together.
use Rattle.std.specs.Prelude.{◌≡◌, ℕ, ◌+◌, ◌≤◌, List, [], ◌∷◌, Option, None, Some, All, AllPairs, IsSome, slice_get}
use Rattle.std.specs.Option.{option_map, ForSome}
use Rattle.lf_units.specs.Area.{SharesPoint}
use Rattle.lf_floorplan.specs.declared.frame.Frame.{Frame}
use Rattle.lf_floorplan.specs.declared.loaded.LoadedCell.{LoadedCell}
use Rattle.lf_floorplan.specs.declared.place.Place.{Place}
use Rattle.lf_floorplan.specs.Boxes.{macro_of}
use Rattle.lf_rules.specs.declared.rule.Rule.{Rule}
use Rattle.lf_rules.specs.Legality.{Candidate, Holds, number_of}
use Rattle.lf_rules.specs.Choice.{SpotPlace, spot_of}
use Rattle.lf_rules.specs.Team.{Member, box_in, IsLegalCell}

-- A movable cell of a design: its team, the number of its macro, and its place if it has one.
pub record DesignCell : Type 0 where
  pub team : ℕ
  pub mac : ℕ
  pub place : Option SpotPlace

-- The cell at the place, with no other cell.
abbrev pub candidate_alone : Frame → DesignCell → SpotPlace → Candidate
candidate_alone f c p =
    record {
      frame = f;
      team = c.team;
      padding = 0;
      mac = macro_of f c.mac;
      x = p.x;
      y = p.y;
      orient = p.orient;
      others = [];
    }

-- Rules 1 to 7 hold for the cell at the place.
abbrev pub KeepsRules : Frame → DesignCell → SpotPlace → Type 0
KeepsRules f c p = (r : Rule) → number_of r ≤ 7 → Holds (candidate_alone f c p) r

-- If both cells are placed, their boxes share no point.
abbrev pub DoNotOverlap : Frame → DesignCell → DesignCell → Type 0
DoNotOverlap f a b = ForSome a.place (λ p. ForSome b.place (λ q. SharesPoint (box_in f a.mac p) (box_in f b.mac q) → ⊥))

-- Every movable cell is placed, rules 1 to 7 hold for each, and the boxes of no two share a point.
pub record IsFullyLegal (f : Frame) (cells : List DesignCell) : Type 0 where
  pub placed : All (λ c. IsSome c.place) cells
  pub kept : All (λ c. ForSome c.place (λ p. KeepsRules f c p)) cells
  pub apart : AllPairs (λ a b. DoNotOverlap f a b) cells

-- The cells of a loaded design at these places, one for each cell in its order.
abbrev pub design_cells_at : List LoadedCell → List (Option Place) → List DesignCell
design_cells_at [] places = []
design_cells_at (c ∷ cells) [] = record { team = c.team; mac = c.mac; place = None } ∷ design_cells_at cells []
design_cells_at (c ∷ cells) (p ∷ places) = record {
  team = c.team;
  mac = c.mac;
  place = option_map spot_of p;
} ∷ design_cells_at cells places

-- A cell of the team.
abbrev pub design_cell : ℕ → Member → DesignCell
design_cell team m = record { team = team; mac = m.mac; place = m.place }

-- The cells of a team, in front of the others.
abbrev pub with_team : ℕ → List Member → List DesignCell → List DesignCell
with_team team [] rest = rest
with_team team (m ∷ cells) rest = design_cell team m ∷ with_team team cells rest

-- The cells of all teams, numbered from `team` on.
abbrev pub design_cells_from : ℕ → List (List Member) → List DesignCell
design_cells_from team [] = []
design_cells_from team (cells ∷ teams) = with_team team cells (design_cells_from (team + 1) teams)

-- A design in which each team's cells are placed and team-legal, with no padding, is fully legal.
-- What each team tests on its own holds for all together.
abbrev pub TeamsMakeLegal : Type 0
TeamsMakeLegal =
    (f : Frame) (teams : List (List Member)) →
    ((team : ℕ) (cells : List Member) → slice_get teams team ≡ Some cells
    → (own : ℕ) → IsLegalCell f team 0 cells own) →
    IsFullyLegal f (design_cells_from 0 teams)

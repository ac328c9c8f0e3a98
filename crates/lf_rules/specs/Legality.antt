-- When a place is legal for a cell: the eight rules, and the first of them that is broken.
use Rattle.std.specs.Prelude.{◌≡◌, ◌≢◌, ℕ, ℤ, ◌%◌, ◌<◌, ◌≤◌, List, All, IsTrue, Option, None, Some, slice_get, take, MatchOption}
use Rattle.lf_units.specs.declared.geometry.Rect.{Rect}
use Rattle.lf_units.specs.Area.{SharesPoint}
use Rattle.lf_orient.specs.declared.Orient.{Orient}
use Rattle.lf_orient.specs.Orientation.{is_allowed, EqualUnder, rail_below}
use Rattle.lf_floorplan.specs.declared.frame.Frame.{Frame}
use Rattle.lf_floorplan.specs.declared.macros.Macro.{Macro}
use Rattle.lf_floorplan.specs.declared.parts.Row.{Row}
use Rattle.lf_floorplan.specs.declared.place.Place.{Place}
use Rattle.lf_floorplan.specs.Boxes.{size_of}
use Rattle.lf_floorplan.specs.Sizes.{turned, box_at}
use Rattle.lf_floorplan.specs.Ground.{StaysInGround, IsClear}
use Rattle.lf_floorplan.specs.RowSupport.{IsSitesHigh, IsBottomRow, HasHeight, HasBottomRow, IsSupported}
use Rattle.lf_rules.specs.Padding.{length_of, wider}
use Rattle.lf_rules.specs.declared.rule.Rule.{Rule}
use Rattle.lf_rules.specs.declared.rule.Rule.TheVariants.{Height, Row as RowRule, Stand, Orient as OrientRule, Rail as RailRule, Fence, Obstacle, Overlap}
use Rattle.lf_units.specs.declared.placed.Placed.{Placed}
use Rattle.lf_rules.specs.declared.rule.Broken.{Broken}

-- A cell of a team, given by its macro, at a candidate place. `others` are the team's other placed
-- cells; the team's padding, in core sites, is to separate it from them.
pub record Candidate : Type 0 where
  pub frame : Frame
  pub team : ℕ
  pub padding : ℕ
  pub mac : Macro
  pub x : ℤ
  pub y : ℤ
  pub orient : Orient
  pub others : List Placed

-- The candidate at a place of the program.
abbrev pub candidate_of : Frame → ℕ → ℕ → Macro → Place → List Placed → Candidate
candidate_of f team padding m p others =
    record { frame = f; team = team; padding = padding; mac = m; x = p.x; y = p.y; orient = p.orient; others = others }

-- The box of the cell there.
abbrev pub box_of : Candidate → Rect
box_of t = box_at (turned (size_of t.frame t.mac) t.orient) t.x t.y

-- The box of the cell, widened on its left and right by the padding.
abbrev pub padded_box : Candidate → Rect
padded_box t = wider (length_of t.frame t.padding) (box_of t)

-- The orientation fits the macro and, if the height is odd, also the bottom row (LEF SYMMETRY of
-- MACRO and SITE).
abbrev pub IsOriented : Candidate → Type 0
IsOriented t =
    IsTrue (is_allowed t.mac.symmetry t.orient)
    × ((k : ℕ) (r : Row) → IsSitesHigh t.frame (box_of t) k → IsBottomRow t.frame (box_of t) r →
    k % 2 ≡ 1 → EqualUnder t.frame.site.symmetry t.orient r.orient)

-- If the height is even, the macro's bottom rail is the bottom row's.
abbrev pub IsOnRail : Candidate → Type 0
IsOnRail t =
    (k : ℕ) (r : Row) → IsSitesHigh t.frame (box_of t) k → IsBottomRow t.frame (box_of t) r →
    k % 2 ≡ 0 → rail_below r.orient ≡ Some t.mac.rail

-- The box, widened by the padding, shares no point with the box of another placed cell of the team.
abbrev pub IsApart : Candidate → Type 0
IsApart t = All (λ other. SharesPoint (padded_box t) other.rect → ⊥) t.others

-- The rule holds. A rule on the height or the bottom row quantifies over every one, and a box has
-- at most one of each. So if rule 1 or 2 fails, rules 3 and 5 hold trivially, and rule 4 only
-- requires an orientation of the macro. The first broken rule is the lesser one in any case.
abbrev pub Holds : Candidate → Rule → Type 0
Holds t Height = HasHeight t.frame (box_of t)
Holds t RowRule = HasBottomRow t.frame (box_of t)
Holds t Stand = IsSupported t.frame (box_of t)
Holds t OrientRule = IsOriented t
Holds t RailRule = IsOnRail t
Holds t Fence = StaysInGround t.frame t.team (box_of t)
Holds t Obstacle = IsClear t.frame (box_of t)
Holds t Overlap = IsApart t

-- A place is team-legal: every rule holds.
abbrev pub IsTeamLegal : Candidate → Type 0
IsTeamLegal t = (r : Rule) → Holds t r

-- The rules are tested in the order of their numbers.
abbrev pub number_of : Rule → ℕ
number_of Height = 1
number_of RowRule = 2
number_of Stand = 3
number_of OrientRule = 4
number_of RailRule = 5
number_of Fence = 6
number_of Obstacle = 7
number_of Overlap = 8

-- The first of the placed cells whose box shares a point with this rectangle has this number.
pub record IsFirstOverlapping (box : Rect) (others : List Placed) (own : ℕ) : Type 0 where
  pub place : ℕ
  pub cell : Placed
  pub there : slice_get others place ≡ Some cell
  pub named : cell.own ≡ own
  pub does_overlap : SharesPoint box cell.rect
  pub first : All (λ other. SharesPoint box other.rect → ⊥) (take place others)

-- The first broken rule: it is broken, each lesser one holds, and for Overlap the first other cell
-- that overlaps is named.
pub record IsFirstBroken (t : Candidate) (b : Broken) : Type 0 where
  pub broken : Holds t b.rule → ⊥
  pub lesser : (r : Rule) → number_of r < number_of b.rule → Holds t r
  pub other : MatchOption b.other (b.rule ≢ Overlap)
      (λ own. (b.rule ≡ Overlap) × IsFirstOverlapping (padded_box t) t.others own)

-- The verdict on all rules except Overlap: all of them hold, or this one is the first that is
-- broken.
abbrev pub IsFrameRuleVerdict : Candidate → Option Rule → Type 0
IsFrameRuleVerdict t verdict = MatchOption verdict ((r : Rule) → number_of r ≤ 7 → Holds t r)
    (λ rule. IsFirstBroken t record { rule = rule; other = None })

-- A team-legal place remains team-legal with less padding.
abbrev pub LessPaddingKeepsLegal : Type 0
LessPaddingKeepsLegal = (t : Candidate) (less : ℕ) → less ≤ t.padding → IsTeamLegal t
    → IsTeamLegal (record t { padding = less })

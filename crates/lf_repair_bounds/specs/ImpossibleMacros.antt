-- Macros whose cells no place can hold, team by team, and why.
use Rattle.std.specs.Prelude.{◌≤ℤ◌, ◌<ℤ◌, ◌≡◌, ◌==◌, ◌&&◌, ℕ, ℤ, pos, ◌%◌, ◌+ℤ◌, List, [], All, Any, Bool, IsTrue, Some, slice_get}
use Rattle.std.specs.List.{list_any}
use Rattle.lf_units.specs.Area.{Covers}
use Rattle.lf_orient.specs.declared.Orient.{Orient}
use Rattle.lf_orient.specs.Orientation.{is_allowed, EqualUnder, rail_below}
use Rattle.lf_floorplan.specs.declared.frame.Frame.{Frame}
use Rattle.lf_floorplan.specs.declared.loaded.LoadedCell.{LoadedCell}
use Rattle.lf_floorplan.specs.declared.macros.Macro.{Macro}
use Rattle.lf_floorplan.specs.declared.parts.Row.{Row}
use Rattle.lf_floorplan.specs.Boxes.{macro_of, size_of}
use Rattle.lf_floorplan.specs.Sizes.{box_at}
use Rattle.lf_floorplan.specs.Ground.{InGround}
use Rattle.lf_floorplan.specs.Rows.{row_area}
use Rattle.lf_floorplan.specs.RowSupport.{IsSitesHigh}
use Rattle.lf_rules.specs.Choice.{PlacementQuery, IsLegalAt, SpotPlace}
use Rattle.lf_repair_bounds.specs.declared.reasons.ImpossibleReason.{ImpossibleReason}
use Rattle.lf_repair_bounds.specs.declared.reasons.ImpossibleReason.TheVariants.{Height, Orientation, Width, Ground}
use Rattle.lf_repair_bounds.specs.declared.reasons.ImpossibleMacro.{ImpossibleMacro}

-- a cell of the macro in the team, if no other cell is on the floor
abbrev pub macro_alone : Frame → ℕ → ℕ → PlacementQuery
macro_alone f team mac = record { frame = f; team = team; padding = 0; mac = macro_of f mac; others = [] }

-- no place is legal for a cell of the macro in the team, even if no other cell is on the floor
abbrev pub IsImpossible : Frame → ℕ → ℕ → Type 0
IsImpossible f team mac = (p : SpotPlace) → IsLegalAt (macro_alone f team mac) p → ⊥

-- ---- reasons

-- the macro is k rows high, and k is from 1 to 8
abbrev pub IsMacroHigh : Frame → Macro → ℕ → Type 0
IsMacroHigh f m k = IsSitesHigh f (box_at (size_of f m) (pos 0) (pos 0)) k

-- the macro is not 1 to 8 rows high
abbrev pub HasNoHeight : Frame → Macro → Type 0
HasNoHeight f m = (k : ℕ) → IsMacroHigh f m k → ⊥

-- the row allows a cell of the macro, which is k rows high, this orientation and its bottom rail
pub record FitsOnRow (f : Frame) (m : Macro) (k : ℕ) (r : Row) (o : Orient) : Type 0 where
  pub allowed : IsTrue (is_allowed m.symmetry o)
  pub equal : k % 2 ≡ 1 → EqualUnder f.site.symmetry o r.orient
  pub rail : k % 2 ≡ 0 → rail_below r.orient ≡ Some m.rail

-- the row allows it some orientation
pub record FitsUpright (f : Frame) (m : Macro) (k : ℕ) (r : Row) : Type 0 where
  pub orient : Orient
  pub fits : FitsOnRow f m k r orient

-- no row allows its orientations and its bottom rail
abbrev pub HasNoRow : Frame → Macro → Type 0
HasNoRow f m = (k : ℕ) → IsMacroHigh f m k → Any (λ r. FitsUpright f m k r) f.rows → ⊥

-- the row extends over x, and all points of it there are ground of the team and in no obstacle
pub record IsUsableAt (f : Frame) (r : Row) (team : ℕ) (x : ℤ) : Type 0 where
  pub left : r.x ≤ℤ x
  pub right : x <ℤ (row_area f.pitch r).x2
  pub clear : (y : ℤ) → Covers (row_area f.pitch r) x y → All (λ obstacle. Covers obstacle x y → ⊥) f.obstacles
  pub in_ground : (y : ℤ) → Covers (row_area f.pitch r) x y → InGround f team x y

-- no row is usable for the team over a width as large as the macro's
abbrev pub HasNoWidth : Frame → ℕ → Macro → Type 0
HasNoWidth f team m = (n : ℕ) (r : Row) (low : ℤ) → slice_get f.rows n ≡ Some r
    → ((x : ℤ) → low ≤ℤ x → x <ℤ (low +ℤ (size_of f m).x) → IsUsableAt f r team x) → ⊥

-- the reason is the first of these that is true: the macro is not 1 to 8 rows high, no row allows
-- its orientations and rail, it is wider than every segment of the team, or no ground of the team
-- holds it
abbrev pub HasReason : Frame → ℕ → Macro → ImpossibleReason → Type 0
HasReason f team m Height = HasNoHeight f m
HasReason f team m Orientation = (HasNoHeight f m → ⊥) × HasNoRow f m
HasReason f team m Width = (HasNoHeight f m → ⊥) × (HasNoRow f m → ⊥) × HasNoWidth f team m
HasReason f team m Ground = (HasNoHeight f m → ⊥) × (HasNoRow f m → ⊥) × (HasNoWidth f team m → ⊥)

-- ---- lists

-- the entry is of the macro in the team
abbrev pub is_of_macro : ℕ → ℕ → ImpossibleMacro → Bool
is_of_macro team mac m = (m.team == team) && (m.mac == mac)

-- the list has the macro for the team
abbrev pub is_listed : List ImpossibleMacro → ℕ → ℕ → Bool
is_listed list team mac = list_any (is_of_macro team mac) list

-- one of the cells is of the macro in the team
abbrev pub HasCellOf : List LoadedCell → ℕ → ℕ → Type 0
HasCellOf cells team mac = Any (λ c. (c.team ≡ team) × (c.mac ≡ mac)) cells

-- the entry is of a macro of one of the cells, in the cell's team; no place can hold it, and the
-- reason is right
pub record IsImpossibleMacro (f : Frame) (cells : List LoadedCell) (m : ImpossibleMacro) : Type 0 where
  pub of_cell : HasCellOf cells m.team m.mac
  pub impossible : IsImpossible f m.team m.mac
  pub reason : HasReason f m.team (macro_of f m.mac) m.reason

-- the list has exactly the macros of the cells, each in its cell's team, that no place can hold,
-- with the reasons
pub record AreImpossibleMacros (f : Frame) (cells : List LoadedCell) (list : List ImpossibleMacro) : Type 0 where
  pub are : All (IsImpossibleMacro f cells) list
  pub all_listed : All (λ c. IsImpossible f c.team c.mac → IsTrue (is_listed list c.team c.mac)) cells

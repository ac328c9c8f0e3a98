-- The search for impossible macros so far. No public clause cites this module.
use Rattle.std.specs.Prelude.{◌≡◌, ℕ, ◌+ℤ◌, ◌≤ℤ◌, ℤ, List, All, Any, IsTrue, Option, MatchOption}
use Rattle.lf_floorplan.specs.declared.frame.Frame.{Frame}
use Rattle.lf_floorplan.specs.declared.loaded.LoadedCell.{LoadedCell}
use Rattle.lf_floorplan.specs.Boxes.{macro_of}
use Rattle.lf_segments.specs.Indexes.{FrameIndexView}
use Rattle.lf_repair_bounds.specs.declared.reasons.ImpossibleReason.{ImpossibleReason}
use Rattle.lf_repair_bounds.specs.declared.reasons.ImpossibleMacro.{ImpossibleMacro}
use Rattle.lf_repair_bounds.specs.declared.impossible.CheckedMacro.{CheckedMacro}
use Rattle.lf_repair_bounds.specs.ImpossibleMacros.{HasReason, IsImpossible, IsImpossibleMacro, is_listed}

-- a span from `low` on and below `high` of the team `own` is this team's, and at least as wide as this
pub record IsWideFor (team : ℕ) (width : ℤ) (own : ℕ) (low high : ℤ) : Type 0 where
  pub of_team : own ≡ team
  pub wide : (low +ℤ width) ≤ℤ high

-- a segment of the index is the team's, and at least as wide as this
abbrev pub HasWideSegment : FrameIndexView → ℕ → ℤ → Type 0
HasWideSegment index team width = Any (λ g. IsWideFor team width g.team g.span.lo g.span.hi) index.segments

-- no place can hold the macro for this reason; or a place can hold it
abbrev pub IsVerdictOn : Frame → ℕ → ℕ → Option ImpossibleReason → Type 0
IsVerdictOn f team mac verdict = MatchOption verdict (IsImpossible f team mac → ⊥)
    (λ reason. IsImpossible f team mac × HasReason f team (macro_of f mac) reason)

-- if no place can hold the macro, it is listed
abbrev pub IsDecided : Frame → List ImpossibleMacro → ℕ → ℕ → Type 0
IsDecided f list team mac = IsImpossible f team mac → IsTrue (is_listed list team mac)

-- the same for each of the checked macros
abbrev pub AreDecided : Frame → List ImpossibleMacro → List CheckedMacro → Type 0
AreDecided f list checked = All (λ c. IsDecided f list c.team c.mac) checked

-- the list has one more macro, or none more: its entries are right, and this macro is decided
pub record Decides (f : Frame) (cells : List LoadedCell) (team mac : ℕ) (old new : List ImpossibleMacro) : Type 0 where
  pub are : All (IsImpossibleMacro f cells) old → All (IsImpossibleMacro f cells) new
  pub kept : (t m : ℕ) → IsTrue (is_listed old t m) → IsTrue (is_listed new t m)
  pub decided : IsDecided f new team mac

-- the same, and the checked macros remain decided
pub record ChecksOne (f : Frame) (cells : List LoadedCell) (team mac : ℕ) (old_checked new_checked : List CheckedMacro)
    (old new : List ImpossibleMacro) : Type 0 where
  pub are : All (IsImpossibleMacro f cells) old → All (IsImpossibleMacro f cells) new
  pub kept : (t m : ℕ) → IsTrue (is_listed old t m) → IsTrue (is_listed new t m)
  pub checked : AreDecided f old old_checked → AreDecided f new new_checked
  pub decided : AreDecided f old old_checked → IsDecided f new team mac

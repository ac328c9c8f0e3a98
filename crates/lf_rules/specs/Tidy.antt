-- Tidying a team, cell by cell in loading order.
use Rattle.std.specs.Prelude.{◌≡◌, ℕ, zero, suc, ◌+◌, List, All, length, map, Option, Some, None, slice_get, slice_set}
use Rattle.std.specs.Option.{option_map}
use Rattle.lf_units.specs.declared.geometry.Point.{Point}
use Rattle.lf_floorplan.specs.declared.frame.Frame.{Frame}
use Rattle.lf_floorplan.specs.Boxes.{IsSized, macro_of}
use Rattle.lf_rules.specs.Choice.{SpotPlace, PlacementQuery, candidate_at, anchor}
use Rattle.lf_rules.specs.Legalizer.{Legalizer}
use Rattle.lf_rules.specs.Team.{Member, query_from, IsLegalCell}

-- The state of tidying: the cells, and the number of them that moved to their best place; or the
-- number of a cell that has no best place.
pub data Tidied : Type 0 where
  Going : List Member → ℕ → Tidied
  Stuck : ℕ → Tidied

abbrev pub point_of : SpotPlace → Point
point_of p = record { x = p.x; y = p.y }

-- The target for which a cell is tidied: its team's anchor if it is unplaced, its own corner if it
-- breaks a rule; `None` if it stays.
abbrev pub target_of : Legalizer → PlacementQuery → Option SpotPlace → Option Point
target_of l c None = Some (anchor c.frame c.team)
target_of l c (Some p) = option_map (λ broken. point_of p) (l.first_broken (candidate_at c p))

-- The cell moves to its best place; the state is `Stuck` if there is no best place.
abbrev pub tidied_to_best : Option SpotPlace → List Member → ℕ → ℕ → ℕ → Tidied
tidied_to_best None cells moved own mac = Stuck own
tidied_to_best (Some p) cells moved own mac =
    Going (slice_set cells own record { mac = mac; place = Some p }) (moved + 1)

-- The cell stays if it has no target; otherwise it moves to its best place for the target.
abbrev pub tidied_to : Option Point → Legalizer → PlacementQuery → List Member → ℕ → ℕ → ℕ → Tidied
tidied_to None l c cells moved own mac = Going cells moved
tidied_to (Some target) l c cells moved own mac = tidied_to_best (l.best_place c target) cells moved own mac

abbrev pub tidied_own : Option Member → Legalizer → Frame → ℕ → ℕ → List Member → ℕ → ℕ → Tidied
tidied_own None l f team padding cells moved own = Going cells moved
tidied_own (Some m) l f team padding cells moved own =
    let c = query_from f team padding cells own m.mac in tidied_to (target_of l c m.place) l c cells moved own m.mac

-- One cell is tidied, unless an earlier one has no best place.
abbrev pub tidy_cell : Legalizer → Frame → ℕ → ℕ → Tidied → ℕ → Tidied
tidy_cell l f team padding (Stuck stuck) own = Stuck stuck
tidy_cell l f team padding (Going cells moved) own = tidied_own (slice_get cells own) l f team padding cells moved own

-- `count` cells are tidied one after the other, from the number `own` on.
abbrev pub tidied_from : Legalizer → Frame → ℕ → ℕ → ℕ → ℕ → Tidied → Tidied
tidied_from l f team padding own zero t = t
tidied_from l f team padding own (suc count) t =
    tidied_from l f team padding (own + 1) count (tidy_cell l f team padding t own)

-- All cells of the team, which has this padding, are tidied.
unfoldable pub tidied : Legalizer → Frame → ℕ → ℕ → List Member → Tidied
tidied l f team padding cells = tidied_from l f team padding 0 (length cells) (Going cells 0)

-- After a tidy in which no cell was stuck, every cell is placed and team-legal.
abbrev pub TidiedIsLegal : Type 0
TidiedIsLegal =
    (l : Legalizer) (f : Frame) (team padding : ℕ) (cells new : List Member) (moved : ℕ) →
    All (λ m. IsSized f (macro_of f m.mac)) cells →
    tidied l f team padding cells ≡ Going new moved → (own : ℕ) → IsLegalCell f team padding new own

-- Tidying only moves cells: their number, order and macros are unchanged.
abbrev pub TidiedKeepsCells : Type 0
TidiedKeepsCells =
    (l : Legalizer) (f : Frame) (team padding : ℕ) (cells new : List Member) (moved : ℕ) →
    tidied l f team padding cells ≡ Going new moved → map (λ m. m.mac) new ≡ map (λ m. m.mac) cells

-- A cell that is placed and team-legal remains so while another cell is tidied.
abbrev pub TidyKeepsLegal : Type 0
TidyKeepsLegal =
    (l : Legalizer) (f : Frame) (team padding : ℕ) (cells new : List Member) (moved count own other : ℕ) →
    All (λ m. IsSized f (macro_of f m.mac)) cells →
    tidy_cell l f team padding (Going cells moved) own ≡ Going new count →
    IsLegalCell f team padding cells other → IsLegalCell f team padding new other

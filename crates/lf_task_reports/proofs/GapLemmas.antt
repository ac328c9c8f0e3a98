-- The gaps of a team's cells on a floor.
use Rattle.std.proofs.Common.{◌≡◌, ◌∙◌, ℕ, List, Option, Some, ap, sym, subst}
use Rattle.std.specs.Prelude.{option_and_then, slice_get}
use Rattle.lf_floorplan.specs.declared.frame.Frame.{Frame}
use Rattle.lf_floorplan.specs.declared.place.Place.{Place}
use Rattle.lf_cells.specs.declared.cell.Cell.{Cell}
use Rattle.lf_floor_model.specs.States.{FloorState, TeamState}
use Rattle.lf_floor_model.specs.Teams.{team_number}
use Rattle.lf_repair_bounds.specs.Gaps.{AreGaps, placed_team}
use Rattle.lf_task_reports.specs.RepairReports.{AreGapsIn}

same_number : (a b : ℕ) (o : Option ℕ) → o ≡ Some a → o ≡ Some b → a ≡ b
same_number a b o first second = cc

pub gaps_in : (floor : FloorState) (team : List ℕ) (old_place : ℕ → Option Place) (owns gaps : List ℕ) (number padding : ℕ) (f : Frame) (cells : List Cell) → team_number floor.frame team ≡ Some number
    → f ≡ floor.frame → ((s : TeamState) → slice_get floor.teams number ≡ Some s → cells ≡ s.cells)
    → ((s : TeamState) → slice_get floor.teams number ≡ Some s → padding ≡ s.padding)
    → AreGaps (placed_team f number padding cells) old_place owns gaps → AreGapsIn floor team old_place owns gaps
gaps_in floor team old_place owns gaps number padding f cells known frame own pads are n s named there =
    let same : number ≡ n = same_number number n (team_number floor.frame team) known named in
    let at : slice_get floor.teams number ≡ Some s = sym (ap (λ (o : Option ℕ). option_and_then (slice_get floor.teams) o) known) ∙ there in
    subst (λ (m : ℕ). AreGaps (placed_team floor.frame m s.padding s.cells) old_place owns gaps) same
    (subst (λ (cs : List Cell). AreGaps (placed_team floor.frame number s.padding cs) old_place owns gaps) (own s at)
    (subst (λ (p : ℕ). AreGaps (placed_team floor.frame number p cells) old_place owns gaps) (pads s at)
    (subst (λ (g : Frame). AreGaps (placed_team g number padding cells) old_place owns gaps) frame are)))

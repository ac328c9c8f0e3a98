use Rattle.std.proofs.Common.{◌≡◌, ◌<◌, ◌+◌, length, sym, ap, ◌∙◌, List, ℕ, Some, subst}
use Rattle.lf_floorplan.specs.declared.frame.Frame.{Frame}
use Rattle.lf_cells.specs.Cells.{Cells, cells_of}
use Rattle.lf_team_def.specs.Lengths.{IsLengthOf}
use Rattle.lf_team_def.specs.TeamText.{team_text}
use Rattle.lf_floor_model.specs.States.{FloorState}
use Rattle.lf_floor_model.specs.Teams.{team_number}
use Rattle.lf_floor.specs.Responses.{def_text}
use Rattle.lf_floor_verbs.specs.Tables.{frame_of}
use Rattle.lf_floor.proofs.Requested.{text_there}
use Rattle.lf_floor.proofs.floor.Floor.def_length.Goals as goal

pub returns : goal.returns
returns g c =
    let tables = c.self.inside.tables in
    let number = c.in-Some.number in
    let text = ap (λ (v : FloorState). def_text v c.args.team.now) (sym c.self.view_is) ∙ text_there tables c.args.team.now number
    (subst (λ (f : Frame). Some number ≡ team_number f c.args.team.now) c.frame.ensures c.in-Some.ensures.found)
    (rw c.self.invariant.revisions (subst (λ (f : Frame). number < length f.teams + 1) c.frame.ensures c.in-Some.ensures.within)) in
    subst (λ (t : List ℕ). IsLengthOf t c.team_def_length.result) (sym text)
    (subst (λ (cs : Cells). IsLengthOf (team_text (frame_of tables) number (cells_of cs number)) c.team_def_length.result) c.cells.ensures
    (subst (λ (f : Frame). IsLengthOf (team_text f number (cells_of c.cells.result.now number)) c.team_def_length.result) c.frame-2.ensures
    c.team_def_length.ensures))

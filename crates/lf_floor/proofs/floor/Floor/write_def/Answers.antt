use Rattle.std.proofs.Common.{◌≡◌, ◌<◌, ◌+◌, length, sym, ap, ◌∙◌, Some, subst}
use Rattle.lf_floorplan.specs.declared.frame.Frame.{Frame}
use Rattle.lf_cells.specs.Cells.{Cells, cells_of}
use Rattle.lf_io.specs.Output.{PutsText}
use Rattle.lf_team_def.specs.TeamText.{team_text}
use Rattle.lf_floor_model.specs.States.{FloorState}
use Rattle.lf_floor_model.specs.Teams.{team_number}
use Rattle.lf_floor.specs.Responses.{def_text}
use Rattle.lf_floor_verbs.specs.Tables.{frame_of}
use Rattle.lf_floor.proofs.Requested.{text_there}
use Rattle.lf_floor.proofs.floor.Floor.write_def.Goals as goal

pub returns : goal.returns
returns g c =
    let tables = c.self.inside.tables in
    let number = c.in-Some.number in
    let text = ap (λ (v : FloorState). def_text v c.args.team.now) (sym c.self.view_is) ∙ text_there tables c.args.team.now number
    (subst (λ (f : Frame). Some number ≡ team_number f c.args.team.now) c.frame.ensures (c.in-Some.ensures {u = tt}).found)
    (rw c.self.invariant.revisions (subst (λ (f : Frame). number < length f.teams + 1) c.frame.ensures (c.in-Some.ensures {u = tt}).within)) in
    subst (PutsText g.O.Output.took c.args.out.now c.write_team_def.new.out) (sym text)
    (subst (λ (cs : Cells). PutsText g.O.Output.took c.args.out.now c.write_team_def.new.out (team_text (frame_of tables) number (cells_of cs number))) c.cells.ensures
    (subst (λ (f : Frame). PutsText g.O.Output.took c.args.out.now c.write_team_def.new.out (team_text f number (cells_of c.cells.result.now number))) c.frame-2.ensures
    c.write_team_def.ensures))

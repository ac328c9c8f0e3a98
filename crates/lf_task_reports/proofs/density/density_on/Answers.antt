use Rattle.std.proofs.Common.{◌≡◌, ◌∙◌, ◌≤◌, List, ap, arith, length, subst}
use Rattle.std.specs.Prelude.{IfOk, flat_map}
use Rattle.std.proofs.lemmas.List.{take_all}
use Rattle.lf_units.specs.declared.geometry.Rect.{Rect}
use Rattle.lf_floorplan.specs.declared.frame.Frame.{Frame}
use Rattle.lf_cells.specs.Cells.{cells_of}
use Rattle.lf_density.specs.Density.{IsDensityOf}
use Rattle.lf_floor_model.specs.States.{TeamState}
use Rattle.lf_task_reports.specs.Densities.{cell_boxes, working_boxes}
use Rattle.lf_task_reports.proofs.DensityLemmas.{one_team_more}
use Rattle.lf_task_reports.proofs.density.density_on.Goals as goal

pub loop-number-preserved : goal.loop-number-preserved
loop-number-preserved g c =
    let floor = c.args.floor.now in
    let p = c.placement-placement.result.now in
    let many : c.len-teams.result ≡ length floor.frame.teams =
    c.len-teams.ensures ∙ ap (λ (f : Frame). length f.teams) (c.frame-frame.ensures ∙ c.placement-placement.ensures.frame) in
    one_team_more floor.frame p.frame floor.teams c.loop-number.number (cells_of p.cells c.loop-number.number) c.loop-number.boxes.items _ c.placement-placement.ensures.frame
    (omega (arith, many, c.requires, c.loop-number-test.true))
    (c.placement-placement.ensures.cells c.loop-number.number) c.loop-number.invariant c.in_ok-push_boxes.ensures

pub returns : goal.returns
returns g c =
    let floor = c.args.floor.now in
    let frame_is = c.frame-frame.ensures ∙ c.placement-placement.ensures.frame in
    let many : c.len-teams.result ≡ length floor.frame.teams = c.len-teams.ensures ∙ ap (λ (f : Frame). length f.teams) frame_is in
    let all : length floor.teams ≤ c.loop-number.number = omega (arith, many, c.requires, c.loop-number-test.false) in
    let boxes : c.as_slice.result.now ≡ working_boxes floor =
    c.as_slice.ensures.value ∙ c.loop-number.invariant
    ∙ ap (λ (teams : List TeamState). flat_map (λ (s : TeamState). cell_boxes floor.frame s.cells) teams) (take_all c.loop-number.number floor.teams all) in
    subst (λ (f : Frame). IfOk c.density_of.result (IsDensityOf f (working_boxes floor))) frame_is
    (subst (λ (rects : List Rect). IfOk c.density_of.result (IsDensityOf c.frame-frame.result.now rects)) boxes c.density_of.ensures)

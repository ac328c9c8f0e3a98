use Rattle.std.proofs.Common.{◌∙◌, List, ℕ, Some, ap, subst, sym}
use Rattle.lf_proto.specs.Lines.{IsLineName}
use Rattle.lf_floor_model.specs.Teams.{IsTeamOf}
use Rattle.lf_repair_team.proofs.Cells.{named_is}
use Rattle.lf_repair_team.proofs.Results.{each_state}
use Rattle.lf_repair_team.proofs.Runs.{none_cut}
use Rattle.lf_repair_team.proofs.cell_edits.run_edit.Goals as goal

pub returns-in-Ok-true-clause-cells : goal.returns-in-Ok-true-clause-cells
returns-in-Ok-true-clause-cells g c = λ other differ.
    let floor = c.args.floor.now in
    let team = c.args.session.now.team.now in
    let name = c.as_slice.result.now in
    c.run_edit_of.ensures.cells other (λ s there named. differ (named_is s.cells c.args.own other name
    (each_state (IsTeamOf floor.frame) floor team s c.teams_match_frame.ensures there).names_differ
    (c.in-Ok-true.ensures.name s c.in-Ok-true.field-0-test there ∙ ap (λ (n : List ℕ). Some n) (sym c.as_slice.ensures.value)) named))

pub returns-in-Ok-true-clause-legal : goal.returns-in-Ok-true-clause-legal
returns-in-Ok-true-clause-legal g c = λ other differ.
    let floor = c.args.floor.now in
    let team = c.args.session.now.team.now in
    let name = c.as_slice.result.now in
    c.run_edit_of.ensures.legal other (λ s there named. differ (named_is s.cells c.args.own other name
    (each_state (IsTeamOf floor.frame) floor team s c.teams_match_frame.ensures there).names_differ
    (c.in-Ok-true.ensures.name s c.in-Ok-true.field-0-test there ∙ ap (λ (n : List ℕ). Some n) (sym c.as_slice.ensures.value)) named))

pub run_edit_of-requires : goal.run_edit_of-requires
run_edit_of-requires g c = subst IsLineName (sym c.as_slice.ensures.value) (c.in-Ok-true.ensures.plain c.in-Ok-true.field-0-test)

pub returns-in-Err-clause-err : goal.returns-in-Err-clause-err
returns-in-Err-clause-err g c = λ l. none_cut l c.args.session.now.team.now c.args.floor.now (g.K.Sink.contents c.args.lines.now)

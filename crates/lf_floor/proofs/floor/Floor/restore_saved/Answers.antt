use Rattle.std.proofs.Common.{subst, sym, ◌∙◌, ap}
use Rattle.lf_floor_model.specs.States.{FloorState}
use Rattle.lf_state_text.specs.Saved.{team_views}
use Rattle.lf_floor.specs.Saved.{MatchDesign, ShareDesign, restored_floor}
use Rattle.lf_floor_verbs.specs.Tables.{floor_in}
use Rattle.lf_floor.proofs.Saving.{of_design}
use Rattle.lf_floor.proofs.floor.Floor.restore_saved.Goals as goal

pub restored_by-requires-clause-due : goal.restored_by-requires-clause-due
restored_by-requires-clause-due g c =
    subst (λ (f : FloorState). MatchDesign f.frame.limits f.teams (team_views c.args.rows.items)) (sym c.floor.view_is) c.requires.due

pub returns-clause-restored : goal.returns-clause-restored
returns-clause-restored g c =
    c.in_ok-now.ensures.floor ∙ ap (λ (f : FloorState). restored_floor f (team_views c.args.rows.items)) c.floor.view_is

pub returns-clause-design : goal.returns-clause-design
returns-clause-design g c =
    let now = floor_in c.in_ok-now.now in
    subst (λ (f : FloorState). ShareDesign f now) c.floor.view_is
    (of_design c.floor.inside.tables c.in_ok-now.now (team_views c.args.rows.items)
    (subst (λ (f : FloorState). MatchDesign f.frame.limits f.teams (team_views c.args.rows.items)) (sym c.floor.view_is) c.requires.due)
    c.in_ok-now.ensures.floor)

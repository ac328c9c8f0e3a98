use Rattle.std.proofs.Common.{refl}
use Rattle.lf_proto.specs.declared.request.TeamCommand.TheVariants.{Within}
use Rattle.lf_proto.specs.declared.verb.Action.TheVariants.{Change as Changing}
use Rattle.lf_proto.specs.declared.verb.Change.TheVariants.{Legalize}
use Rattle.lf_proto.specs.declared.request.Command.TheVariants.{To}
use Rattle.lf_floor_model.specs.Steps.{Step}
use Rattle.lf_repair_team.specs.CellEdits.{SaysNoPlace}
use Rattle.lf_repair_team.specs.TeamRepairs.{HasNoPlace}
use Rattle.lf_repair_team.proofs.Cells.{others_stay}
use Rattle.lf_repair_team.proofs.OffSoft.{legalize_off_soft}
use Rattle.lf_repair_team.proofs.OthersLegal.{other_remains_legal}
use Rattle.lf_repair_team.proofs.ReachLemmas.{legalize_at_best}
use Rattle.lf_repair_team.proofs.Results.{ok_weaker}
use Rattle.lf_repair_team.proofs.Settings.{committed_and_settings_stay}
use Rattle.lf_repair_team.proofs.WithoutPlace.{other_has_none, refused_has_none}
use Rattle.lf_repair_team.proofs.last_pass.legalize_named.Goals as goal

pub returns-clause-cells : goal.returns-clause-cells
returns-clause-cells g c = λ other differ.
    others_stay c.legalizer_exists.ensures c.args.floor.now c.run_action.new.floor c.args.session.now.team.now c.args.cell.now c.args.session.now.session
    (Legalize c.args.cell.now c.args.target.now) other refl (c.run_action.ensures.requested c.legalizer_exists.ensures) differ

pub returns-clause-legal : goal.returns-clause-legal
returns-clause-legal g c = λ other differ.
    other_remains_legal c.legalizer_exists.ensures c.args.floor.now c.run_action.new.floor c.args.session.now.team.now c.args.cell.now c.args.session.now.session
    (Legalize c.args.cell.now c.args.target.now) other c.legal_in_range.ensures c.teams_match_frame.ensures c.run_action.ensures.only.frame refl
    (c.run_action.ensures.requested c.legalizer_exists.ensures) differ

pub returns-clause-committed : goal.returns-clause-committed
returns-clause-committed g c =
    committed_and_settings_stay c.legalizer_exists.ensures c.args.floor.now c.run_action.new.floor c.args.session.now.team.now c.args.session.now.session
    (Legalize c.args.cell.now c.args.target.now) refl (c.run_action.ensures.requested c.legalizer_exists.ensures) refl

pub returns-clause-without : goal.returns-clause-without
returns-clause-without g c = λ reach old other differ unplaced has.
    other_has_none reach old c.legalizer_exists.ensures c.args.floor.now c.run_action.new.floor c.args.session.now.team.now c.args.cell.now c.args.session.now.session c.args.target.now other
    c.run_action.ensures.only.frame (c.run_action.ensures.requested c.legalizer_exists.ensures) differ unplaced has

pub returns-clause-refused : goal.returns-clause-refused
returns-clause-refused g c = λ reach was s own there at unplaced.
    let l = c.legalizer_exists.ensures in
    let old = c.args.floor.now in
    let new = c.run_action.new.floor in
    let team = c.args.session.now.team.now in
    let order = Within c.args.session.now.session (Changing (Legalize c.args.cell.now c.args.target.now)) in
    ok_weaker c.run_action.result (λ reply. Step l old (To team order) reply new) (λ reply. SaysNoPlace reply → HasNoPlace reach was new team own)
    (λ reply step. refused_has_none reach was l old new team c.args.cell.now c.args.session.now.session own c.args.target.now s reply c.best_is_found.ensures c.refusal_keeps_state.ensures
    c.teams_match_frame.ensures c.run_action.ensures.only.frame there at unplaced step)
    (c.run_action.ensures.replied l)

pub returns-clause-off_soft : goal.returns-clause-off_soft
returns-clause-off_soft g c = λ s own there at unplaced.
    legalize_off_soft c.legalizer_exists.ensures c.args.floor.now c.run_action.new.floor c.args.session.now.team.now c.args.cell.now c.args.session.now.session own c.args.target.now s
    c.best_is_found.ensures c.teams_match_frame.ensures c.run_action.ensures.only.frame there at unplaced (c.run_action.ensures.requested c.legalizer_exists.ensures)

pub returns-clause-best : goal.returns-clause-best
returns-clause-best g c = λ s own there at unplaced.
    legalize_at_best c.legalizer_exists.ensures c.args.floor.now c.run_action.new.floor c.args.session.now.team.now c.args.cell.now c.args.session.now.session own c.args.target.now s
    c.best_is_found.ensures c.teams_match_frame.ensures there at unplaced (c.run_action.ensures.requested c.legalizer_exists.ensures)

use Rattle.std.proofs.Common.{◌≡◌, refl}
use Rattle.lf_proto.specs.declared.request.TeamCommand.TheVariants.{Within}
use Rattle.lf_proto.specs.declared.verb.Action.TheVariants.{Close}
use Rattle.lf_repair_team.specs.CellEdits.{settings_without}
use Rattle.lf_repair_team.specs.TeamRepairs.{settings_in}
use Rattle.lf_repair_team.specs.Runs.{IsRunWithCutLine, IsWrittenRun}
use Rattle.lf_repair_team.proofs.Results.{err_from, ok_from, on_ok_from}
use Rattle.lf_repair_team.proofs.Runs.{uncut}
use Rattle.lf_repair_team.proofs.Settings.{close_frees}
use Rattle.lf_repair_team.proofs.Steps.{look_same}
use Rattle.lf_repair_team.proofs.session.close.Goals as goal

pub returns-in-Ok-clause-run : goal.returns-in-Ok-clause-run
returns-in-Ok-clause-run g c = λ l.
    let team = c.args.session.now.team.now in
    ok_from c.continue_unless_exhausted.result (IsWrittenRun l team c.args.floor.now (g.K.Sink.contents c.args.lines.now) (g.K.Sink.contents c.run_action.new.lines) c.run_action.new.floor)
    (c.in-Ok.ensures.run l)

pub returns-in-Ok-clause-err : goal.returns-in-Ok-clause-err
returns-in-Ok-clause-err g c = λ l.
    let team = c.args.session.now.team.now in
    err_from c.continue_unless_exhausted.result (IsRunWithCutLine l team c.args.floor.now (g.K.Sink.contents c.args.lines.now) (g.K.Sink.contents c.run_action.new.lines) c.run_action.new.floor)
    (uncut l team c.args.floor.now c.run_action.new.floor (g.K.Sink.contents c.args.lines.now) (g.K.Sink.contents c.run_action.new.lines)
    (c.in-Ok.ensures.run l))

pub returns-in-Ok-clause-cells : goal.returns-in-Ok-clause-cells
returns-in-Ok-clause-cells g c =
    look_same c.legalizer_exists.ensures c.args.floor.now c.run_action.new.floor c.args.session.now.team.now (Within c.args.session.now.session Close) c.query_keeps_state.ensures refl
    (c.in-Ok.ensures.requested c.legalizer_exists.ensures)

pub returns-in-Err-clause-cells : goal.returns-in-Err-clause-cells
returns-in-Err-clause-cells g c =
    look_same c.legalizer_exists.ensures c.args.floor.now c.run_action.new.floor c.args.session.now.team.now (Within c.args.session.now.session Close) c.query_keeps_state.ensures refl
    (c.in-Err.ensures.requested c.legalizer_exists.ensures)

pub returns-in-Ok-clause-settings : goal.returns-in-Ok-clause-settings
returns-in-Ok-clause-settings g c =
    let l = c.legalizer_exists.ensures in
    let team = c.args.session.now.team.now in
    let session = c.args.session.now.session in
    on_ok_from c.continue_unless_exhausted.result (settings_in c.run_action.new.floor team ≡ settings_without session c.args.floor.now team)
    (close_frees l c.args.floor.now c.run_action.new.floor team session c.in-Ok.reply (c.in-Ok.ensures.replied l))

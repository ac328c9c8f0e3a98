use Rattle.std.proofs.Common.{◌≡◌, refl}
use Rattle.lf_proto.specs.declared.request.TeamCommand.TheVariants.{Open}
use Rattle.lf_repair_team.specs.CellEdits.{SaysOpened, settings_without}
use Rattle.lf_repair_team.specs.TeamRepairs.{settings_in}
use Rattle.lf_repair_team.specs.Runs.{IsRunWithCutLine, IsWrittenRun}
use Rattle.lf_repair_team.proofs.Results.{err_from, ok_from, ok_weaker}
use Rattle.lf_repair_team.proofs.Runs.{uncut}
use Rattle.lf_repair_team.proofs.Settings.{open_takes_free}
use Rattle.lf_repair_team.proofs.Steps.{look_same}
use Rattle.lf_repair_team.proofs.session.open.Goals as goal

pub returns-in-Ok-clause-run : goal.returns-in-Ok-clause-run
returns-in-Ok-clause-run g c = λ l.
    let team = c.args.team.now in
    ok_from c.session_of.result (IsWrittenRun l team c.args.floor.now (g.K.Sink.contents c.args.lines.now) (g.K.Sink.contents c.run_command.new.lines) c.run_command.new.floor)
    (c.in-Ok.ensures.run l team refl (λ name. name))

pub returns-in-Ok-clause-err : goal.returns-in-Ok-clause-err
returns-in-Ok-clause-err g c = λ l.
    let team = c.args.team.now in
    err_from c.session_of.result (IsRunWithCutLine l team c.args.floor.now (g.K.Sink.contents c.args.lines.now) (g.K.Sink.contents c.run_command.new.lines) c.run_command.new.floor)
    (uncut l team c.args.floor.now c.run_command.new.floor (g.K.Sink.contents c.args.lines.now) (g.K.Sink.contents c.run_command.new.lines)
    (c.in-Ok.ensures.run l team refl (λ name. name)))

pub returns-in-Err-clause-err : goal.returns-in-Err-clause-err
returns-in-Err-clause-err g c = λ l. c.in-Err.ensures.err l c.args.team.now refl (λ name. name)

pub returns-in-Ok-clause-only : goal.returns-in-Ok-clause-only
returns-in-Ok-clause-only g c = c.in-Ok.ensures.only c.args.team.now refl

pub returns-in-Ok-clause-cells : goal.returns-in-Ok-clause-cells
returns-in-Ok-clause-cells g c =
    look_same c.legalizer_exists.ensures c.args.floor.now c.run_command.new.floor c.args.team.now Open c.query_keeps_state.ensures refl
    (c.in-Ok.ensures.requested c.legalizer_exists.ensures)

pub returns-in-Err-clause-only : goal.returns-in-Err-clause-only
returns-in-Err-clause-only g c = c.in-Err.ensures.only c.args.team.now refl

pub returns-in-Err-clause-cells : goal.returns-in-Err-clause-cells
returns-in-Err-clause-cells g c =
    look_same c.legalizer_exists.ensures c.args.floor.now c.run_command.new.floor c.args.team.now Open c.query_keeps_state.ensures refl
    (c.in-Err.ensures.requested c.legalizer_exists.ensures)

pub returns-in-Ok-clause-settings : goal.returns-in-Ok-clause-settings
returns-in-Ok-clause-settings g c =
    let l = c.legalizer_exists.ensures in
    let team = c.args.team.now in
    ok_weaker c.session_of.result (λ session. SaysOpened session c.in-Ok.reply)
    (λ session. settings_without session c.run_command.new.floor team ≡ settings_in c.args.floor.now team)
    (λ session says. open_takes_free l c.args.floor.now c.run_command.new.floor team session c.in-Ok.reply says (c.in-Ok.ensures.replied l)) c.session_of.ensures

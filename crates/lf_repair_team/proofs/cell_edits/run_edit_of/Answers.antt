use Rattle.lf_proto.specs.Verbs.{change_of}
use Rattle.lf_repair_team.specs.Runs.{IsRunWithCutLine, IsWrittenRun}
use Rattle.lf_repair_team.proofs.Cells.{no_commit, no_pad, others_stay}
use Rattle.lf_repair_team.proofs.OthersLegal.{other_remains_legal}
use Rattle.lf_repair_team.proofs.Results.{err_from, ok_from}
use Rattle.lf_repair_team.proofs.Runs.{uncut}
use Rattle.lf_repair_team.proofs.Settings.{committed_and_settings_stay}
use Rattle.lf_repair_team.proofs.cell_edits.run_edit_of.Goals as goal

pub returns-in-Ok-clause-run : goal.returns-in-Ok-clause-run
returns-in-Ok-clause-run g c = λ l.
    let team = c.args.session.now.team.now in
    ok_from c.continue_unless_exhausted.result (IsWrittenRun l team c.args.floor.now (g.K.Sink.contents c.args.lines.now) (g.K.Sink.contents c.run_action.new.lines) c.run_action.new.floor)
    (c.in-Ok.ensures.run l)

pub returns-in-Ok-clause-err : goal.returns-in-Ok-clause-err
returns-in-Ok-clause-err g c = λ l.
    let team = c.args.session.now.team.now in
    err_from c.continue_unless_exhausted.result (IsRunWithCutLine l team c.args.floor.now (g.K.Sink.contents c.args.lines.now) (g.K.Sink.contents c.run_action.new.lines) c.run_action.new.floor)
    (uncut l team c.args.floor.now c.run_action.new.floor (g.K.Sink.contents c.args.lines.now) (g.K.Sink.contents c.run_action.new.lines) (c.in-Ok.ensures.run l))

pub returns-in-Ok-clause-cells : goal.returns-in-Ok-clause-cells
returns-in-Ok-clause-cells g c = λ other differ.
    others_stay c.legalizer_exists.ensures c.args.floor.now c.run_action.new.floor c.args.session.now.team.now c.args.cell.now c.args.session.now.session
    (change_of c.change_of.result) other c.change_of.ensures.cell (c.in-Ok.ensures.requested c.legalizer_exists.ensures) differ

pub returns-in-Ok-clause-legal : goal.returns-in-Ok-clause-legal
returns-in-Ok-clause-legal g c = λ other differ.
    other_remains_legal c.legalizer_exists.ensures c.args.floor.now c.run_action.new.floor c.args.session.now.team.now c.args.cell.now c.args.session.now.session
    (change_of c.change_of.result) other c.legal_in_range.ensures c.teams_match_frame.ensures c.in-Ok.ensures.only.frame c.change_of.ensures.cell
    (c.in-Ok.ensures.requested c.legalizer_exists.ensures) differ

pub returns-in-Ok-clause-committed : goal.returns-in-Ok-clause-committed
returns-in-Ok-clause-committed g c =
    committed_and_settings_stay c.legalizer_exists.ensures c.args.floor.now c.run_action.new.floor c.args.session.now.team.now c.args.session.now.session (change_of c.change_of.result)
    (no_pad c.args.session.now.session c.args.cell.now (change_of c.change_of.result) c.change_of.ensures.cell) (c.in-Ok.ensures.requested c.legalizer_exists.ensures)
    (no_commit c.args.session.now.session c.args.cell.now (change_of c.change_of.result) c.change_of.ensures.cell)

pub returns-in-Err-clause-cells : goal.returns-in-Err-clause-cells
returns-in-Err-clause-cells g c = λ other differ.
    others_stay c.legalizer_exists.ensures c.args.floor.now c.run_action.new.floor c.args.session.now.team.now c.args.cell.now c.args.session.now.session
    (change_of c.change_of.result) other c.change_of.ensures.cell (c.in-Err.ensures.requested c.legalizer_exists.ensures) differ

pub returns-in-Err-clause-legal : goal.returns-in-Err-clause-legal
returns-in-Err-clause-legal g c = λ other differ.
    other_remains_legal c.legalizer_exists.ensures c.args.floor.now c.run_action.new.floor c.args.session.now.team.now c.args.cell.now c.args.session.now.session
    (change_of c.change_of.result) other c.legal_in_range.ensures c.teams_match_frame.ensures c.in-Err.ensures.only.frame c.change_of.ensures.cell
    (c.in-Err.ensures.requested c.legalizer_exists.ensures) differ

pub returns-in-Err-clause-committed : goal.returns-in-Err-clause-committed
returns-in-Err-clause-committed g c =
    committed_and_settings_stay c.legalizer_exists.ensures c.args.floor.now c.run_action.new.floor c.args.session.now.team.now c.args.session.now.session (change_of c.change_of.result)
    (no_pad c.args.session.now.session c.args.cell.now (change_of c.change_of.result) c.change_of.ensures.cell) (c.in-Err.ensures.requested c.legalizer_exists.ensures)
    (no_commit c.args.session.now.session c.args.cell.now (change_of c.change_of.result) c.change_of.ensures.cell)

use Rattle.std.proofs.Common.{◌≡◌, refl, true}
use Rattle.lf_proto.specs.declared.verb.Change.TheVariants.{Commit}
use Rattle.lf_floor_model.specs.Steps.{AllCommittedIn}
use Rattle.lf_floor_model.specs.VerbLaws.{is_ok}
use Rattle.lf_repair_team.specs.Runs.{IsRunWithCutLine, IsWrittenRun}
use Rattle.lf_repair_team.proofs.Cells.{commit_stays}
use Rattle.lf_repair_team.proofs.Results.{err_from, ok_from, ok_then}
use Rattle.lf_repair_team.proofs.Runs.{uncut}
use Rattle.lf_repair_team.proofs.Settings.{other_settings_stay}
use Rattle.lf_repair_team.proofs.session.commit.Goals as goal

pub returns-in-Ok-clause-run : goal.returns-in-Ok-clause-run
returns-in-Ok-clause-run g c = λ l.
    let team = c.args.session.now.team.now in
    ok_from c.accepted.result (IsWrittenRun l team c.args.floor.now (g.K.Sink.contents c.args.lines.now) (g.K.Sink.contents c.run_action.new.lines) c.run_action.new.floor)
    (c.in-Ok.ensures.run l)

pub returns-in-Ok-clause-err : goal.returns-in-Ok-clause-err
returns-in-Ok-clause-err g c = λ l.
    let team = c.args.session.now.team.now in
    err_from c.accepted.result (IsRunWithCutLine l team c.args.floor.now (g.K.Sink.contents c.args.lines.now) (g.K.Sink.contents c.run_action.new.lines) c.run_action.new.floor)
    (uncut l team c.args.floor.now c.run_action.new.floor (g.K.Sink.contents c.args.lines.now) (g.K.Sink.contents c.run_action.new.lines)
    (c.in-Ok.ensures.run l))

pub returns-in-Ok-clause-committed : goal.returns-in-Ok-clause-committed
returns-in-Ok-clause-committed g c = λ l.
    let team = c.args.session.now.team.now in
    ok_then c.accepted.result (is_ok c.in-Ok.reply ≡ true) (AllCommittedIn l c.run_action.new.floor team)
    (λ accepted. c.in-Ok.ensures.committed l team c.args.session.now.session refl accepted) c.accepted.ensures

pub returns-in-Ok-clause-places : goal.returns-in-Ok-clause-places
returns-in-Ok-clause-places g c =
    commit_stays c.legalizer_exists.ensures c.args.floor.now c.run_action.new.floor c.args.session.now.team.now c.args.session.now.session
    (c.in-Ok.ensures.requested c.legalizer_exists.ensures)

pub returns-in-Err-clause-places : goal.returns-in-Err-clause-places
returns-in-Err-clause-places g c =
    commit_stays c.legalizer_exists.ensures c.args.floor.now c.run_action.new.floor c.args.session.now.team.now c.args.session.now.session
    (c.in-Err.ensures.requested c.legalizer_exists.ensures)

pub returns-in-Ok-clause-settings : goal.returns-in-Ok-clause-settings
returns-in-Ok-clause-settings g c =
    other_settings_stay c.legalizer_exists.ensures c.args.floor.now c.run_action.new.floor c.args.session.now.team.now c.args.session.now.session Commit refl
    (c.in-Ok.ensures.requested c.legalizer_exists.ensures)

pub returns-in-Err-clause-settings : goal.returns-in-Err-clause-settings
returns-in-Err-clause-settings g c =
    other_settings_stay c.legalizer_exists.ensures c.args.floor.now c.run_action.new.floor c.args.session.now.team.now c.args.session.now.session Commit refl
    (c.in-Err.ensures.requested c.legalizer_exists.ensures)

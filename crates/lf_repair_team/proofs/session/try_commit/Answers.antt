use Rattle.std.proofs.Common.{◌≡◌, ◌∙◌, false, refl, sym}
use Rattle.std.specs.Prelude.{IsTrue}
use Rattle.lf_proto.specs.declared.verb.Change.TheVariants.{Commit}
use Rattle.lf_floor_model.specs.Steps.{AllCommittedIn}
use Rattle.lf_floor_model.specs.VerbLaws.{is_ok}
use Rattle.lf_repair_team.specs.Runs.{IsRunWithCutLine, IsWrittenRun}
use Rattle.lf_repair_team.proofs.Cells.{commit_stays}
use Rattle.lf_repair_team.proofs.Results.{err_from, ok_from, ok_weaker}
use Rattle.lf_repair_team.proofs.Runs.{uncut}
use Rattle.lf_repair_team.proofs.Settings.{other_settings_stay}
use Rattle.lf_repair_team.proofs.session.try_commit.Goals as goal

pub returns-in-Ok-clause-run : goal.returns-in-Ok-clause-run
returns-in-Ok-clause-run g c = λ l.
    let team = c.args.session.now.team.now in
    ok_from c.done_unless_out_of_memory.result (IsWrittenRun l team c.args.floor.now (g.K.Sink.contents c.args.lines.now) (g.K.Sink.contents c.run_action.new.lines) c.run_action.new.floor)
    (c.in-Ok.ensures.run l)

pub returns-in-Ok-clause-err : goal.returns-in-Ok-clause-err
returns-in-Ok-clause-err g c = λ l.
    let team = c.args.session.now.team.now in
    err_from c.done_unless_out_of_memory.result (IsRunWithCutLine l team c.args.floor.now (g.K.Sink.contents c.args.lines.now) (g.K.Sink.contents c.run_action.new.lines) c.run_action.new.floor)
    (uncut l team c.args.floor.now c.run_action.new.floor (g.K.Sink.contents c.args.lines.now) (g.K.Sink.contents c.run_action.new.lines)
    (c.in-Ok.ensures.run l))

pub returns-in-Ok-clause-committed : goal.returns-in-Ok-clause-committed
returns-in-Ok-clause-committed g c = λ l.
    let team = c.args.session.now.team.now in
    ok_weaker c.done_unless_out_of_memory.result (λ is_done. is_done ≡ is_ok c.in-Ok.reply)
    (λ is_done. IsTrue is_done → AllCommittedIn l c.run_action.new.floor team)
    (λ is_done same done. c.in-Ok.ensures.committed l team c.args.session.now.session refl (sym same ∙ done))
    c.done_unless_out_of_memory.ensures

pub returns-in-Ok-clause-refused : goal.returns-in-Ok-clause-refused
returns-in-Ok-clause-refused g c =
    ok_weaker c.done_unless_out_of_memory.result (λ is_done. is_done ≡ is_ok c.in-Ok.reply)
    (λ is_done. is_done ≡ false → c.run_action.new.floor ≡ c.args.floor.now)
    (λ is_done same refused. c.in-Ok.ensures.refused (sym same ∙ refused))
    c.done_unless_out_of_memory.ensures

pub returns-in-Ok-clause-places : goal.returns-in-Ok-clause-places
returns-in-Ok-clause-places g c =
    commit_stays c.legalizer_exists.ensures c.args.floor.now c.run_action.new.floor c.args.session.now.team.now c.args.session.now.session
    (c.in-Ok.ensures.requested c.legalizer_exists.ensures)

pub returns-in-Err-clause-places : goal.returns-in-Err-clause-places
returns-in-Err-clause-places g c =
    commit_stays c.legalizer_exists.ensures c.args.floor.now c.run_action.new.floor c.args.session.now.team.now c.args.session.now.session
    (c.in-Err.ensures.requested c.legalizer_exists.ensures)

pub returns-in-Ok-clause-settings : goal.returns-in-Ok-clause-settings
returns-in-Ok-clause-settings g c =
    other_settings_stay c.legalizer_exists.ensures c.args.floor.now c.run_action.new.floor c.args.session.now.team.now c.args.session.now.session Commit refl
    (c.in-Ok.ensures.requested c.legalizer_exists.ensures)

pub returns-in-Err-clause-settings : goal.returns-in-Err-clause-settings
returns-in-Err-clause-settings g c =
    other_settings_stay c.legalizer_exists.ensures c.args.floor.now c.run_action.new.floor c.args.session.now.team.now c.args.session.now.session Commit refl
    (c.in-Err.ensures.requested c.legalizer_exists.ensures)

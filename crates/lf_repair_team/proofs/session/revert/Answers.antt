use Rattle.std.proofs.Common.{◌≡◌, refl, true}
use Rattle.lf_proto.specs.declared.verb.Change.TheVariants.{Revert}
use Rattle.lf_floor_model.specs.VerbLaws.{is_ok}
use Rattle.lf_repair_team.specs.CellEdits.{AreBackAtCommitted}
use Rattle.lf_repair_team.specs.Runs.{IsRunWithCutLine, IsWrittenRun}
use Rattle.lf_repair_team.proofs.Results.{err_from, ok_from, ok_then_on}
use Rattle.lf_repair_team.proofs.Reverting.{revert_back}
use Rattle.lf_repair_team.proofs.Runs.{uncut}
use Rattle.lf_repair_team.proofs.Settings.{committed_and_settings_stay}
use Rattle.lf_repair_team.proofs.session.revert.Goals as goal

pub returns-in-Ok-clause-run : goal.returns-in-Ok-clause-run
returns-in-Ok-clause-run g c = λ l.
    let team = c.args.session.now.team.now in
    ok_from c.accepted.result (IsWrittenRun l team c.args.floor.now (g.K.Sink.contents c.args.lines.now) (g.K.Sink.contents c.run_action.new.lines) c.run_action.new.floor)
    (c.in-Ok.ensures.run l)

pub returns-in-Ok-clause-err : goal.returns-in-Ok-clause-err
returns-in-Ok-clause-err g c = λ l.
    let team = c.args.session.now.team.now in
    err_from c.accepted.result (IsRunWithCutLine l team c.args.floor.now (g.K.Sink.contents c.args.lines.now) (g.K.Sink.contents c.run_action.new.lines) c.run_action.new.floor)
    (uncut l team c.args.floor.now c.run_action.new.floor (g.K.Sink.contents c.args.lines.now) (g.K.Sink.contents c.run_action.new.lines)
    (c.in-Ok.ensures.run l))

pub returns-in-Ok-clause-committed : goal.returns-in-Ok-clause-committed
returns-in-Ok-clause-committed g c =
    committed_and_settings_stay c.legalizer_exists.ensures c.args.floor.now c.run_action.new.floor c.args.session.now.team.now c.args.session.now.session Revert refl
    (c.in-Ok.ensures.requested c.legalizer_exists.ensures) refl

pub returns-in-Err-clause-committed : goal.returns-in-Err-clause-committed
returns-in-Err-clause-committed g c =
    committed_and_settings_stay c.legalizer_exists.ensures c.args.floor.now c.run_action.new.floor c.args.session.now.team.now c.args.session.now.session Revert refl
    (c.in-Err.ensures.requested c.legalizer_exists.ensures) refl

pub returns-in-Ok-clause-back : goal.returns-in-Ok-clause-back
returns-in-Ok-clause-back g c =
    let l = c.legalizer_exists.ensures in
    let team = c.args.session.now.team.now in
    ok_then_on c.accepted.result (is_ok c.in-Ok.reply ≡ true) (AreBackAtCommitted team c.args.floor.now c.run_action.new.floor)
    (λ granted. revert_back l c.args.floor.now c.run_action.new.floor team c.args.session.now.session c.in-Ok.reply (c.in-Ok.ensures.replied l) granted) c.accepted.ensures

use Rattle.std.proofs.Common.{inr}
use Rattle.std.proofs.lemmas.Result.{IfErr-weaker, IfOk-weaker}
use Rattle.lf_floor_model.specs.Designs.{initial_floor}
use Rattle.lf_floor.proofs.KeepingDesign.{of_one_design}
use Rattle.lf_task_files.proofs.Beginning.{fault_of_design, state_of_design}
use Rattle.lf_task_files.proofs.Looking.{teams_many}
use Rattle.lf_task_files.proofs.restore.floor_in_state.Goals as goal

pub returns-clause-ok : goal.returns-clause-ok
returns-clause-ok g c =
    IfOk-weaker c.restore_file.result _ _
    (λ floor is. state_of_design (g.T.InputFiles.gives c.args.texts.now) c.args.path.now (initial_floor c.args.design) c.in_ok-floor.floor floor c.in_ok-floor.ensures is)
    c.restore_file.ensures.ok

pub returns-clause-many : goal.returns-clause-many
returns-clause-many g c =
    IfOk-weaker c.restore_file.result _ _
    (λ floor same. teams_many c.args.design floor (of_one_design (initial_floor c.args.design) c.in_ok-floor.floor floor c.in_ok-floor.ensures same))
    c.restore_file.ensures.design

pub returns-clause-err : goal.returns-clause-err
returns-clause-err g c =
    IfErr-weaker c.restore_file.result _ _
    (λ fault is. inr (fault_of_design (g.T.InputFiles.gives c.args.texts.now) c.args.path.now (initial_floor c.args.design) c.in_ok-floor.floor fault c.in_ok-floor.ensures is))
    c.restore_file.ensures.err

use Rattle.std.proofs.Common.{refl}
use Rattle.std.specs.Prelude.{⊤}
use Rattle.lf_cli.specs.Command.{as_job}
use Rattle.lf_app.proofs.Performing.{std_fault, std_outcome}
use Rattle.lf_app.proofs.tasks.perform_with.Goals as goal

pub returns-clause-outcome : goal.returns-clause-outcome
returns-clause-outcome g c = λ done.
    std_outcome (λ path text. ⊤) (as_job c.args.task.now) _ _ _ _ _ _ _ _ c.perform_over-exit.result.status
    (rw c.new-environment.ensures at (c.perform_over-exit.ensures.outcome done)) refl refl refl refl

pub returns-clause-fault : goal.returns-clause-fault
returns-clause-fault g c = λ failed.
    std_fault (λ path text. ⊤) (as_job c.args.task.now) _ _ _ _ _ _ _ _ _ _ _ _ _ _ _ _ _ _ _ _ c.perform_over-exit.result
    (rw c.new-environment.ensures at (c.perform_over-exit.ensures.fault failed)) refl refl refl refl refl refl (λ same. same)

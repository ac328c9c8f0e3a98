use Rattle.lf_task_files.proofs.export.working_text.Goals as goal

pub invariant_of-result : goal.invariant_of-result
invariant_of-result c = c.requires.fits c.working.result c.working.ensures

use Rattle.lf_task_files.proofs.export.save_working.Goals as goal

pub working_text-text-requires : goal.working_text-text-requires
working_text-text-requires g c = record { fits = λ places are. rw c.deref.ensures.value (rw c.in-Some-Some.is-0 at (c.requires.fits places are)) }

use Rattle.lf_task_files.proofs.export.save_export.Goals as goal

pub exported_text-exported-requires : goal.exported_text-exported-requires
exported_text-exported-requires g c = record { fits = λ places are. rw c.deref.ensures.value (rw c.in-Some-Some.is-0 at (c.requires.fits places are)) }

use Rattle.lf_task_files.proofs.outputs.write_outputs.Goals as goal

pub save_export-requires : goal.save_export-requires
save_export-requires g c = record { kept = c.requires.kept; fits = c.requires.fits }

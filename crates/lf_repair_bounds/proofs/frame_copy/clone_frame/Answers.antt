use Rattle.lf_repair_bounds.proofs.frame_copy.clone_frame.Goals as goal

pub copy_with_soft-requires : goal.copy_with_soft-requires
copy_with_soft-requires c = rw c.as_slice.ensures c.args.frame.now.soft_in_def

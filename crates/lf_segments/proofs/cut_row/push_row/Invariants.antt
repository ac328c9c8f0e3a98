use Rattle.lf_segments.proofs.cut_row.push_row.Given as goal

abbrev pub ghost-push_fences : goal.ghost-push_fences
ghost-push_fences g a = g.obstacles

abbrev pub ghost-ground_spans : goal.ghost-ground_spans
ghost-ground_spans g a = g.obstacles

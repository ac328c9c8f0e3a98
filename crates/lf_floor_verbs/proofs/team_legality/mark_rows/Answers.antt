use Rattle.lf_floor_verbs.proofs.team_legality.mark_rows.Goals as goal

pub loop-row-preserved : goal.loop-row-preserved
loop-row-preserved g c = λ are. c.in_ok-mark_row.ensures (c.loop-row.invariant are)

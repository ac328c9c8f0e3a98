use Rattle.lf_floor_verbs.proofs.team_legality.legal_marks.Goals as goal

pub loop-own-preserved : goal.loop-own-preserved
loop-own-preserved g c = c.mark_legal.ensures c.loop-own.invariant

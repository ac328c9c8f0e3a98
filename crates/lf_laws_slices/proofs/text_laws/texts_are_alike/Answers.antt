use Rattle.lf_laws_slices.proofs.Lines.{lines_same}
use Rattle.lf_laws_slices.proofs.text_laws.texts_are_alike.Goals as goal

pub returns : goal.returns
returns c = λ l m team end end' a a' b b' v v' w w' done others alike comes comes' same.
    lines_same c.verdict_is_unique.ensures c.best_place_is_unique.ensures l m team end end' a a' b b' v v' w w' done others alike comes comes' same

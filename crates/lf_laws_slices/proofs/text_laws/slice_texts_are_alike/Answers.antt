use Rattle.lf_floor_model.specs.Designs.{initial_floor}
use Rattle.lf_laws_slices.proofs.Runs.{opens_alike}
use Rattle.lf_laws_slices.proofs.Lines.{lines_same}
use Rattle.lf_laws_slices.proofs.text_laws.slice_texts_are_alike.Goals as goal

pub returns : goal.returns
returns c = λ l m team end end' a b a' b' v v' w w' done others alike comes comes' same.
    lines_same c.verdict_is_unique.ensures c.best_place_is_unique.ensures l m team end end' (initial_floor a) a' (initial_floor b) b' v v' w w' done others
    (opens_alike team a b alike) comes comes' same

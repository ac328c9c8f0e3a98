use Rattle.lf_floor_model.specs.Designs.{initial_floor}
use Rattle.lf_laws_slices.proofs.Runs.{runs_alike, opens_alike}
use Rattle.lf_laws_slices.proofs.laws.slices_answer_alike.Goals as goal

pub returns : goal.returns
returns c = λ l m team a b a' b' commands others replies answers alike run_a run_b same.
    runs_alike c.verdict_is_unique.ensures c.best_place_is_unique.ensures l m team (initial_floor a) a' (initial_floor b) b' commands others replies answers
    (opens_alike team a b alike) run_a run_b same

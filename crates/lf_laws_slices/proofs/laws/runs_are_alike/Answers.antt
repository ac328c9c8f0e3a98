use Rattle.lf_laws_slices.proofs.Runs.{runs_alike}
use Rattle.lf_laws_slices.proofs.laws.runs_are_alike.Goals as goal

pub returns : goal.returns
returns c = λ l m team a a' b b' commands others replies answers alike run_a run_b same.
    runs_alike c.verdict_is_unique.ensures c.best_place_is_unique.ensures l m team a a' b b' commands others replies answers alike run_a run_b same

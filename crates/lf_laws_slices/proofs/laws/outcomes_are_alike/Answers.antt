use Rattle.lf_laws_slices.proofs.Runs.{ruled_alike}
use Rattle.lf_laws_slices.proofs.laws.outcomes_are_alike.Goals as goal

pub returns : goal.returns
returns c = λ l m f g number order s t frames teams.
    ruled_alike c.verdict_is_unique.ensures c.best_place_is_unique.ensures l m f g number order s t frames teams

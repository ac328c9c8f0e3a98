use Rattle.lf_laws_slices.proofs.Places.{verdict_same}
use Rattle.lf_laws_slices.proofs.laws.verdicts_are_alike.Goals as goal

pub returns : goal.returns
returns c = λ l m t g a sized. verdict_same c.verdict_is_unique.ensures l m t g a sized

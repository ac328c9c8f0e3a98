use Rattle.lf_laws_slices.proofs.Runs.{opens_alike}
use Rattle.lf_laws_slices.proofs.laws.designs_open_alike.Goals as goal

pub returns : goal.returns
returns c = λ team a b alike. opens_alike team a b alike

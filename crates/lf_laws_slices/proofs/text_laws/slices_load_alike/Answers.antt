use Rattle.lf_laws_slices.proofs.Cuts.{loads_alike}
use Rattle.lf_laws_slices.proofs.text_laws.slices_load_alike.Goals as goal

pub returns : goal.returns
returns c = λ team number whole slice a b cut here there named. loads_alike team number whole slice a b cut here there named

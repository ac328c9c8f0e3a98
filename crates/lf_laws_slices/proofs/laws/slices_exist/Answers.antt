use Rattle.lf_laws_slices.proofs.Slices.{slice_there}
use Rattle.lf_laws_slices.proofs.laws.slices_exist.Goals as goal

pub returns : goal.returns
returns c = λ whole team number more obstacles soft named in_lef same same_soft.
    slice_there whole team number more obstacles soft named in_lef same same_soft

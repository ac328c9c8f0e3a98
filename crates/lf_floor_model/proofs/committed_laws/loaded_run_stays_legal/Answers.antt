use Rattle.lf_floor_model.specs.Designs.{initial_floor}
use Rattle.lf_floor_model.proofs.Loading.{loaded_committed}
use Rattle.lf_floor_model.proofs.Openings.{opening_whole}
use Rattle.lf_floor_model.proofs.Running.{legal_run}
use Rattle.lf_floor_model.proofs.committed_laws.loaded_run_stays_legal.Goals as goal

pub returns : goal.returns
returns c l design new commands replies legal run =
    legal_run l commands replies (initial_floor design) new (opening_whole design).1 run ((loaded_committed design).1 legal)

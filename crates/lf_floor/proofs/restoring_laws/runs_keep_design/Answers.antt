use Rattle.lf_floor.proofs.KeepingDesign.{keeps_design}
use Rattle.lf_floor.proofs.restoring_laws.runs_keep_design.Goals as goal

pub returns : goal.returns
returns c = keeps_design

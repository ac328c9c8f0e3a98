use Rattle.lf_floor_model.proofs.Running.{commit_lasts}
use Rattle.lf_floor_model.proofs.committed_laws.commit_lasts.Goals as goal

pub returns : goal.returns
returns c l old new commands replies known run team number s had named there = commit_lasts l old new commands replies known run team number s had named there

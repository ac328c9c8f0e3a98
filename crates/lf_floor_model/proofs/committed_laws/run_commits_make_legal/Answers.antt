use Rattle.lf_floor_model.proofs.Running.{commits_legal}
use Rattle.lf_floor_model.proofs.committed_laws.run_commits_make_legal.Goals as goal

pub returns : goal.returns
returns c l old new commands replies known run all = commits_legal l commands replies old new known run all

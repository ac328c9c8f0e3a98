use Rattle.lf_floor_model.proofs.Kept.{committed_stay}
use Rattle.lf_floor_model.proofs.verb_laws.only_commit_commits.Goals as goal

pub returns : goal.returns
returns c t verb s other = committed_stay t verb s other

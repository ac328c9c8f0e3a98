use Rattle.lf_floor_model.proofs.TidyCommits.{tidied_commits}
use Rattle.lf_floor_model.proofs.committed_laws.run_tidied_commits.Goals as goal

pub returns : goal.returns
returns c l old new commands replies known run = tidied_commits c.legal_in_range.ensures l commands replies old new known run

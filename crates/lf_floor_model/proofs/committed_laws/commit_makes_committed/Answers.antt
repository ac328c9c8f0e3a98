use Rattle.lf_floor_model.proofs.Committing.{commit_commits}
use Rattle.lf_floor_model.proofs.committed_laws.commit_makes_committed.Goals as goal

pub returns : goal.returns
returns c t session s known accepted = let after = commit_commits t s known session accepted in (after.same, after.committed)

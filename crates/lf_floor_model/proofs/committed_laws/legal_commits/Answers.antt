use Rattle.lf_floor_model.proofs.TidyCommits.{legal_commits}
use Rattle.lf_floor_model.proofs.committed_laws.legal_commits.Goals as goal

pub returns : goal.returns
returns c t session s known legal = legal_commits t s known legal session

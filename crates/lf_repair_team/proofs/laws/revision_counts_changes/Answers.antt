use Rattle.lf_repair_team.proofs.Revisions.{run_revision}
use Rattle.lf_repair_team.proofs.laws.revision_counts_changes.Goals as goal

pub returns : goal.returns
returns c = run_revision

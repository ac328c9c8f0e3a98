use Rattle.lf_floor.proofs.Restoring.{tail_back}
use Rattle.lf_floor.proofs.restoring_laws.state_and_journal_restore.Goals as goal

pub returns : goal.returns
returns c = tail_back

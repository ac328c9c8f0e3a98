use Rattle.lf_state_text.proofs.Again.{state-again}
use Rattle.lf_state_text.proofs.laws.saved_reads_back.Goals as goal

pub returns : goal.returns
returns c = state-again

use Rattle.lf_floor_model.proofs.Journals.{backs_up}
use Rattle.lf_floor_model.proofs.laws.journal_restores.Goals as goal

pub returns : goal.returns
returns c = λ l old new commands replies run. backs_up l commands replies old new run

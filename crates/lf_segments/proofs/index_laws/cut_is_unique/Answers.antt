use Rattle.lf_segments.proofs.OneLemmas.{one_cut}
use Rattle.lf_segments.proofs.index_laws.cut_is_unique.Goals as goal

pub returns : goal.returns
returns c f obstacles a b first second = one_cut f obstacles a b first second

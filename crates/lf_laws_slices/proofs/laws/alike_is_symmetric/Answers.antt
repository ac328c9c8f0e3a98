use Rattle.lf_laws_slices.proofs.Rules.{turned_round}
use Rattle.lf_laws_slices.proofs.EitherWay.{floors_round, designs_round}
use Rattle.lf_laws_slices.proofs.laws.alike_is_symmetric.Goals as goal

pub returns : goal.returns
returns c = record { frames = turned_round; floors = floors_round; designs = designs_round }

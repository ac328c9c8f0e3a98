use Rattle.lf_write.proofs.Writing.{nothing_written}
use Rattle.lf_write.proofs.laws.nothing_changes.Goals as goal

pub returns : goal.returns
returns c = λ text components places is_in_place. nothing_written text components places is_in_place

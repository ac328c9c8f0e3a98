use Rattle.lf_placement.proofs.Changing.{macs_committed, macs_same}
use Rattle.lf_placement.proofs.Keeping.{last}
use Rattle.lf_placement.proofs.laws.fitting_is_stable.Goals as goal

pub returns-clause-last : goal.returns-clause-last
returns-clause-last c = last

pub returns-clause-macros : goal.returns-clause-macros
returns-clause-macros c = record { moved = macs_same; committed = macs_committed }

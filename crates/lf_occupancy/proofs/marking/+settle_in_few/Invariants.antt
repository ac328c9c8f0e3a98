use Rattle.std.proofs.Common.{length}
use Rattle.lf_occupancy.proofs.marking.+settle_in_few.Given as goal

abbrev pub decreases-settle_in_few : goal.decreases-settle_in_few
decreases-settle_in_few l = length l.rows.now.rows.now

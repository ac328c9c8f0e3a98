use Rattle.std.proofs.Common.{arith}
use Rattle.std.proofs.lemmas.Int.{ints}
use Rattle.lf_segments.proofs.HeightLemmas.{above_first, no_entry}
use Rattle.lf_segments.proofs.rows_by_y.count_up_to.Goals as goal

pub returns-then-y-entries-clause-rest : goal.returns-then-y-entries-clause-rest
returns-then-y-entries-clause-rest c =
    above_first c.args.entries.now c.args.y.now c.requires c.loop-n.n no_entry c.loop-n-test.true (omega (arith, ints))

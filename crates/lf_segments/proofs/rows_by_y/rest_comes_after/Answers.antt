use Rattle.std.proofs.Common.{sym, arith}
use Rattle.lf_segments.proofs.LastLemmas.{rest_first}
use Rattle.lf_segments.proofs.rows_by_y.rest_comes_after.Goals as goal

pub returns-then-entries-at : goal.returns-then-entries-at
returns-then-entries-at c = λ t k d from within. absurd (omega arith)

pub returns : goal.returns
returns c = λ t.
    rest_first c.args.entries.now c.args.y.now c.args.x.now c.requires c.args.at _ (omega arith) (sym c.if-comes_by.ensures)

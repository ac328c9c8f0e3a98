use Rattle.std.proofs.Common.{◌∙◌, sym, arith}
use Rattle.lf_segments.proofs.LastLemmas.{by_last}
use Rattle.lf_segments.proofs.rows_by_y.front_comes_by.Goals as goal

pub returns-then-at-eq0-clause-by : goal.returns-then-at-eq0-clause-by
returns-then-at-eq0-clause-by c = λ t k d less. absurd (omega arith)

pub returns-clause-by : goal.returns-clause-by
returns-clause-by c = λ t.
    by_last c.args.entries.now c.args.y.now c.args.x.now c.requires c.args.at _ (omega arith) (omega arith) (sym c.comes_by.ensures ∙ t)

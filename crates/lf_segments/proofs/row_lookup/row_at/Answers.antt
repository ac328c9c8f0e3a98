use Rattle.lf_segments.proofs.OnRowLemmas.{ended_row, no_row}
use Rattle.lf_segments.proofs.row_lookup.row_at.Goals as goal

pub returns-in_default : goal.returns-in_default
returns-in_default c = no_row c.args.frame.now c.args.rows.now c.args.y.now c.args.x.now c.requires c.in_default.ensures

pub returns-then-ends_by : goal.returns-then-ends_by
returns-then-ends_by c =
    ended_row c.args.frame.now c.args.rows.now c.args.y.now c.args.x.now _ _ c.requires c.in-Some.ensures c.row_of.ensures.row c.row_of.ensures.core_ones
    (c.ends_by.ensures.0 c.if-ends_by.true)

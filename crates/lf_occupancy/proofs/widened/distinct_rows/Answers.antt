use Rattle.lf_occupancy.proofs.Reaching.{once_in_run}
use Rattle.lf_occupancy.proofs.widened.distinct_rows.Goals as goal

pub invariant_of-result : goal.invariant_of-result
invariant_of-result c = record {
  once = once_in_run c.args.strips.now.index.now c.args.rect.now c.rows_near.result.now c.strips_are_placed.ensures.once c.rows_near.ensures;
}

use Rattle.std.proofs.Common.{int_lt, rules}
use Rattle.std.proofs.lemmas.List.Sorted.{IsPartitionPoint-from_clause}
use Rattle.lf_segments.proofs.HeightLemmas.{parted_below, below_y, from_y}
use Rattle.lf_segments.proofs.rows_by_y.count_below.Goals as goal

pub returns-clause-below : goal.returns-clause-below
returns-clause-below c =
    let entries = c.args.entries.now in
    let y = c.args.y.now in
    below_y entries y c.partition_point.result
    (IsPartitionPoint-from_clause (λ e. int_lt e.y y) entries _ c.partition_point.ensures.partitioned (parted_below entries y c.requires)
    (λ a r q k. search rules))

pub returns-clause-rest : goal.returns-clause-rest
returns-clause-rest c =
    let entries = c.args.entries.now in
    let y = c.args.y.now in
    from_y entries y c.partition_point.result
    (IsPartitionPoint-from_clause (λ e. int_lt e.y y) entries _ c.partition_point.ensures.partitioned (parted_below entries y c.requires)
    (λ a r q k. search rules))

use Rattle.std.proofs.Common.{rules}
use Rattle.std.proofs.lemmas.List.Sorted.{IsPartitionPoint-from_clause}
use Rattle.lf_segments.specs.RowsByY.{is_up_to_point}
use Rattle.lf_segments.proofs.LastLemmas.{by_point, parted_by, rest_point}
use Rattle.lf_segments.proofs.rows_by_y.count_by.Goals as goal

pub returns-clause-by : goal.returns-clause-by
returns-clause-by c =
    let entries = c.args.entries.now in
    let y = c.args.y.now in
    let x = c.args.x.now in
    by_point entries y x c.partition_point.result
    (IsPartitionPoint-from_clause (λ e. is_up_to_point y x e) entries _ c.partition_point.ensures.partitioned (parted_by entries y x c.requires)
    (λ a r q k. search rules))

pub returns-clause-rest : goal.returns-clause-rest
returns-clause-rest c =
    let entries = c.args.entries.now in
    let y = c.args.y.now in
    let x = c.args.x.now in
    rest_point entries y x c.partition_point.result
    (IsPartitionPoint-from_clause (λ e. is_up_to_point y x e) entries _ c.partition_point.ensures.partitioned (parted_by entries y x c.requires)
    (λ a r q k. search rules))

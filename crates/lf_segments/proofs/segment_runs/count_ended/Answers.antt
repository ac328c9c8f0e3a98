use Rattle.std.proofs.Common.{int_le, rules}
use Rattle.std.proofs.lemmas.List.Sorted.{IsPartitionPoint-from_clause}
use Rattle.lf_segments.proofs.EndLemmas.{parted, ended_point, rest_point}
use Rattle.lf_segments.proofs.segment_runs.count_ended.Goals as goal

pub returns-clause-ended : goal.returns-clause-ended
returns-clause-ended c =
    let x = c.args.x.now in
    ended_point c.args.segments.now x c.partition_point.result
    (IsPartitionPoint-from_clause (λ g. int_le g.span.hi x) _ _ c.partition_point.ensures.partitioned (parted c.args.segments.now x c.requires)
    (λ a r q k. search rules))

pub returns-clause-rest : goal.returns-clause-rest
returns-clause-rest c =
    let x = c.args.x.now in
    rest_point c.args.segments.now x c.partition_point.result
    (IsPartitionPoint-from_clause (λ g. int_le g.span.hi x) _ _ c.partition_point.ensures.partitioned (parted c.args.segments.now x c.requires)
    (λ a r q k. search rules))

use Rattle.std.proofs.Common.{arith, int_le, rules}
use Rattle.std.proofs.lemmas.List.Sorted.{IsPartitionPoint-from_clause}
use Rattle.lf_segments.specs.Strips.{is_earlier}
use Rattle.lf_segments.proofs.OrderLemmas.{ended_parted}
use Rattle.lf_segments.proofs.strips.count_ended.Goals as goal

pub returns-clause-ended : goal.returns-clause-ended
returns-clause-ended c =
    let xs = c.args.strips.now in
    let x = c.args.x.now in
    λ k d less. (IsPartitionPoint-from_clause (λ g. is_earlier c.args.row c.args.team (int_le g.area.x2 x) g) xs _ c.partition_point.ensures.partitioned
    (ended_parted c.args.row c.args.team x xs c.requires.order c.requires.wide) (λ a r q k. search rules)).0 k d (omega arith) less

pub returns-clause-rest : goal.returns-clause-rest
returns-clause-rest c =
    let xs = c.args.strips.now in
    let x = c.args.x.now in
    λ k d from within. (IsPartitionPoint-from_clause (λ g. is_earlier c.args.row c.args.team (int_le g.area.x2 x) g) xs _ c.partition_point.ensures.partitioned
    (ended_parted c.args.row c.args.team x xs c.requires.order c.requires.wide) (λ a r q k. search rules)).1 k d from within

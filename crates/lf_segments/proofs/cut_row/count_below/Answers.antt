use Rattle.std.proofs.Common.{ltb, rules}
use Rattle.std.proofs.lemmas.List.Sorted.{IsPartitionPoint-from_clause, IsPartitionedBy-ltb}
use Rattle.lf_segments.proofs.RunLemmas.{below_point, from_point}
use Rattle.lf_segments.proofs.cut_row.count_below.Goals as goal

pub returns-clause-below : goal.returns-clause-below
returns-clause-below c =
    let boxes = c.args.boxes.now in
    below_point (λ p. p.own) boxes c.args.own c.partition_point.result
    (IsPartitionPoint-from_clause (λ p. ltb p.own c.args.own) boxes _ c.partition_point.ensures.partitioned
    (IsPartitionedBy-ltb (λ p. p.own) boxes c.args.own c.requires) (λ a r q k. search rules))

pub returns-clause-rest : goal.returns-clause-rest
returns-clause-rest c =
    let boxes = c.args.boxes.now in
    from_point (λ p. p.own) boxes c.args.own c.partition_point.result
    (IsPartitionPoint-from_clause (λ p. ltb p.own c.args.own) boxes _ c.partition_point.ensures.partitioned
    (IsPartitionedBy-ltb (λ p. p.own) boxes c.args.own c.requires) (λ a r q k. search rules))

use Rattle.std.proofs.Common.{leb, rules}
use Rattle.std.proofs.lemmas.List.Sorted.{IsPartitionPoint-from_clause, IsPartitionedBy-leb}
use Rattle.lf_segments.proofs.RunLemmas.{up_to_point, beyond_point}
use Rattle.lf_segments.proofs.cut_row.count_up_to.Goals as goal

pub returns-clause-up_to : goal.returns-clause-up_to
returns-clause-up_to c =
    let boxes = c.args.boxes.now in
    up_to_point (λ p. p.own) boxes c.args.own c.partition_point.result
    (IsPartitionPoint-from_clause (λ p. leb p.own c.args.own) boxes _ c.partition_point.ensures.partitioned
    (IsPartitionedBy-leb (λ p. p.own) boxes c.args.own c.requires) (λ a r q k. search rules))

pub returns-clause-rest : goal.returns-clause-rest
returns-clause-rest c =
    let boxes = c.args.boxes.now in
    beyond_point (λ p. p.own) boxes c.args.own c.partition_point.result
    (IsPartitionPoint-from_clause (λ p. leb p.own c.args.own) boxes _ c.partition_point.ensures.partitioned
    (IsPartitionedBy-leb (λ p. p.own) boxes c.args.own c.requires) (λ a r q k. search rules))

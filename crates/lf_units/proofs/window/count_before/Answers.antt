use Rattle.std.proofs.Common.{int_lt, rules}
use Rattle.std.proofs.lemmas.List.Sorted.{IsPartitionPoint-from_clause}
use Rattle.lf_units.proofs.Windows.{before_entry, after_entry, parted_by}
use Rattle.lf_units.proofs.window.count_before.Goals as goal

pub returns-clause-before : goal.returns-clause-before
returns-clause-before g c =
    let limit = c.args.limit.now in
    before_entry g.T.HasSpan.span c.args.taken.now limit c.partition_point.result c.partition_point.ensures.bound
    (IsPartitionPoint-from_clause (λ x. int_lt (g.T.HasSpan.span x).lo limit) _ _ c.partition_point.ensures.partitioned
    (parted_by g.T.HasSpan.span c.args.taken.now limit c.requires) (λ a r q k. search rules))

pub returns-clause-after_it : goal.returns-clause-after_it
returns-clause-after_it g c =
    let limit = c.args.limit.now in
    after_entry g.T.HasSpan.span c.args.taken.now limit c.partition_point.result
    (IsPartitionPoint-from_clause (λ x. int_lt (g.T.HasSpan.span x).lo limit) _ _ c.partition_point.ensures.partitioned
    (parted_by g.T.HasSpan.span c.args.taken.now limit c.requires) (λ a r q k. search rules))

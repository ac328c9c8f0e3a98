use Rattle.std.proofs.Common.{ltb, rules}
use Rattle.std.proofs.lemmas.List.Sorted.{IsPartitionPoint-from_clause, IsPartitionedBy-ltb}
use Rattle.lf_segments.proofs.RunLemmas.{below_point, from_point}
use Rattle.lf_segments.proofs.StartLemmas.{start_of}
use Rattle.lf_segments.proofs.row_starts.count_earlier.Goals as goal

pub returns : goal.returns
returns c =
    let xs = c.args.segments.now in
    let row = c.args.row in
    let n = c.partition_point.result in
    let point = IsPartitionPoint-from_clause (λ g. ltb g.row row) xs n c.partition_point.ensures.partitioned (IsPartitionedBy-ltb (λ g. g.row) xs row c.requires)
    (λ a r q k. search rules) in
    start_of xs row n c.partition_point.ensures.bound (below_point (λ g. g.row) xs row n point) (from_point (λ g. g.row) xs row n point)

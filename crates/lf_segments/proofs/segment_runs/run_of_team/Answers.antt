use Rattle.std.proofs.Common.{◌-◌, length, take, drop, ltb, leb, rules}
use Rattle.std.proofs.lemmas.List.Sorted.{IsPartitionPoint-from_clause, IsPartitionedBy-ltb, IsPartitionedBy-leb}
use Rattle.std.proofs.lemmas.List.Sorted.{IsNonDecreasingBy-take, IsNonDecreasingBy-drop}
use Rattle.lf_units.proofs.Lists.{rest_from}
use Rattle.lf_segments.proofs.RunLemmas.{run_at, below_point, from_point, up_to_point, beyond_point}
use Rattle.lf_segments.proofs.segment_runs.run_of_team.Goals as goal

pub returns : goal.returns
returns c =
    let xs = c.args.segments.now in
    let t = c.args.team in
    let f = c.partition_point-start.result in
    let m = length xs - f in
    let ys = take m (drop f xs) in
    let n = c.partition_point-count.result in
    let first = IsPartitionPoint-from_clause (λ g. ltb g.team t) xs f c.partition_point-start.ensures.partitioned
    (IsPartitionedBy-ltb (λ g. g.team) xs t c.requires) (λ a r q k. search rules) in
    let rises = IsNonDecreasingBy-take (λ g. g.team) m (drop f xs) (IsNonDecreasingBy-drop (λ g. g.team) f xs c.requires) in
    let second = IsPartitionPoint-from_clause (λ g. leb g.team t) ys n c.partition_point-count.ensures.partitioned
    (IsPartitionedBy-leb (λ g. g.team) ys t rises) (λ a r q k. search rules) in
    run_at (λ g. g.team) xs ys t f n c.partition_point-start.ensures.bound (rest_from xs f) (below_point (λ g. g.team) xs t f first)
    (from_point (λ g. g.team) xs t f first)
    (up_to_point (λ g. g.team) ys t n second) (beyond_point (λ g. g.team) ys t n second)

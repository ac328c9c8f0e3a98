use Rattle.std.proofs.lemmas.List.Sorted.{IsNonDecreasingBy-take}
use Rattle.lf_segments.proofs.GroupLemmas.{fences_alone}
use Rattle.lf_segments.proofs.cut_row.without_obstacles.Goals as goal

pub returns-clause-boxes : goal.returns-clause-boxes
returns-clause-boxes c row boxes =
    let f = c.args.frame.now in
    fences_alone f f.obstacles row c.args.near.now c.count_below.result c.ground_number.result c.ground_number.ensures c.count_below.ensures.within
    c.count_below.ensures.below c.count_below.ensures.rest boxes

pub returns-clause-sorted : goal.returns-clause-sorted
returns-clause-sorted c = IsNonDecreasingBy-take (λ p. p.own) c.count_below.result c.args.near.now c.requires

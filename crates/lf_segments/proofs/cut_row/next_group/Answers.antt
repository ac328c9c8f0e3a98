use Rattle.std.proofs.Common.{◌-◌, length, take, drop, rules}
use Rattle.std.proofs.lemmas.List.Sorted.{IsNonDecreasingBy-take, IsNonDecreasingBy-drop}
use Rattle.lf_units.proofs.Lists.{rest_from}
use Rattle.lf_segments.proofs.GroupLemmas.{group_at}
use Rattle.lf_segments.proofs.cut_row.next_group.Goals as goal

pub returns : goal.returns
returns c =
    let xs = c.args.boxes.now in
    let f = c.count_below.result in
    let m = length xs - f in
    let ys = take m (drop f xs) in
    group_at xs ys c.args.least f c.count_up_to.result _ c.count_below.ensures.within (rest_from xs f) (search rules)
    (IsNonDecreasingBy-take (λ p. p.own) m (drop f xs) (IsNonDecreasingBy-drop (λ p. p.own) f xs c.requires))
    c.count_below.ensures.below c.count_below.ensures.rest
    c.count_up_to.ensures.up_to c.count_up_to.ensures.rest

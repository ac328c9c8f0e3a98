use Rattle.std.proofs.Common.{◌∷◌, ◌++◌, [], take, arith}
use Rattle.std.proofs.lemmas.List.Sorted.{IsPermutation-append_left, IsPermutation-trans}
use Rattle.lf_frame.specs.ComponentNames.{numbered_names}
use Rattle.lf_frame.proofs.Numbered.{numbered_more}
use Rattle.lf_frame.proofs.ClaimCounts.{all_bounds_seen}
use Rattle.lf_frame.proofs.component_names.parts_of_components.Goals as goal

pub loop-number-preserved : goal.loop-number-preserved
loop-number-preserved c =
    let components = c.args.components.now in
    let n = c.loop-number.number in
    let item = c.index-components-number.result in
    let more = numbered_more components n item c.loop-number-test.true c.index-components-number.is in
    let pushed = rw c.name.ensures at c.in_ok-push.ensures.ok in
    let before = IsPermutation-append_left (record { label = n; name = item.name } ∷ []) (numbered_names (take n components)) c.loop-number.parts
    c.loop-number.invariant in
    rw (← more) (IsPermutation-trans (numbered_names (take n components) ++ record { label = n; name = item.name } ∷ [])
    (c.loop-number.parts ++ record { label = n; name = item.name } ∷ []) c.push.new.self before pushed)

pub returns : goal.returns
returns c = rw (all_bounds_seen c.args.components.now c.loop-number.number (omega arith)) at c.loop-number.invariant

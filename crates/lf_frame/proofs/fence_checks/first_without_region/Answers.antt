use Rattle.lf_frame.specs.Refusals.{HasNoRegion}
use Rattle.lf_frame.proofs.Firsts.{first_found, none_more}
use Rattle.lf_frame.proofs.RegionNames.{outside_of, no_region_of}
use Rattle.lf_frame.proofs.fence_checks.first_without_region.Goals as goal

pub returns-then-is_outside : goal.returns-then-is_outside
returns-then-is_outside c =
    let item = c.index-groups-number.result in
    first_found (HasNoRegion c.args.regions.now) c.args.groups.now c.loop-number.number item c.loop-number-test.true c.index-groups-number.is
    (no_region_of c.args.regions.now c.in_ok-names.names item c.in_ok-names.ensures (c.is_outside.ensures.0 c.if-is_outside.true)) c.loop-number.invariant

pub loop-number-preserved : goal.loop-number-preserved
loop-number-preserved c =
    let item = c.index-groups-number.result in
    none_more (HasNoRegion c.args.regions.now) c.args.groups.now c.loop-number.number item c.loop-number-test.true c.index-groups-number.is
    (λ h. let t = c.is_outside.ensures.1 (outside_of c.args.regions.now c.in_ok-names.names item c.in_ok-names.ensures h) in let f = c.if-is_outside.false in cc) c.loop-number.invariant

use Rattle.std.proofs.Common.{take}
use Rattle.lf_frame.specs.Tables.{region_names}
use Rattle.lf_frame.proofs.RegionNames.{same_more, region_names_more}
use Rattle.lf_frame.proofs.fence_checks.region_names.Goals as goal

pub loop-region-preserved : goal.loop-region-preserved
loop-region-preserved c =
    let item = c.region-item.result in
    let more = region_names_more c.args.regions.now c.loop-region.region-index item c.loop-region-test.true c.region-item.is in
    let adds = rw c.as_bytes.ensures at c.in_ok-add.ensures.ok in
    rw (← more) (same_more c.loop-region.names c.add.new.self (region_names (take c.loop-region.region-index c.args.regions.now)) item.name c.in_ok-add.field-0 adds c.loop-region.invariant)

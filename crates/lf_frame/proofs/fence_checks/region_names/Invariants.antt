use Rattle.std.proofs.Common.{take}
use Rattle.lf_frame.specs.Tables.{HoldSameNames, region_names}
use Rattle.lf_frame.proofs.fence_checks.region_names.Given as goal

abbrev pub invariant-loop-region : goal.invariant-loop-region
invariant-loop-region l = HoldSameNames l.names (region_names (take l.region-index l.regions))

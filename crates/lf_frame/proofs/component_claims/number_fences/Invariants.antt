use Rattle.std.proofs.Common.{◌≡◌, ◌≤◌, length, take}
use Rattle.lf_frame.specs.Teams.{fence_names}
use Rattle.lf_frame.specs.NameMaps.{HasAllValues}
use Rattle.lf_frame.specs.Claims.{NumbersNames}
use Rattle.lf_frame.proofs.component_claims.number_fences.Given as goal

abbrev pub invariant-loop-region : goal.invariant-loop-region
invariant-loop-region l = record {
  whole : HasAllValues l.numbers;
  within : l.count ≤ l.region-index;
  counted : l.count ≡ length (fence_names (take l.region-index l.regions));
  numbered : NumbersNames (fence_names (take l.region-index l.regions)) l.numbers;
}

use Rattle.std.proofs.Common.{◌≡◌, take}
use Rattle.lf_frame.specs.Teams.{fence_names}
use Rattle.lf_frame.specs.Refusals.{HasEarlierFenceName}
use Rattle.lf_frame.proofs.Firsts.{first_found, none_more}
use Rattle.lf_frame.proofs.Named.{fence_known, fence_borne, fence_names_more}
use Rattle.lf_frame.proofs.fence_checks.first_second_fence.Goals as goal

pub returns-then-branch : goal.returns-then-branch
returns-then-branch c =
    let item = c.index-regions-number.result in
    let known : c.loop-number.names ≡ fence_names (take c.loop-number.number c.args.regions.now) = c.loop-number.invariant.known in
    let second = c.in_ok-is_second_fence.ensures.second c.if-branch.true in
    first_found HasEarlierFenceName c.args.regions.now c.loop-number.number item c.loop-number-test.true c.index-regions-number.is
    (second.0, fence_borne (take c.loop-number.number c.args.regions.now) item.name (rw known at second.1)) c.loop-number.invariant.none

pub loop-number-preserved : goal.loop-number-preserved
loop-number-preserved c =
    let item = c.index-regions-number.result in
    let known : c.loop-number.names ≡ fence_names (take c.loop-number.number c.args.regions.now) = c.loop-number.invariant.known in
    let added = c.in_ok-is_second_fence.ensures.names c.if-branch.false in
    let more = fence_names_more c.args.regions.now c.loop-number.number item c.loop-number-test.true c.index-regions-number.is in
    record {
      known = cc;
      none = none_more HasEarlierFenceName c.args.regions.now c.loop-number.number item c.loop-number-test.true c.index-regions-number.is
          (λ h. c.in_ok-is_second_fence.ensures.first c.if-branch.false h.0 (rw known (fence_known (take c.loop-number.number c.args.regions.now) item.name h.1)))
          c.loop-number.invariant.none;
    }

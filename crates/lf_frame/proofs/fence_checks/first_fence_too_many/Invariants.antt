use Rattle.std.proofs.Common.{◌≡◌, length, take}
use Rattle.std.specs.Prelude.{filter}
use Rattle.lf_def.specs.Kinds.{is_fence}
use Rattle.lf_frame.specs.Refusals.{IsFenceTooMany}
use Rattle.lf_frame.proofs.Firsts.{NoneBelow}
use Rattle.lf_frame.proofs.fence_checks.first_fence_too_many.Given as goal

abbrev pub invariant-loop-number : goal.invariant-loop-number
invariant-loop-number l = record {
  counted : l.fences ≡ length (filter is_fence (take l.number l.regions));
  none : NoneBelow (IsFenceTooMany l.limit) l.regions l.number;
}

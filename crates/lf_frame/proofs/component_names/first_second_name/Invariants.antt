use Rattle.std.proofs.Common.{◌≡◌, take}
use Rattle.lf_frame.specs.ClaimRefusals.{HasEarlierName}
use Rattle.lf_frame.specs.ComponentNames.{component_names}
use Rattle.lf_frame.proofs.Firsts.{NoneBelow}
use Rattle.lf_frame.proofs.component_names.first_second_name.Given as goal

abbrev pub invariant-loop-number : goal.invariant-loop-number
invariant-loop-number l = record {
  known : l.names ≡ component_names (take l.number l.components);
  none : NoneBelow HasEarlierName l.components l.number;
}

use Rattle.std.specs.Option.{option_copied}
use Rattle.lf_frame.specs.Conflicts.{ClaimsBut}
use Rattle.lf_frame.proofs.Firsts.{NoneBelow}
use Rattle.lf_frame.proofs.conflicts.first_claiming.Given as goal

abbrev pub invariant-loop-number : goal.invariant-loop-number
invariant-loop-number l = NoneBelow (ClaimsBut l.regions l.name (option_copied l.reported)) l.groups l.number

use Rattle.std.proofs.Common.{List}
use Rattle.lf_def.specs.declared.regions.Region.{Region}
use Rattle.lf_def.specs.declared.groups.Group.{Group}
use Rattle.lf_frame.specs.Entries.{NoneBreaks}
use Rattle.lf_frame.specs.ClaimRefusals.{IsClaimedTwice, HasEarlierName}
use Rattle.lf_frame.specs.ClaimTables.{IsTableOf}
use Rattle.lf_frame.proofs.Firsts.{NoneBelow}
use Rattle.lf_frame.proofs.component_claims.first_claimed_twice.Given as goal

abbrev pub invariant-loop-number : goal.invariant-loop-number
invariant-loop-number l = (regions : List Region) (groups : List Group) → NoneBreaks HasEarlierName l.components → IsTableOf regions groups l.components l.table → NoneBelow (IsClaimedTwice regions groups) l.components l.number

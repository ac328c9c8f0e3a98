use Rattle.std.proofs.Common.{List, take}
use Rattle.lf_def.specs.declared.regions.Region.{Region}
use Rattle.lf_frame.specs.Teams.{fence_names}
use Rattle.lf_frame.specs.Claims.{IndexesPatterns, NumbersNames, all_bounds}
use Rattle.lf_frame.proofs.pattern_index.index_of.Given as goal

abbrev pub invariant-loop-group : goal.invariant-loop-group
invariant-loop-group l = (regions : List Region) → NumbersNames (fence_names regions) l.numbers → IndexesPatterns l.index (all_bounds regions (take l.group-index l.groups))

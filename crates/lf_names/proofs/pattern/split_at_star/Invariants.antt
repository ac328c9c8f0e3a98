use Rattle.std.proofs.Common.{◌≡◌, ◌++◌, map, take, drop}
use Rattle.lf_names.specs.Pattern.{byte, parts_of, parts_from}
use Rattle.lf_names.proofs.pattern.split_at_star.Given as goal

abbrev pub invariant-loop-at : goal.invariant-loop-at
invariant-loop-at l = parts_of l.pattern ≡ map byte (take l.at l.pattern) ++ parts_from l.escaped (drop l.at l.pattern)

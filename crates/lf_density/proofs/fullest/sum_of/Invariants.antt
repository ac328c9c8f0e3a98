use Rattle.std.proofs.Common.{◌≡◌, sum, take}
use Rattle.lf_density.specs.Bins.{capped}
use Rattle.lf_density.proofs.fullest.sum_of.Given as goal

abbrev pub invariant-loop-number : goal.invariant-loop-number
invariant-loop-number l = l.total ≡ capped (sum (take l.number-index l.numbers))

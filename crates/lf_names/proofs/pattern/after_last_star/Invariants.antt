use Rattle.std.proofs.Common.{◌≡◌, length}
use Rattle.lf_names.specs.Pattern.{suffix_of}
use Rattle.lf_names.proofs.pattern.after_last_star.Given as goal

abbrev pub invariant-loop-after_it : goal.invariant-loop-after_it
invariant-loop-after_it l = suffix_of l.pattern ≡ suffix_of l.remaining

abbrev pub decreases-loop-after_it : goal.decreases-loop-after_it
decreases-loop-after_it l = length l.remaining

use Rattle.std.proofs.Common.{take}
use Rattle.std.specs.Prelude.{Some}
use Rattle.lf_frame.specs.Claims.{ExtendsIndex, bound_to}
use Rattle.lf_frame.proofs.pattern_index.PatternIndex.add_patterns.Given as goal

abbrev pub invariant-loop-pattern : goal.invariant-loop-pattern
invariant-loop-pattern l = ExtendsIndex l.fn.self l.self (bound_to (Some l.fence) (take l.pattern-index l.patterns))

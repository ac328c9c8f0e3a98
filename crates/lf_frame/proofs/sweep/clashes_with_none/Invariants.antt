use Rattle.std.proofs.Common.{ℕ, ◌<◌, get_or}
use Rattle.lf_frame.specs.declared.sweep.SweepRect.{SweepRect}
use Rattle.lf_frame.specs.Sweep.{Clash}
use Rattle.lf_frame.proofs.sweep.clashes_with_none.Given as goal

abbrev pub invariant-loop-other : goal.invariant-loop-other
invariant-loop-other l = (k : ℕ) (d : SweepRect) → k < l.other-index → Clash l.piece (get_or l.after_it k d) → ⊥

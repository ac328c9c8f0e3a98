use Rattle.std.proofs.Common.{arith, length-take-le, sym, take_all}
use Rattle.lf_task_faults.proofs.text_refusal.front_of.Goals as goal

pub slice_bounds-result-end : goal.slice_bounds-result-end
slice_bounds-result-end c = sym (length-take-le 80 c.args.line.now (omega (arith, c.if-line-le-SHOWN.false)))

pub returns-then-line-le-SHOWN : goal.returns-then-line-le-SHOWN
returns-then-line-le-SHOWN c = sym (take_all 80 c.args.line.now c.if-line-le-SHOWN.true)

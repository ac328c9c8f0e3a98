use Rattle.std.proofs.Common.{refl}
use Rattle.lf_task_serve.proofs.serve_lines.serve_lines_within.Goals as goal

pub returns-clause-served : goal.returns-clause-served
returns-clause-served g c = λ l.
    let serves = rw (c.limits_of.ensures.lines, c.requires.writable) at (c.serve-served.ensures.serves l) in
    record {
      served = c.serve-served.result;
      ends = refl;
      begun = _;
      flushed = _;
      failed = _;
      serves = serves;
    }

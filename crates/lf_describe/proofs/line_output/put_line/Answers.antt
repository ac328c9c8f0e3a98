use Rattle.lf_describe.proofs.Pieces.{unwritten}
use Rattle.lf_describe.proofs.line_output.put_line.Goals as goal

pub returns-in_default-clause-err : goal.returns-in_default-clause-err
returns-in_default-clause-err g c = unwritten _ _

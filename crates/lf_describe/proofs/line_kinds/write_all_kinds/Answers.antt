use Rattle.lf_describe.proofs.Pieces.{cut_last, on_err_weaker, on_ok_weaker, whole}
use Rattle.lf_describe.proofs.line_kinds.write_all_kinds.Goals as goal

pub returns-clause-ok : goal.returns-clause-ok
returns-clause-ok g c = on_ok_weaker c.put_last.result (λ p. whole _ _ _ _ _ c.in_ok-write_kinds.ensures.ok p) c.put_last.ensures.ok

pub returns-clause-err : goal.returns-clause-err
returns-clause-err g c = on_err_weaker c.put_last.result (λ p. cut_last _ _ _ _ _ c.in_ok-write_kinds.ensures.ok p) c.put_last.ensures.err

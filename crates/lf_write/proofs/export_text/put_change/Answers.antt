use Rattle.std.proofs.KnownBytes.{Appends-trans}
use Rattle.lf_write.proofs.export_text.put_change.Goals as goal

pub returns-clause-bytes : goal.returns-clause-bytes
returns-clause-bytes g c =
    Appends-trans _ _ _ _ _ (rw c.start.ensures at c.in_ok-put_part.ensures) (rw c.lacks.ensures at c.in_ok-put_new_clause.ensures)

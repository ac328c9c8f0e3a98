use Rattle.std.proofs.KnownBytes.{Appends-trans}
use Rattle.lf_write.proofs.clause_text.put_spaced_clause.Goals as goal

pub returns : goal.returns
returns g c = Appends-trans _ _ _ _ _ c.in_ok-put_clause.ensures c.in_ok-write_all.ensures.bytes

use Rattle.std.proofs.Common.{sym}
use Rattle.lf_frame.proofs.MapLemmas.{numbers_put, numbers_kept}
use Rattle.lf_frame.proofs.component_claims.put_fence.Goals as goal

pub returns-in-Some : goal.returns-in-Some
returns-in-Some c =
    numbers_kept c.args.numbers.now c.args.number c.in-Some.field-0 c.args.name.now c.requires (sym (rw c.as_bytes.ensures at c.in-Some.ensures))

pub returns-in_ok-put-in-None : goal.returns-in_ok-put-in-None
returns-in_ok-put-in-None c =
    numbers_put c.args.numbers.now c.put.new.self c.args.number c.args.name.now (sym (rw c.as_bytes.ensures at c.in-None.ensures))
    (rw c.as_bytes-in-None.ensures at c.in_ok-put-in-None.ensures)

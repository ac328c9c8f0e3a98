use Rattle.std.proofs.Common.{Some}
use Rattle.std.specs.Fmt.{signed_decimal}
use Rattle.lf_write.proofs.Fronts.{leaves}
use Rattle.lf_write.proofs.compare.after_number.Goals as goal

pub returns-in-Some : goal.returns-in-Some
returns-in-Some c = leaves c.args.bytes.now (signed_decimal c.args.number.now) (Some c.in-Some.left) (c.in-Some.ensures {u = tt})

use Rattle.std.proofs.Common.{arith}
use Rattle.std.proofs.lemmas.Fmt.{length_signed_le}
use Rattle.lf_server.proofs.answer.coordinate_is_short.Goals as goal

pub returns : goal.returns
returns c =
    length_signed_le 10 c.args.coordinate (omega (arith, c.ranges.coordinate.sfits)) (omega (arith, c.ranges.coordinate.sfits))

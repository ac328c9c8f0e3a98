use Rattle.std.proofs.Common.{◌<◌, pos, length, arith, rules}
use Rattle.std.proofs.lemmas.Int.{ints}
use Rattle.lf_units.specs.declared.span.Span.{Span}
use Rattle.lf_units.proofs.SpanEdges.{rising_within}
use Rattle.lf_units.proofs.minus.range_of.Goals as goal

pub returns : goal.returns
returns c =
    let default : Span = record { lo = pos 0; hi = pos 0 } in
    let some : 0 < length c.args.spans.now = search rules in
    rising_within c.args.spans.now _ default some c.requires (omega (arith, ints)) (omega (arith, ints))

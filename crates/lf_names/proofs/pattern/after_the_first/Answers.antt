use Rattle.std.proofs.Common.{None, Some}
use Rattle.std.proofs.lemmas.Bool.Decides.{Decides-eqb}
use Rattle.std.proofs.lemmas.Slice.Eq.{strip_prefix_is}
use Rattle.lf_names.proofs.Places.{first_place, shorter_end}
use Rattle.lf_names.proofs.pattern.after_the_first.Goals as goal

pub returns-in-Some : goal.returns-in-Some
returns-in-Some c =
    first_place c.args.name.now c.args.piece.now c.loop-rest.end.now c.in-Some.rest.now c.loop-rest.invariant
    (strip_prefix_is Decides-eqb c.loop-rest.end.now c.args.piece.now (Some c.in-Some.rest) c.in-Some.ensures.cases)

pub loop-rest-preserved : goal.loop-rest-preserved
loop-rest-preserved c =
    shorter_end c.args.name.now c.args.piece.now c.loop-rest.end.now c.in_ok-shorter.shorter.now c.in_ok-shorter.field-0-0.now
    c.loop-rest.invariant c.in_ok-shorter.ensures.cases.0
    (strip_prefix_is Decides-eqb c.loop-rest.end.now c.args.piece.now None c.in_default.ensures.cases)

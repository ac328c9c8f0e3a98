use Rattle.std.proofs.Common.{[], ◌∷◌, ◌++◌, length, ◌≤◌, arith}
use Rattle.std.proofs.lemmas.List.Elements.{All-push}
use Rattle.std.proofs.lemmas.List.{length-append}
use Rattle.lf_wire_nets.specs.NetRanges.{IsDesignNet}
use Rattle.lf_wire_nets.proofs.sections.with_net.Goals as goal

pub returns-in_err-push-clause-range : goal.returns-in_err-push-clause-range
returns-in_err-push-clause-range c = record {
  pins = c.requires.range.pins;
  nets = rw c.in_err-push.ensures.err c.requires.range.nets;
  few_nets = rw c.in_err-push.ensures.err c.requires.range.few_nets;
  few_terms = omega (arith, c.in_ok-net.ensures.few, c.len-2.ensures, c.requires.range.few_terms);
}

pub returns-clause-range : goal.returns-clause-range
returns-clause-range c = record {
  pins = c.requires.range.pins;
  nets = rw c.in_ok-push.ensures.ok (All-push IsDesignNet c.args.nets.now.nets c.in_ok-net.net c.requires.range.nets c.in_ok-net.ensures.range);
  few_nets = rw c.in_ok-push.ensures.ok (omega (arith, length-append c.args.nets.now.nets (c.in_ok-net.net ∷ []), c.len.ensures, c.if-len-ge16777216.false));
  few_terms = omega (arith, c.in_ok-net.ensures.few, c.len-2.ensures, c.requires.range.few_terms);
}

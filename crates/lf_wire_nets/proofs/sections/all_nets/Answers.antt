use Rattle.std.proofs.Common.{arith}
use Rattle.std.proofs.lemmas.Result.{err_from_is_err_and}
use Rattle.lf_lex.proofs.Turns.{turn_on, turn_ends, turn_fails}
use Rattle.lf_wire_nets.specs.NetTexts.{net_or_end}
use Rattle.lf_wire_nets.proofs.sections.all_nets.Goals as goal

pub returns-in_err-net_or_end-clause-read : goal.returns-in_err-net_or_end-clause-read
returns-in_err-net_or_end-clause-read c =
    let p = err_from_is_err_and c.from_residual.result c.from_residual.ensures.1 in
    rw (p.1, p.2) (turn_fails net_or_end c.in_err-net_or_end.field-0.0 c.loop.nets c.loop.lexer _ c.loop.invariant.going c.in_err-net_or_end.ensures.read)

pub loop-preserved : goal.loop-preserved
loop-preserved c = record {
  going = turn_on net_or_end c.loop.nets c.net_or_end.new.nets c.loop.lexer c.net_or_end.new.lexer _ c.in_ok-net_or_end.field-0 c.loop.invariant.going c.if-branch.true c.in_ok-net_or_end.ensures.read.0 c.in_ok-net_or_end.ensures.read.1;
  fewer = omega (arith, c.in_ok-net_or_end.ensures.read.1);
  range = c.net_or_end.ensures.range;
}

pub returns-clause-read : goal.returns-clause-read
returns-clause-read c = (
  turn_ends net_or_end c.loop.nets c.net_or_end.new.nets c.loop.lexer c.net_or_end.new.lexer _ c.in_ok-net_or_end.field-0 c.loop.invariant.going c.if-branch.false c.in_ok-net_or_end.ensures.read.0,
  omega (arith, c.in_ok-net_or_end.ensures.read.1),
)

use Rattle.std.proofs.Common.{arith}
use Rattle.std.proofs.lemmas.Result.{err_from_is_err_and}
use Rattle.lf_lex.proofs.Turns.{turn_on, turn_ends, turn_fails}
use Rattle.lf_wire_nets.specs.Nets.{net_statement}
use Rattle.lf_wire_nets.proofs.nets.net_parts.Goals as goal

pub returns-in_err-net_statement-clause-read : goal.returns-in_err-net_statement-clause-read
returns-in_err-net_statement-clause-read c =
    let p = err_from_is_err_and c.from_residual.result c.from_residual.ensures.1 in
    rw (p.1, p.2) (turn_fails (net_statement c.args.most) c.in_err-net_statement.field-0.0 c.loop.parts c.loop.lexer _ c.loop.invariant.going c.in_err-net_statement.ensures.read)

pub loop-preserved : goal.loop-preserved
loop-preserved c = record {
  going = turn_on (net_statement c.args.most) c.loop.parts c.net_statement.new.parts c.loop.lexer c.net_statement.new.lexer _ c.in_ok-net_statement.field-0 c.loop.invariant.going c.if-branch.true c.in_ok-net_statement.ensures.read.0 c.in_ok-net_statement.ensures.read.1;
  fewer = omega (arith, c.in_ok-net_statement.ensures.read.1);
  range = c.net_statement.ensures.range;
}

pub returns-clause-read : goal.returns-clause-read
returns-clause-read c = (
  turn_ends (net_statement c.args.most) c.loop.parts c.net_statement.new.parts c.loop.lexer c.net_statement.new.lexer _ c.in_ok-net_statement.field-0 c.loop.invariant.going c.if-branch.false c.in_ok-net_statement.ensures.read.0,
  omega (arith, c.in_ok-net_statement.ensures.read.1),
)

use Rattle.std.proofs.Common.{arith}
use Rattle.std.proofs.lemmas.Result.{err_from_is_err_and}
use Rattle.lf_lex.proofs.Turns.{turn_on, turn_ends, turn_fails}
use Rattle.lf_wire_nets.specs.MacroPins.{pins_statement as statement}
use Rattle.lf_wire_nets.proofs.macros.all_pins.Goals as goal

pub returns-in_err-pins_statement-clause-read : goal.returns-in_err-pins_statement-clause-read
returns-in_err-pins_statement-clause-read c =
    let p = err_from_is_err_and c.from_residual.result c.from_residual.ensures.1 in
    rw (p.1, p.2) (turn_fails (statement c.args.name.now) c.in_err-pins_statement.field-0.0 c.loop.pins c.loop.lexer _ c.loop.invariant.going c.in_err-pins_statement.ensures.read)

pub loop-preserved : goal.loop-preserved
loop-preserved c = record {
  going = turn_on (statement c.args.name.now) c.loop.pins c.pins_statement.new.pins c.loop.lexer c.pins_statement.new.lexer _ c.in_ok-pins_statement.field-0 c.loop.invariant.going c.if-branch.true c.in_ok-pins_statement.ensures.read.0 c.in_ok-pins_statement.ensures.read.1;
  fewer = omega (arith, c.in_ok-pins_statement.ensures.read.1);
  range = c.pins_statement.ensures.range;
}

pub returns-clause-read : goal.returns-clause-read
returns-clause-read c = (
  turn_ends (statement c.args.name.now) c.loop.pins c.pins_statement.new.pins c.loop.lexer c.pins_statement.new.lexer _ c.in_ok-pins_statement.field-0 c.loop.invariant.going c.if-branch.false c.in_ok-pins_statement.ensures.read.0,
  omega (arith, c.in_ok-pins_statement.ensures.read.1),
)

use Rattle.std.proofs.Common.{arith}
use Rattle.std.proofs.lemmas.Result.{err_from_is_err_and}
use Rattle.lf_lex.specs.Reading as reading
use Rattle.lf_lex.proofs.Turns.{begins, turn_on, turn_ends, turn_fails}
use Rattle.lf_lex.proofs.block.read_block.Goals as goal

pub loop-init : goal.loop-init
loop-init g c = record {
  going = begins (g.B.Block.statement c.args.block.now) c.args.state.now c.args.lexer.now;
  fewer = omega arith;
  kept = c.requires.kept;
}

pub returns-in_err-turn-clause-read : goal.returns-in_err-turn-clause-read
returns-in_err-turn-clause-read g c =
    let statement = g.B.Block.statement c.args.block.now in
    let p = err_from_is_err_and c.from_residual.result c.from_residual.ensures.1 in
    rw (p.1, p.2) (turn_fails statement c.in_err-turn.field-0.0 c.loop.state c.loop.lexer
    (reading.block statement c.args.state.now c.args.lexer.now) c.loop.invariant.going c.in_err-turn.ensures.read)

pub loop-preserved : goal.loop-preserved
loop-preserved g c =
    let statement = g.B.Block.statement c.args.block.now in
    record {
      going = turn_on statement c.loop.state c.turn.new.state c.loop.lexer c.turn.new.lexer (reading.block statement c.args.state.now c.args.lexer.now)
          c.in_ok-turn.field-0 c.loop.invariant.going c.if-branch.true c.in_ok-turn.ensures.read.0 c.in_ok-turn.ensures.read.1;
      fewer = omega (arith, c.in_ok-turn.ensures.read.1);
      kept = c.in_ok-turn.ensures.kept;
    }

pub returns-clause-read : goal.returns-clause-read
returns-clause-read g c =
    let statement = g.B.Block.statement c.args.block.now in (
      turn_ends statement c.loop.state c.turn.new.state c.loop.lexer c.turn.new.lexer (reading.block statement c.args.state.now c.args.lexer.now)
          c.in_ok-turn.field-0 c.loop.invariant.going c.if-branch.false c.in_ok-turn.ensures.read.0,
      omega (arith, c.in_ok-turn.ensures.read.1),
    )
